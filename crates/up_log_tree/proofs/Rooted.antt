-- What records that fit keep: each item stands at its name, in a directory, and is of a kind that may stand there.
use Rattle.std.proofs.Common.{◌≡◌, ℕ, zero, suc, ◌+◌, Bool, true, false, cond, ◌&&◌, List, [], length, take, refl, sym, ap, subst, ◌∙◌, ◌⊎◌, inl, inr, arith, Option, Some, None, is_some}
use Rattle.std.specs.Prelude.{MatchOption, ⊤}
use Rattle.std.proofs.lemmas.Bool.{false≢true}
use Rattle.std.proofs.Math.Seq.{take-length}
use Rattle.up_names.specs.PathNames.{PathName, control_of, cut, parent_of}
use Rattle.up_names.specs.PathOrder.{path_eq}
use Rattle.up_entry.specs.Rules.{control_fits}
use Rattle.up_entry.specs.declared.entries.Entry.{Entry}
use Rattle.up_entry.specs.declared.entries.Kind.TheVariants.{File, Directory}
use Rattle.up_entry.specs.declared.records.Rec.{Rec}
use Rattle.up_entry.specs.declared.records.Rec.TheVariants.{Put, Delete, Snap}
use Rattle.up_log_tree.specs.Fits.{AreFitting, DeleteFits, Fits, HasDirectory, HasPlace, PutFits}
use Rattle.up_log_tree.specs.Orders.{has_path as has}
use Rattle.up_log_tree.specs.Trees.{Tree, Node, after_record, children, kind_of, node_at, tree_of}
use Rattle.up_log_tree.proofs.Fronts.{each_front}
use Rattle.up_log_tree.proofs.Paths.{cut_cut, length_cut, parent_is, parent_passes, path_same, some_none, some_same}
use Rattle.up_log_tree.proofs.Trees.{has_child, node_at-delete, node_at-empty, node_at-put, tree_of-push}

-- each item stands at its name, in a directory, and is of a kind that may stand there
pub record IsRooted (owner : List ℕ) (tree : Tree) : Type 0 where
  pub named : (path : PathName) (node : Node) → node_at tree path ≡ Some node → node.entry.name ≡ path
  pub placed : (path : PathName) (node : Node) → node_at tree path ≡ Some node → HasPlace owner tree path
  pub control : (path : PathName) (node : Node) → node_at tree path ≡ Some node → control_fits (kind_of node) (control_of path) ≡ true

pub cond_some : {X : Type 0} (b : Bool) (x y : X) (o : Option X) → cond b (Some x) o ≡ Some y → ((b ≡ true) × (x ≡ y)) ⊎ ((b ≡ false) × (o ≡ Some y))
cond_some true x y o h = inl (refl, some_same x y h)
cond_some false x y o h = inr (refl, h)

pub cond_none : {X : Type 0} (b : Bool) (y : X) (o : Option X) → cond b None o ≡ Some y → (b ≡ false) × (o ≡ Some y)
cond_none true y o h = absurd (some_none y (sym h))
cond_none false y o h = (refl, h)

-- a part of an option, shown of another
match_kept : {X : Type 0} (N : Type 0) (P Q : X → Type 0) (o : Option X) → ((x : X) → o ≡ Some x → P x → Q x) → MatchOption o N P → MatchOption o N Q
match_kept N P Q None f h = h
match_kept N P Q (Some x) f h = f x refl h

-- ---- a Put keeps

file_not_directory : (node : Node) → kind_of node ≡ File → kind_of node ≡ Directory → ⊥
file_not_directory node f d = absurd (cc)

module _ (owner : List ℕ) (before : List Rec) (entry : Entry) (text : List ℕ) (fits : PutFits owner before entry text) where
  directory_put : (path : PathName) → HasDirectory (tree_of before) path → HasDirectory (after_record (tree_of before) (Put entry text)) path
  directory_put path (node, there, directory) = go (path_eq path entry.name) refl
    where
      go : (is : Bool) → path_eq path entry.name ≡ is → HasDirectory (after_record (tree_of before) (Put entry text)) path
      go true is =
          let stood : node_at (tree_of before) entry.name ≡ Some node = ap (node_at (tree_of before)) (sym (path_same path entry.name is)) ∙ there in
          let place = subst (λ o. MatchOption o ⊤ (λ n. (kind_of n ≡ File) × (entry.attr.kind ≡ Directory → ⊥))) stood fits.replaces in
          absurd (file_not_directory node place.0 directory)
      go false is = (node, node_at-put (tree_of before) entry text path ∙ (ap (λ b. cond b (Some (record { entry = entry; text = text })) (node_at (tree_of before) path)) is ∙ there), directory)

  place_put : (path : PathName) → HasPlace owner (tree_of before) path → HasPlace owner (after_record (tree_of before) (Put entry text)) path
  place_put path h = match_kept (path.owner ≡ owner) (HasDirectory (tree_of before)) (HasDirectory (after_record (tree_of before) (Put entry text))) (parent_of path) (λ dir is. directory_put dir) h

  put_cases : (path : PathName) (node : Node) → node_at (after_record (tree_of before) (Put entry text)) path ≡ Some node → ((path_eq path entry.name ≡ true) × (record { entry = entry; text = text } ≡ node)) ⊎ ((path_eq path entry.name ≡ false) × (node_at (tree_of before) path ≡ Some node))
  put_cases path node there = cond_some (path_eq path entry.name) (record { entry = entry; text = text }) node (node_at (tree_of before) path) (sym (node_at-put (tree_of before) entry text path) ∙ there)

  rooted_put : IsRooted owner (tree_of before) → IsRooted owner (after_record (tree_of before) (Put entry text))
  rooted_put rooted = record {
    named = λ path node there. elim (put_cases path node there) [ inl (is, same) ↦ ap (λ n. n.entry.name) (sym same) ∙ sym (path_same path entry.name is) | inr (is, old) ↦ rooted.named path node old ];
    placed = λ path node there. elim (put_cases path node there) [ inl (is, same) ↦ subst (HasPlace owner (after_record (tree_of before) (Put entry text))) (sym (path_same path entry.name is)) (place_put entry.name fits.place) | inr (is, old) ↦ place_put path (rooted.placed path node old) ];
    control = λ path node there. elim (put_cases path node there) [ inl (is, same) ↦ ap (λ n. control_fits (kind_of n) (control_of path)) (sym same) ∙ (ap (λ p. control_fits entry.attr.kind (control_of p)) (path_same path entry.name is) ∙ fits.form.control) | inr (is, old) ↦ rooted.control path node old ];
  }

-- ---- a Delete keeps

-- a path without children is no parent of an item
pub no_child : (tree : Tree) (dir path : PathName) (node : Node) → children tree dir ≡ [] → node_at tree path ≡ Some node → parent_of path ≡ Some dir → ⊥
no_child tree dir path node none there is =
    false≢true (sym (ap (λ l. has l path) none) ∙ has_child tree dir path ∙ ap (λ b. b && is_some (node_at tree path)) (parent_passes dir path is) ∙ ap is_some there)

module _ (owner : List ℕ) (before : List Rec) (gone : PathName) (fits : DeleteFits before gone) where
  directory_delete : (path : PathName) → (path ≡ gone → ⊥) → HasDirectory (tree_of before) path → HasDirectory (after_record (tree_of before) (Delete gone)) path
  directory_delete path other (node, there, directory) = go (path_eq gone path) refl
    where
      go : (is : Bool) → path_eq gone path ≡ is → HasDirectory (after_record (tree_of before) (Delete gone)) path
      go true is = absurd (other (sym (path_same gone path is)))
      go false is = (node, node_at-delete (tree_of before) gone path ∙ (ap (λ b. cond b None (node_at (tree_of before) path)) is ∙ there), directory)

  stood : (path : PathName) (node : Node) → node_at (after_record (tree_of before) (Delete gone)) path ≡ Some node → node_at (tree_of before) path ≡ Some node
  stood path node there = (cond_none (path_eq gone path) node (node_at (tree_of before) path) (sym (node_at-delete (tree_of before) gone path) ∙ there)).1

  rooted_delete : IsRooted owner (tree_of before) → IsRooted owner (after_record (tree_of before) (Delete gone))
  rooted_delete rooted = record {
    named = λ path node there. rooted.named path node (stood path node there);
    placed = λ path node there. match_kept (path.owner ≡ owner) (HasDirectory (tree_of before)) (HasDirectory (after_record (tree_of before) (Delete gone))) (parent_of path)
        (λ dir is. directory_delete dir (λ same. no_child (tree_of before) gone path node fits.empty (stood path node there) (is ∙ ap Some same))) (rooted.placed path node (stood path node there));
    control = λ path node there. rooted.control path node (stood path node there);
  }

-- ---- all records

rooted_after : (owner : List ℕ) (before : List Rec) (rec : Rec) → Fits owner before rec → IsRooted owner (tree_of before) → IsRooted owner (after_record (tree_of before) rec)
unfolding after_record
rooted_after owner before (Put entry text) fits rooted = rooted_put owner before entry text fits rooted
rooted_after owner before (Delete gone) fits rooted = rooted_delete owner before gone fits rooted
rooted_after owner before (Snap time) fits rooted = rooted

rooted_empty : (owner : List ℕ) → IsRooted owner (tree_of [])
rooted_empty owner = record {
  named = λ path node there. absurd (some_none node (sym there ∙ node_at-empty path));
  placed = λ path node there. absurd (some_none node (sym there ∙ node_at-empty path));
  control = λ path node there. absurd (some_none node (sym there ∙ node_at-empty path));
}

module _ (owner : List ℕ) (records : List Rec) (fitting : AreFitting owner records) where
  pub rooted_at : (n : ℕ) → IsRooted owner (tree_of (take n records))
  rooted_at = each_front (λ front. IsRooted owner (tree_of front)) records (rooted_empty owner)
      (λ n rec is so_far. subst (IsRooted owner) (sym (tree_of-push (take n records) rec)) (rooted_after owner (take n records) rec (fitting.each n rec is) so_far))

  pub rooted : IsRooted owner (tree_of records)
  rooted = subst (λ rs. IsRooted owner (tree_of rs)) (take-length records) (rooted_at (length records))

-- ---- nothing stands below a file or a link

module _ (owner : List ℕ) (tree : Tree) (rooted : IsRooted owner tree) where
  -- each proper prefix of an item is a directory
  pub prefix_directory : (k : ℕ) (path : PathName) (node : Node) (m : ℕ) → node_at tree path ≡ Some node → m + suc k ≡ length path.elements → HasDirectory tree (cut m path)
  prefix_directory zero path node m there is =
      subst (λ o. MatchOption o (path.owner ≡ owner) (HasDirectory tree)) (parent_is path m (let e : length path.elements ≡ suc m = omega (arith, is) in e)) (rooted.placed path node there)
  prefix_directory (suc k) path node m there is =
      let n : ℕ = m + suc k in
      let up : HasDirectory tree (cut n path) = subst (λ o. MatchOption o (path.owner ≡ owner) (HasDirectory tree)) (parent_is path n (let e : length path.elements ≡ suc n = omega (arith, is) in e)) (rooted.placed path node there) in
      let shorter : length (cut n path).elements ≡ n = length_cut n path (omega (arith, is)) in
      subst (HasDirectory tree) (cut_cut m n path (omega arith)) (prefix_directory k (cut n path) up.0 m up.1 (sym shorter))
