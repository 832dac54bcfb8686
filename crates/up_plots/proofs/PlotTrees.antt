-- What a record that puts or deletes a file keeps of a tree, and what the records that prepare a directory make of it.
use Rattle.std.proofs.Common.{◌≡◌, ℕ, ◌≤◌, Bool, false, cond, length, sym, ap, subst, ◌∙◌, ◌⊎◌, inl, inr, arith, Some, None}
use Rattle.std.specs.Prelude.{codes, slice_get}
use Rattle.std.specs.Str.{bytes_eq}
use Rattle.std.proofs.lemmas.Bool.{false≢true}
use Rattle.std.proofs.lemmas.Slice.Eq.{bytes_eq-Decides}
use Rattle.up_entry.specs.declared.entries.Entry.{Entry}
use Rattle.up_entry.specs.declared.entries.Kind.{Kind}
use Rattle.up_entry.specs.declared.entries.Kind.TheVariants.{File}
use Rattle.up_entry.specs.declared.records.Rec.{Rec}
use Rattle.up_entry.specs.declared.records.Rec.TheVariants.{Delete, Put, Snap}
use Rattle.up_log_tree.proofs.Paths.{path_apart, path_eq_itself, path_eq_turned, path_same, some_same}
use Rattle.up_log_tree.proofs.Rooted.{cond_none, cond_some}
use Rattle.up_log_tree.proofs.Trees.{node_at-delete, node_at-put}
use Rattle.up_log_tree.specs.Fits.{HasDirectory, root_of}
use Rattle.up_log_tree.specs.Rights.{access_node, access_path}
use Rattle.up_log_tree.specs.Trees.{Tree, after_record, is_link, kind_of, node_at}
use Rattle.up_log_tree.specs.declared.node.Node.{Node}
use Rattle.up_names.specs.PathNames.{PathName}
use Rattle.up_names.specs.PathOrder.{path_eq}
use Rattle.up_names.specs.Texts.{Text, UserName}
use Rattle.up_plots.specs.Plots.{ChangesFile, HasPlot, IsFlat, file_path, plot_path}

-- ---- paths that differ

-- paths of two lengths are two
pub apart_by_length : (p q : PathName) → (length p.elements ≡ length q.elements → ⊥) → path_eq p q ≡ false
apart_by_length p q other = path_apart p q (λ same. other (ap (λ (r : PathName). length r.elements) same))

-- one is not two
one_two : ◌≡◌ {A = ℕ} 1 2 → ⊥
one_two h = omega (arith, h)

-- files of one path are in one directory
pub same_name : (owner : UserName) (name file other more : Text) → file_path owner name file ≡ file_path owner other more → name ≡ other
same_name owner name file other more same = some_same name other (ap (λ (p : PathName). slice_get p.elements 0) same)

-- and have one name
pub same_file : (owner : UserName) (name file other more : Text) → file_path owner name file ≡ file_path owner other more → file ≡ more
same_file owner name file other more same = some_same file more (ap (λ (p : PathName). slice_get p.elements 1) same)

-- ---- one record

-- a Put changes nothing at another path
pub put_elsewhere : (tree : Tree) (entry : Entry) (text : Text) (q : PathName) → path_eq q entry.name ≡ false → node_at (after_record tree (Put entry text)) q ≡ node_at tree q
put_elsewhere tree entry text q apart = node_at-put tree entry text q ∙ ap (λ (b : Bool). cond b (Some (record { entry = entry; text = text })) (node_at tree q)) apart

-- and stands at its own
pub put_here : (tree : Tree) (entry : Entry) (text : Text) (q : PathName) → entry.name ≡ q → node_at (after_record tree (Put entry text)) q ≡ Some (record { entry = entry; text = text })
put_here tree entry text q named =
    node_at-put tree entry text q
    ∙ ap (λ (b : Bool). cond b (Some (record { entry = entry; text = text })) (node_at tree q)) (ap (λ (p : PathName). path_eq q p) named ∙ path_eq_itself q)

-- a change of a file changes nothing at another path
pub others_stay : (tree : Tree) (path : PathName) (rec : Rec) → ChangesFile path rec → (q : PathName) → path_eq q path ≡ false → node_at (after_record tree rec) q ≡ node_at tree q
others_stay tree path (Put entry text) change q apart = put_elsewhere tree entry text q (ap (λ (p : PathName). path_eq q p) change.0 ∙ apart)
others_stay tree path (Delete gone) change q apart =
    node_at-delete tree gone q ∙ ap (λ (b : Bool). cond b None (node_at tree q)) (ap (λ (p : PathName). path_eq p q) change ∙ path_eq_turned path q ∙ apart)
others_stay tree path (Snap time) change q apart = absurd change

-- what is deleted does not stand
pub deleted_here : (tree : Tree) (path : PathName) → node_at (after_record tree (Delete path)) path ≡ None
deleted_here tree path = node_at-delete tree path path ∙ ap (λ (b : Bool). cond b None (node_at tree path)) (path_eq_itself path)

-- what stands after it stood before it, or is the file
after_cases : (tree : Tree) (path : PathName) (rec : Rec) → ChangesFile path rec → (q : PathName) (node : Node) → node_at (after_record tree rec) q ≡ Some node
    → ((q ≡ path) × (kind_of node ≡ File)) ⊎ (node_at tree q ≡ Some node)
after_cases tree path (Put entry text) change q node there =
    elim (cond_some (path_eq q entry.name) (record { entry = entry; text = text }) node (node_at tree q) (sym (node_at-put tree entry text q) ∙ there)) [
      | inl new ↦ inl (path_same q entry.name new.0 ∙ change.0, sym (ap (λ (n : Node). kind_of n) new.1) ∙ change.1)
      | inr old ↦ inr old.1
    ]
after_cases tree path (Delete gone) change q node there = inr (cond_none (path_eq gone q) node (node_at tree q) (sym (node_at-delete tree gone q) ∙ there)).1
after_cases tree path (Snap time) change q node there = absurd change

-- ---- what a file's record keeps

module _ (owner : UserName) (tree : Tree) (name file : Text) (rec : Rec) (change : ChangesFile (file_path owner name file) rec) where
  -- what is no file in a directory of the root stays
  stays : (q : PathName) → (length q.elements ≡ 2 → ⊥) → node_at (after_record tree rec) q ≡ node_at tree q
  stays q other = others_stay tree (file_path owner name file) rec change q (apart_by_length q (file_path owner name file) other)

  -- a directory stays where it is no file in a directory of the root
  directory_stays : (q : PathName) → (length q.elements ≡ 2 → ⊥) → HasDirectory tree q → HasDirectory (after_record tree rec) q
  directory_stays q other directory = (directory.0, stays q other ∙ directory.1, directory.2)

  -- a tree stays flat
  pub flat_stays : IsFlat owner tree → IsFlat owner (after_record tree rec)
  flat_stays flat = record {
    root = directory_stays (root_of owner) (λ h. omega (arith, h)) flat.root;
    ungoverned = stays (access_path (root_of owner)) one_two ∙ flat.ungoverned;
    plain = λ q node there. elim (after_cases tree (file_path owner name file) rec change q node there) [
      | inl new ↦ ap (λ (kind : Kind). is_link kind) new.1
      | inr old ↦ flat.plain q node old
    ];
    short = λ q node there. elim (after_cases tree (file_path owner name file) rec change q node there) [
      | inl new ↦ subst (λ (p : PathName). length p.elements ≤ 2) (sym new.0) (omega arith)
      | inr old ↦ flat.short q node old
    ];
  }

  -- where only a file may stand, only a file stands
  pub file_stays_file : (q : PathName) → ((node : Node) → node_at tree q ≡ Some node → kind_of node ≡ File) → (node : Node) → node_at (after_record tree rec) q ≡ Some node → kind_of node ≡ File
  file_stays_file q was node there = elim (after_cases tree (file_path owner name file) rec change q node there) [
    | inl new ↦ new.1
    | inr old ↦ was node old
  ]

  module _ (ordinary : bytes_eq file (codes "Access") ≡ false) where
    -- the Access file of a directory stays, where the file is none itself
    access_stays : (other : Text) → access_node (after_record tree rec) (plot_path owner other) ≡ access_node tree (plot_path owner other)
    access_stays other =
        others_stay tree (file_path owner name file) rec change (access_path (plot_path owner other))
        (path_apart (access_path (plot_path owner other)) (file_path owner name file)
        (λ same. false≢true (sym ordinary ∙ (bytes_eq-Decides file (codes "Access")).1 (sym (same_file owner other (codes "Access") name file same)))))

    -- so a directory keeps its Access file
    pub plot_stays : (other : Text) (user : UserName) → HasPlot owner tree other user → HasPlot owner (after_record tree rec) other user
    plot_stays other user plot = record {
      directory = directory_stays (plot_path owner other) one_two plot.directory;
      node = plot.node;
      stands = access_stays other ∙ plot.stands;
      rules = plot.rules;
    }

    -- and one without goes without
    pub none_stays : (other : Text) → access_node tree (plot_path owner other) ≡ None → access_node (after_record tree rec) (plot_path owner other) ≡ None
    none_stays other none = access_stays other ∙ none
