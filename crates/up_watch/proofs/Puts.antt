-- The record at an item's sequence has put it; so the entry that a Delete deletes is that of the record before it.
use Rattle.std.proofs.Common.{◌≡◌, ℕ, zero, suc, ◌+◌, ◌-◌, Bool, true, false, cond, List, [], ◌∷◌, ◌++◌, length, take, refl, sym, ap, subst, ◌∙◌, arith, Option, Some, None}
use Rattle.std.specs.Prelude.{slice_get, IsSome}
use Rattle.std.specs.Option.{option_and_then, option_map}
use Rattle.std.proofs.lemmas.Bool.{false≢true}
use Rattle.up_names.specs.PathNames.{PathName}
use Rattle.up_names.specs.PathOrder.{path_eq}
use Rattle.up_entry.specs.declared.entries.Entry.{Entry}
use Rattle.up_entry.specs.declared.records.Rec.{Rec}
use Rattle.up_entry.specs.declared.records.Rec.TheVariants.{Put, Delete, Snap}
use Rattle.up_log_tree.specs.Changes.{change_before, last_change, path_of_change, record_at}
use Rattle.up_log_tree.specs.Fits.{AreFitting, DeleteFits, Fits, IsLog}
use Rattle.up_log_tree.specs.Trees.{node_at, tree_at, tree_of}
use Rattle.up_log_tree.specs.declared.node.Node.{Node}
use Rattle.up_log_tree.proofs.Fronts.{whole_front}
use Rattle.up_log_tree.proofs.Paths.{some_none, some_same}
use Rattle.up_log_tree.proofs.Trees.{node_at-delete, node_at-empty, node_at-put, node_at-snap, tree_of-push}
use Rattle.up_mem_tree.proofs.LogLaws.{front, sequences}
use Rattle.up_list.specs.Entries.{entry_at, entry_of}
use Rattle.up_watch.specs.Watching.{entry_put}

-- ---- records of a front

get_kept : {X : Type 0} (xs ys : List X) (i : ℕ) (x : X) → slice_get xs i ≡ Some x → slice_get (xs ++ ys) i ≡ Some x
get_kept [] ys i x is = absurd (some_none x (sym is))
get_kept (y ∷ xs) ys zero x is = is
get_kept (y ∷ xs) ys (suc i) x is = get_kept xs ys i x is

get_last : {X : Type 0} (xs : List X) (x : X) → slice_get (xs ++ x ∷ []) (length xs) ≡ Some x
get_last [] x = refl
get_last (y ∷ xs) x = get_last xs x

get_taken : {X : Type 0} (xs : List X) (n i : ℕ) (x : X) → slice_get (take n xs) i ≡ Some x → slice_get xs i ≡ Some x
get_taken xs zero i x is = absurd (some_none x (sym is))
get_taken [] (suc n) i x is = absurd (some_none x (sym is))
get_taken (y ∷ xs) (suc n) zero x is = is
get_taken (y ∷ xs) (suc n) (suc i) x is = get_taken xs n i x is

record_kept : (records more : List Rec) (n : ℕ) (rec : Rec) → record_at records n ≡ Some rec → record_at (records ++ more) n ≡ Some rec
record_kept records more zero rec is = absurd (some_none rec (sym is))
record_kept records more (suc n) rec is = get_kept records more n rec is

record_taken : (records : List Rec) (k n : ℕ) (rec : Rec) → record_at (take k records) n ≡ Some rec → record_at records n ≡ Some rec
record_taken records k zero rec is = absurd (some_none rec (sym is))
record_taken records k (suc n) rec is = get_taken records k n rec is

record_last : (records : List Rec) (rec : Rec) → record_at (records ++ rec ∷ []) (length records + 1) ≡ Some rec
record_last records rec = ap (record_at (records ++ rec ∷ [])) (let e : length records + 1 ≡ suc (length records) = omega arith in e) ∙ get_last records rec

-- ---- what has put an item

abbrev ArePut : List Rec → Type 0
ArePut records = (path : PathName) (node : Node) → node_at (tree_of records) path ≡ Some node → record_at records node.entry.sequence ≡ Some (Put node.entry node.text)

module _ (owner : List ℕ) (records : List Rec) (so_far : ArePut records) where
  more : (rec : Rec) → Fits owner records rec → ArePut (records ++ rec ∷ [])
  more (Put entry text) fit path node there = go (path_eq path entry.name) refl (sym (ap (λ tree. node_at tree path) (tree_of-push records (Put entry text)) ∙ node_at-put (tree_of records) entry text path) ∙ there)
    where
      put : Node
      put = record { entry = entry; text = text }

      here : put ≡ node → record_at (records ++ Put entry text ∷ []) node.entry.sequence ≡ Some (Put node.entry node.text)
      here same =
          subst (λ (n : Node). record_at (records ++ Put entry text ∷ []) n.entry.sequence ≡ Some (Put n.entry n.text)) same
          (ap (record_at (records ++ Put entry text ∷ [])) fit.sequence ∙ record_last records (Put entry text))

      go : (b : Bool) → path_eq path entry.name ≡ b → cond (path_eq path entry.name) (Some put) (node_at (tree_of records) path) ≡ Some node → record_at (records ++ Put entry text ∷ []) node.entry.sequence ≡ Some (Put node.entry node.text)
      go true is found = here (some_same put node (sym (ap (λ b. cond b (Some put) (node_at (tree_of records) path)) is) ∙ found))
      go false is found =
          record_kept records (Put entry text ∷ []) node.entry.sequence (Put node.entry node.text)
          (so_far path node (sym (ap (λ b. cond b (Some put) (node_at (tree_of records) path)) is) ∙ found))
  more (Delete gone) fit path node there = go (path_eq gone path) refl (sym (ap (λ tree. node_at tree path) (tree_of-push records (Delete gone)) ∙ node_at-delete (tree_of records) gone path) ∙ there)
    where
      go : (b : Bool) → path_eq gone path ≡ b → cond (path_eq gone path) None (node_at (tree_of records) path) ≡ Some node → record_at (records ++ Delete gone ∷ []) node.entry.sequence ≡ Some (Put node.entry node.text)
      go true is found = absurd (some_none node (sym found ∙ ap (λ b. cond b None (node_at (tree_of records) path)) is))
      go false is found =
          record_kept records (Delete gone ∷ []) node.entry.sequence (Put node.entry node.text)
          (so_far path node (sym (ap (λ b. cond b None (node_at (tree_of records) path)) is) ∙ found))
  more (Snap time) fit path node there =
      record_kept records (Snap time ∷ []) node.entry.sequence (Put node.entry node.text)
      (so_far path node (sym (ap (λ tree. node_at tree path) (tree_of-push records (Snap time)) ∙ node_at-snap (tree_of records) time path) ∙ there))

pub put_there : (owner : List ℕ) (records : List Rec) → AreFitting owner records → ArePut records
put_there owner records fitting =
    whole_front ArePut records (λ path node there. absurd (some_none node (sym there ∙ node_at-empty path)))
    (λ n rec is so_far. more owner (take n records) so_far rec (fitting.each n rec is))

-- ---- what a Delete deletes

-- what the record before it on the same path has put
abbrev pub put_before : List Rec → ℕ → Option Entry
put_before records n = option_and_then (λ m. option_and_then entry_put (record_at records m)) (change_before records n)

pub deleted : (owner : List ℕ) (records : List Rec) → IsLog owner records → (n : ℕ) (path : PathName) → record_at records n ≡ Some (Delete path) → put_before records n ≡ entry_at (tree_at records (n - 1)) path
unfolding change_before
deleted owner records log zero path is = absurd (some_none (Delete path) (sym is))
deleted owner records log (suc k) path is = there (node_at (tree_of (take k records)) path) refl fits.there ∙ ap (λ i. entry_at (tree_at records i) path) (let e : k ≡ suc k - 1 = omega arith in e)
  where
    fits : DeleteFits (take k records) path
    fits = log.fitting.each k (Delete path) is

    fitting : AreFitting owner (take k records)
    fitting = (front owner records k log).fitting

    before : change_before records (suc k) ≡ last_change (take k records) path
    before =
        ap (λ i. option_and_then (last_change (take i records)) (option_and_then path_of_change (slice_get records k))) (let e : suc k - 1 ≡ k = omega arith in e)
        ∙ ap (λ o. option_and_then (last_change (take k records)) (option_and_then path_of_change o)) is

    there : (o : Option Node) → node_at (tree_of (take k records)) path ≡ o → IsSome (node_at (tree_of (take k records)) path) → put_before records (suc k) ≡ entry_at (tree_at records k) path
    there None none some = absurd (false≢true (subst IsSome none some))
    there (Some node) found some =
        ap (option_and_then (λ m. option_and_then entry_put (record_at records m))) (before ∙ sequences owner (take k records) fitting path node found)
        ∙ (ap (option_and_then entry_put) (record_taken records k node.entry.sequence (Put node.entry node.text) (put_there owner (take k records) fitting path node found))
        ∙ sym (ap (option_map entry_of) found))

module _ (owner : List ℕ) (records : List Rec) (log : IsLog owner records) (n : ℕ) (path : PathName) (is : record_at records n ≡ Some (Delete path)) where
  pub deleted_none : None ≡ change_before records n → None ≡ entry_at (tree_at records (n - 1)) path
  deleted_none none = ap (option_and_then (λ m. option_and_then entry_put (record_at records m))) none ∙ deleted owner records log n path is

  pub deleted_some : (m : ℕ) (found : Option Entry) → Some m ≡ change_before records n → found ≡ option_and_then entry_put (record_at records m) → found ≡ entry_at (tree_at records (n - 1)) path
  deleted_some m found some put = put ∙ (ap (option_and_then (λ m. option_and_then entry_put (record_at records m))) some ∙ deleted owner records log n path is)
