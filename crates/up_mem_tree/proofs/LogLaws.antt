-- What holds of every log.
use Rattle.std.proofs.Common.{◌≡◌, ℕ, zero, suc, ◌+◌, ◌-◌, ◌<◌, Bool, true, false, cond, List, [], ◌∷◌, ◌++◌, length, take, Some, None, refl, sym, ap, subst, ◌∙◌, arith}
use Rattle.std.specs.Prelude.{◌↔◌, IsTrue, slice_get}
use Rattle.std.proofs.lemmas.List.{take-take}
use Rattle.up_names.specs.PathNames.{PathName, cut}
use Rattle.up_names.specs.PathOrder.{path_eq}
use Rattle.up_entry.specs.declared.records.Rec.{Rec}
use Rattle.up_entry.specs.declared.records.Rec.TheVariants.{Put, Delete, Snap}
use Rattle.up_log_tree.specs.Changes.{last_change}
use Rattle.up_log_tree.specs.Fits.{AreFitting, Fits, HasDirectory, IsLog, fits}
use Rattle.up_log_tree.specs.Trees.{node_at, tree_of}
use Rattle.up_log_tree.specs.declared.node.Node.{Node}
use Rattle.up_log_tree.proofs.Fronts.{whole_front}
use Rattle.up_log_tree.proofs.Paths.{path_eq_turned, some_none, some_same}
use Rattle.up_log_tree.proofs.Rooted.{prefix_directory, rooted}
use Rattle.up_log_tree.proofs.Trees.{node_at-delete, node_at-empty, node_at-put, node_at-snap, tree_of-push}
use Rattle.up_mem_tree.proofs.Named.{last_change-push}
use Rattle.up_mem_tree.proofs.Tested.{fits_rules, fits_test}

pub told_by_rules : (owner : List ℕ) (before : List Rec) (rec : Rec) → IsTrue (fits owner before rec) ↔ Fits owner before rec
told_by_rules owner before rec = (fits_rules owner before rec, fits_test owner before rec)

pub below : (owner : List ℕ) (records : List Rec) → AreFitting owner records → (path : PathName) (node : Node) (n : ℕ) → node_at (tree_of records) path ≡ Some node → n < length path.elements → HasDirectory (tree_of records) (cut n path)
below owner records fitting path node n there lt =
    prefix_directory owner (tree_of records) (rooted owner records fitting) (length path.elements - suc n) path node n there (omega (arith, lt))

-- ---- sequences

abbrev AreSequences : List Rec → Type 0
AreSequences records = (path : PathName) (node : Node) → node_at (tree_of records) path ≡ Some node → last_change records path ≡ Some node.entry.sequence

module _ (owner : List ℕ) (records : List Rec) (so_far : AreSequences records) where
  more : (rec : Rec) → Fits owner records rec → AreSequences (records ++ rec ∷ [])
  more (Put entry text) fit path node there = go (path_eq path entry.name) refl (sym (ap (λ tree. node_at tree path) (tree_of-push records (Put entry text)) ∙ node_at-put (tree_of records) entry text path) ∙ there)
    where
      go : (b : Bool) → path_eq path entry.name ≡ b → cond (path_eq path entry.name) (Some (record { entry = entry; text = text })) (node_at (tree_of records) path) ≡ Some node → last_change (records ++ Put entry text ∷ []) path ≡ Some node.entry.sequence
      go true is found =
          let same : record { entry = entry; text = text } ≡ node = some_same (record { entry = entry; text = text }) node (sym (ap (λ b. cond b (Some (record { entry = entry; text = text })) (node_at (tree_of records) path)) is) ∙ found) in
          last_change-push records (Put entry text) path ∙ ap (λ b. cond b (Some (length records + 1)) (last_change records path)) is
          ∙ ap Some (sym fit.sequence) ∙ ap (λ (n : Node). Some n.entry.sequence) same
      go false is found =
          last_change-push records (Put entry text) path ∙ ap (λ b. cond b (Some (length records + 1)) (last_change records path)) is
          ∙ so_far path node (sym (ap (λ b. cond b (Some (record { entry = entry; text = text })) (node_at (tree_of records) path)) is) ∙ found)
  more (Delete gone) fit path node there = go (path_eq gone path) refl (sym (ap (λ tree. node_at tree path) (tree_of-push records (Delete gone)) ∙ node_at-delete (tree_of records) gone path) ∙ there)
    where
      go : (b : Bool) → path_eq gone path ≡ b → cond (path_eq gone path) None (node_at (tree_of records) path) ≡ Some node → last_change (records ++ Delete gone ∷ []) path ≡ Some node.entry.sequence
      go true is found = absurd (some_none node (sym found ∙ ap (λ b. cond b None (node_at (tree_of records) path)) is))
      go false is found =
          last_change-push records (Delete gone) path ∙ ap (λ b. cond b (Some (length records + 1)) (last_change records path)) (path_eq_turned path gone ∙ is)
          ∙ so_far path node (sym (ap (λ b. cond b None (node_at (tree_of records) path)) is) ∙ found)
  more (Snap time) fit path node there =
      last_change-push records (Snap time) path
      ∙ so_far path node (sym (ap (λ tree. node_at tree path) (tree_of-push records (Snap time)) ∙ node_at-snap (tree_of records) time path) ∙ there)

pub sequences : (owner : List ℕ) (records : List Rec) → AreFitting owner records → AreSequences records
sequences owner records fitting =
    whole_front AreSequences records (λ path node there. absurd (some_none node (sym there ∙ node_at-empty path)))
    (λ n rec is so_far. more owner (take n records) so_far rec (fitting.each n rec is))

-- ---- fronts

get_taken : {X : Type 0} (xs : List X) (n m : ℕ) (x : X) → slice_get (take n xs) m ≡ Some x → (m < n) × (slice_get xs m ≡ Some x)
get_taken xs zero m x is = absurd (some_none x (sym is))
get_taken [] (suc n) m x is = absurd (some_none x (sym is))
get_taken (y ∷ xs) (suc n) zero x is = (omega arith, is)
get_taken (y ∷ xs) (suc n) (suc m) x is = let rest = get_taken xs n m x is in (omega (arith, rest.0), rest.1)

pub front : (owner : List ℕ) (records : List Rec) (n : ℕ) → IsLog owner records → IsLog owner (take n records)
front owner records n log = record {
  fitting = record {
    each = λ m rec is.
        let taken = get_taken records n m rec is in
        subst (λ before. Fits owner before rec) (sym (take-take m n records (omega (arith, taken.0)))) (log.fitting.each m rec taken.1);
  };
  plain = log.plain;
}
