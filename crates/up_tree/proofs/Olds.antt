-- The first records of a log, one more at a time.
use Rattle.std.proofs.Common.{◌≡◌, ℕ, zero, suc, ◌+◌, ◌<◌, List, [], ◌∷◌, ◌++◌, length, take, None, Some, sym, ap, subst, ◌∙◌, arith}
use Rattle.std.specs.Prelude.{slice_get}
use Rattle.up_entry.specs.declared.records.Rec.{Rec}
use Rattle.up_log_tree.specs.Changes.{record_at}
use Rattle.up_log_tree.specs.Fits.{Fits, IsLog}
use Rattle.up_log_tree.proofs.Fronts.{take_next}
use Rattle.up_log_tree.proofs.Paths.{some_none}

module _ (records : List Rec) (i : ℕ) where
  on : i + 1 ≡ suc i
  on = omega arith

  at : (rec : Rec) → record_at records (i + 1) ≡ Some rec → slice_get records i ≡ Some rec
  at rec there = subst (λ n. record_at records n ≡ Some rec) on there

  pub fits_next : (rec : Rec) → record_at records (i + 1) ≡ Some rec → (owner : List ℕ) → IsLog owner records → Fits owner (take i records) rec
  fits_next rec there owner log = log.fitting.each i rec (at rec there)

  pub taken_next : (rec : Rec) → record_at records (i + 1) ≡ Some rec → take i records ++ rec ∷ [] ≡ take (i + 1) records
  taken_next rec there = sym (take_next i records rec (at rec there)) ∙ ap (λ n. take n records) (sym on)

-- a record that is there is not lacking
lacks : {X : Type 0} (xs : List X) (i : ℕ) → i < length xs → slice_get xs i ≡ None → ⊥
lacks [] i lt none = omega (arith, lt)
lacks (x ∷ xs) zero lt none = some_none x none
lacks (x ∷ xs) (suc i) lt none = lacks xs i (omega (arith, lt)) none

pub is_there : (records : List Rec) (i : ℕ) → i < length records → record_at records (i + 1) ≡ None → ⊥
is_there records i lt none = lacks records i lt (subst (λ n. record_at records n ≡ None) (on records i) none)
