-- The longer of two lists.
use Rattle.std.proofs.Common.{◌≤◌, Bool, List, arith, cond, false, length, le-ltb, lt-ltb, lt_of_not-le, nat_lt, subst, sym, true}
use mathlib.Core.Logic.{dite}
use native.Mathlib.Decide.{dec_le}
use Rattle.up_cell.specs.Known.{longer}

module _ {A : Type 0} where
  pub longer-is : (P : List A → Type 0) (xs ys : List A) → P xs → P ys → P (longer xs ys)
  longer-is P xs ys p q = elim (nat_lt (length xs) (length ys)) as (λ b. P (cond b ys xs)) [ true ↦ q | false ↦ p ]

  pub longer-length : (xs ys : List A) → (length xs ≤ length (longer xs ys)) × (length ys ≤ length (longer xs ys))
  longer-length xs ys =
      let P = λ (b : Bool). (length xs ≤ length (cond b ys xs)) × (length ys ≤ length (cond b ys xs)) in
      dite (dec_le (length ys) (length xs))
      (λ le. subst P (sym (le-ltb (length xs) (length ys) le)) (omega arith, le))
      (λ far. subst P (sym (lt-ltb (length xs) (length ys) (lt_of_not-le far))) (omega (arith, lt_of_not-le far), omega arith))
