-- A sequence of 0 or more, as the number that it is.
use Rattle.std.proofs.Common.{◌≡◌, true, ap, sym, ◌∙◌, w64, SFits, to_z, of_z}
use Rattle.std.specs.Prelude.{ℤ, pos, negsuc}
use Rattle.std.specs.Int.Signed.{le_z}
use lib.IntN.{nat_abs}
use Rattle.std.proofs.Math.Facts.{to_z-of_z}
use Rattle.std.proofs.lemmas.Bool.{false≢true}

pub same_number : (z : ℤ) → SFits w64 z → to_z w64 (of_z w64 z) ≡ z
same_number z fits = to_z-of_z fits

pub above_of : (z : ℤ) → SFits w64 z → le_z (pos 0) (to_z w64 (of_z w64 z)) ≡ true → pos (nat_abs (to_z w64 (of_z w64 z))) ≡ z
above_of (pos n) fits h = ap (λ z. pos (nat_abs z)) (same_number (pos n) fits)
above_of (negsuc n) fits h = absurd (false≢true (sym (ap (le_z (pos 0)) (same_number (negsuc n) fits)) ∙ h))
