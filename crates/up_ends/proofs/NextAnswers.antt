-- The next answer of a list of which some are used up.
use Rattle.std.proofs.Common.{◌≡◌, ℕ, zero, suc, List, [], ◌∷◌, drop, Some, None, refl, slice_get}
use Rattle.up_ends.specs.Telling.{next_from}

-- there is one more
pub next_is : {A : Type 0} (xs : List A) (n : ℕ) (x after : A) → slice_get xs n ≡ Some x → next_from (drop n xs) after ≡ x
next_is [] n x after is = absurd (cc)
next_is (y ∷ ys) zero x after is = cc
next_is (y ∷ ys) (suc n) x after is = next_is ys n x after is

-- there is none
pub none_is_left : {A : Type 0} (xs : List A) (n : ℕ) (after : A) → slice_get xs n ≡ None → next_from (drop n xs) after ≡ after
none_is_left [] zero after is = refl
none_is_left [] (suc n) after is = refl
none_is_left (y ∷ ys) zero after is = absurd (cc)
none_is_left (y ∷ ys) (suc n) after is = none_is_left ys n after is
