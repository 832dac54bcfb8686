-- The fronts of a log, record by record.
use Rattle.std.proofs.Common.{◌≡◌, ℕ, zero, suc, List, [], ◌∷◌, ◌++◌, length, take, refl, sym, ap, subst, Option, Some, None}
use Rattle.std.specs.Prelude.{slice_get}
use Rattle.std.proofs.Math.Seq.{take-length}
use Rattle.up_log_tree.proofs.Paths.{some_none, some_same}

pub take_next : {X : Type 0} (n : ℕ) (xs : List X) (x : X) → slice_get xs n ≡ Some x → take (suc n) xs ≡ take n xs ++ x ∷ []
take_next n [] x h = absurd (some_none x (sym h))
take_next zero (y ∷ xs) x h = ap (λ z. z ∷ []) (some_same y x h)
take_next (suc n) (y ∷ xs) x h = ap (λ zs. y ∷ zs) (take_next n xs x h)

pub take_past : {X : Type 0} (n : ℕ) (xs : List X) → slice_get xs n ≡ None → take (suc n) xs ≡ take n xs
take_past zero [] h = refl
take_past (suc n) [] h = refl
take_past zero (y ∷ xs) h = absurd (some_none y h)
take_past (suc n) (y ∷ xs) h = ap (λ zs. y ∷ zs) (take_past n xs h)

module _ {X : Type 0} (P : List X → Type 0) (xs : List X) where
  -- what holds of nothing, and goes on with each record, holds of each front
  pub each_front : P [] → ((n : ℕ) (x : X) → slice_get xs n ≡ Some x → P (take n xs) → P (take n xs ++ x ∷ [])) → (n : ℕ) → P (take n xs)
  each_front none more zero = none
  each_front none more (suc n) = go (slice_get xs n) refl (each_front none more n)
    where
      go : (o : Option X) → slice_get xs n ≡ o → P (take n xs) → P (take (suc n) xs)
      go None is so_far = subst P (sym (take_past n xs is)) so_far
      go (Some x) is so_far = subst P (sym (take_next n xs x is)) (more n x is so_far)

  pub whole_front : P [] → ((n : ℕ) (x : X) → slice_get xs n ≡ Some x → P (take n xs) → P (take n xs ++ x ∷ [])) → P xs
  whole_front none more = subst P (take-length xs) (each_front none more (length xs))
