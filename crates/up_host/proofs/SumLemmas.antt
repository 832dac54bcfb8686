-- Sums of counts.
use Rattle.std.proofs.Common.{◌≡◌, ◌≤◌, ◌+◌, ℕ, zero, suc, List, [], ◌∷◌, ap, arith, Some, slice_get, slice_set}
use Rattle.std.specs.List.{sum_by}
use Rattle.std.proofs.lemmas.List.Sums.{sum_by-cons}

pub sum_set : {X : Type 0} (f : X → ℕ) (xs : List X) (i : ℕ) (x y : X) → slice_get xs i ≡ Some x → sum_by f (slice_set xs i y) + f x ≡ sum_by f xs + f y
sum_set f [] i x y h = absurd (cc)
sum_set f (z ∷ xs) zero x y h =
    let same : z ≡ x = cc in
    let a : sum_by f (y ∷ xs) ≡ f y + sum_by f xs = sum_by-cons f y xs in
    let b : sum_by f (z ∷ xs) ≡ f z + sum_by f xs = sum_by-cons f z xs in
    let c : f z ≡ f x = ap f same in
    omega (arith, a, b, c)
sum_set f (z ∷ xs) (suc i) x y h =
    let rest : sum_by f (slice_set xs i y) + f x ≡ sum_by f xs + f y = sum_set f xs i x y h in
    let a : sum_by f (z ∷ slice_set xs i y) ≡ f z + sum_by f (slice_set xs i y) = sum_by-cons f z (slice_set xs i y) in
    let b : sum_by f (z ∷ xs) ≡ f z + sum_by f xs = sum_by-cons f z xs in
    omega (arith, a, b, rest)

pub sum_most : {X : Type 0} (f : X → ℕ) (xs : List X) (i : ℕ) (x : X) → slice_get xs i ≡ Some x → f x ≤ sum_by f xs
sum_most f [] i x h = absurd (cc)
sum_most f (z ∷ xs) zero x h =
    let same : z ≡ x = cc in
    let b : sum_by f (z ∷ xs) ≡ f z + sum_by f xs = sum_by-cons f z xs in
    let c : f z ≡ f x = ap f same in
    omega (arith, b, c)
sum_most f (z ∷ xs) (suc i) x h =
    let rest : f x ≤ sum_by f xs = sum_most f xs i x h in
    let b : sum_by f (z ∷ xs) ≡ f z + sum_by f xs = sum_by-cons f z xs in
    omega (arith, b, rest)
