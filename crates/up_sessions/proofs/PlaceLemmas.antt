-- One host among others.
use Rattle.std.proofs.Common.{◌≡◌, ◌<◌, ℕ, zero, suc, List, [], ◌∷◌, ◌++◌, length, Some, refl, sym, ap, subst, arith}
use Rattle.std.specs.Prelude.{slice_get, slice_set}
use Rattle.up_sessions.specs.Others.{others}

get_at : {X : Type 0} (before after : List X) (x : X) → slice_get (before ++ x ∷ after) (length before) ≡ Some x
get_at [] after x = refl
get_at (y ∷ before) after x = get_at before after x

set_at : {X : Type 0} (before after : List X) (x y : X) → slice_set (before ++ x ∷ after) (length before) y ≡ before ++ y ∷ after
set_at [] after x y = refl
set_at (z ∷ before) after x y = ap (λ zs. z ∷ zs) (set_at before after x y)

others_at : {X : Type 0} (before after : List X) (x : X) → others (length before) (before ++ x ∷ after) ≡ before ++ after
others_at [] after x = refl
others_at (z ∷ before) after x = ap (λ zs. z ∷ zs) (others_at before after x)

-- the one at a place of a list that is cut there
pub there : {X : Type 0} (all before after : List X) (x : X) (place : ℕ) → all ≡ before ++ x ∷ after → length before ≡ place → slice_get all place ≡ Some x
there all before after x place is at = subst (λ xs. slice_get xs place ≡ Some x) (sym is) (subst (λ n. slice_get (before ++ x ∷ after) n ≡ Some x) at (get_at before after x))

-- another one stands there
pub replaced : {X : Type 0} (all before after : List X) (x y : X) (place : ℕ) → all ≡ before ++ x ∷ after → length before ≡ place → before ++ y ∷ after ≡ slice_set all place y
replaced all before after x y place is at =
    sym (subst (λ xs. slice_set xs place y ≡ before ++ y ∷ after) (sym is) (subst (λ n. slice_set (before ++ x ∷ after) n y ≡ before ++ y ∷ after) at (set_at before after x y)))

-- and these are the others
pub the_others : {X : Type 0} (all before after : List X) (x : X) (place : ℕ) → all ≡ before ++ x ∷ after → length before ≡ place → others place all ≡ before ++ after
the_others all before after x place is at =
    subst (λ xs. others place xs ≡ before ++ after) (sym is) (subst (λ n. others n (before ++ x ∷ after) ≡ before ++ after) at (others_at before after x))

-- one stands at each place of a list
pub one_there : {X : Type 0} (xs : List X) (i : ℕ) → i < length xs → (x : X) × (slice_get xs i ≡ Some x)
one_there [] i within = absurd (omega (arith, within))
one_there (x ∷ xs) zero within = (x, refl)
one_there (x ∷ xs) (suc i) within = one_there xs i (omega (arith, within))

-- what was written there stands there
pub set_there : {X : Type 0} (xs : List X) (i : ℕ) (x y : X) → slice_get xs i ≡ Some x → slice_get (slice_set xs i y) i ≡ Some y
set_there [] i x y is = absurd (cc)
set_there (z ∷ xs) zero x y is = refl
set_there (z ∷ xs) (suc i) x y is = set_there xs i x y is

-- what stands there, written there, changes nothing
pub set_same : {X : Type 0} (xs : List X) (i : ℕ) (x : X) → slice_get xs i ≡ Some x → slice_set xs i x ≡ xs
set_same [] i x is = refl
set_same (z ∷ xs) zero x is = let same : x ≡ z = cc in ap (λ y. y ∷ xs) same
set_same (z ∷ xs) (suc i) x is = ap (λ ys. z ∷ ys) (set_same xs i x is)

-- of two that were written there the later one stands there
pub set_twice : {X : Type 0} (xs : List X) (i : ℕ) (x y : X) → slice_set (slice_set xs i x) i y ≡ slice_set xs i y
set_twice [] i x y = refl
set_twice (z ∷ xs) zero x y = refl
set_twice (z ∷ xs) (suc i) x y = ap (λ ys. z ∷ ys) (set_twice xs i x y)

-- and the others stay
pub others_stay : {X : Type 0} (xs : List X) (i : ℕ) (x : X) → others i (slice_set xs i x) ≡ others i xs
others_stay [] i x = refl
others_stay (z ∷ xs) zero x = refl
others_stay (z ∷ xs) (suc i) x = ap (λ ys. z ∷ ys) (others_stay xs i x)
