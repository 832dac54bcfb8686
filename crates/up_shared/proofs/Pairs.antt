-- Lists whose items go together, pair by pair.
use Rattle.std.proofs.Common.{◌≡◌, ◌<◌, ℕ, zero, suc, List, [], ◌∷◌, ◌++◌, length, refl, sym, ap, subst, arith, drop, get_or, slice_get, slice_set, Some, None}
use Rattle.std.specs.Prelude.{map}
use Rattle.up_shared.specs.Sharing.{EachPair}

-- ---- heads, tails, and what is there

pub some_same : {X : Type 0} (x y : X) → Some x ≡ Some y → x ≡ y
some_same x y h = cc

pub some_none : {X : Type 0} (x : X) → Some x ≡ None → ⊥
some_none x h = cc

pub cons_same : {X : Type 0} (x y : X) (xs ys : List X) → x ∷ xs ≡ y ∷ ys → (x ≡ y) × (xs ≡ ys)
cons_same x y xs ys h = let a : x ≡ y = cc in let b : xs ≡ ys = cc in (a, b)

pub cons_none : {X : Type 0} (x : X) (xs : List X) → x ∷ xs ≡ [] → ⊥
cons_none x xs h = cc

-- a list that is its own rest is empty
pub no_front : {X : Type 0} (xs : List X) → xs ≡ drop 1 xs → xs ≡ []
no_front [] h = refl
no_front (x ∷ xs) h = let k = ap length h in absurd (omega (arith, k))

-- ---- items at a place

pub read_at : {A : Type 0} (l : List A) (i : ℕ) (a : A) → i < length l → a ≡ get_or l i a → slice_get l i ≡ Some a
read_at [] i a h e = absurd (omega arith)
read_at (x ∷ xs) zero a h e = cc
read_at (x ∷ xs) (suc i) a h e = read_at xs i a (omega arith) e

pub each_length : {X Y : Type 0} (P : X → Y → Type 0) (xs : List X) (ys : List Y) → EachPair P xs ys → length ys ≡ length xs
each_length P [] [] h = refl
each_length P (x ∷ xs) (y ∷ ys) h = let rest = each_length P xs ys h.1 in omega (arith, rest)
each_length P [] (y ∷ ys) h = absurd h
each_length P (x ∷ xs) [] h = absurd h

pub each_at : {X Y : Type 0} (P : X → Y → Type 0) (xs : List X) (ys : List Y) (i : ℕ) (x : X) (y : Y) → EachPair P xs ys → slice_get xs i ≡ Some x → slice_get ys i ≡ Some y → P x y
each_at P [] [] i x y h p q = absurd (some_none x (sym p))
each_at P [] (z ∷ ys) i x y h p q = absurd h
each_at P (w ∷ xs) [] i x y h p q = absurd h
each_at P (w ∷ xs) (z ∷ ys) zero x y h p q =
    subst (λ v. P v y) (some_same w x p) (subst (P w) (some_same z y q) h.0)
each_at P (w ∷ xs) (z ∷ ys) (suc i) x y h p q = each_at P xs ys i x y h.1 p q

pub each_set : {X Y : Type 0} (P : X → Y → Type 0) (xs : List X) (ys : List Y) (i : ℕ) (x : X) (y : Y) → EachPair P xs ys → slice_get xs i ≡ Some x → P x y → EachPair P xs (slice_set ys i y)
each_set P [] [] i x y h p q = tt
each_set P [] (z ∷ ys) i x y h p q = absurd h
each_set P (w ∷ xs) [] i x y h p q = absurd h
each_set P (w ∷ xs) (z ∷ ys) zero x y h p q = (subst (λ v. P v y) (sym (some_same w x p)) q, h.1)
each_set P (w ∷ xs) (z ∷ ys) (suc i) x y h p q = (h.0, each_set P xs ys i x y h.1 p q)

-- ---- at the border of two lists

pub get_behind : {X : Type 0} (xs : List X) (y : X) (zs : List X) → slice_get (xs ++ y ∷ zs) (length xs) ≡ Some y
get_behind [] y zs = refl
get_behind (x ∷ xs) y zs = get_behind xs y zs

pub set_behind : {X : Type 0} (xs : List X) (y : X) (zs : List X) (w : X) → slice_set (xs ++ y ∷ zs) (length xs) w ≡ xs ++ w ∷ zs
set_behind [] y zs w = refl
set_behind (x ∷ xs) y zs w = ap (λ l. x ∷ l) (set_behind xs y zs w)

pub map_append : {X Y : Type 0} (f : X → Y) (xs ys : List X) → map f (xs ++ ys) ≡ map f xs ++ map f ys
map_append f [] ys = refl
map_append f (x ∷ xs) ys = ap (λ l. f x ∷ l) (map_append f xs ys)

pub length_map : {X Y : Type 0} (f : X → Y) (xs : List X) → length (map f xs) ≡ length xs
length_map f [] = refl
length_map f (x ∷ xs) = let rest = length_map f xs in omega (arith, rest)

pub get_within : {X : Type 0} (xs : List X) (i : ℕ) (x : X) → slice_get xs i ≡ Some x → i < length xs
get_within [] i x h = absurd (some_none x (sym h))
get_within (y ∷ xs) zero x h = omega arith
get_within (y ∷ xs) (suc i) x h = let rest = get_within xs i x h in omega (arith, rest)
