-- A list cut after its first items.
use Rattle.std.proofs.Common.{◌≡◌, ℕ, zero, suc, ◌+◌, ◌<◌, ◌≤◌, true, false, List, [], ◌∷◌, ◌++◌, length, take, drop, refl, sym, ap, ◌∙◌, arith, Option, Some}
use Rattle.std.specs.Prelude.{slice_get, nat_lt}
use Rattle.std.proofs.Math.Seq.{take-length}
use Rattle.std.proofs.lemmas.Bool.{le-ltb, lt-ltb}
use Rattle.std.proofs.lemmas.List.{take-append-le, length-append}
use Rattle.std.specs.List.{cons_option, filter_map}
use Rattle.std.proofs.lemmas.List.Elements.{filter_map-append}

pub get_front : {X : Type 0} (xs ys : List X) (i : ℕ) → i < length xs → slice_get (xs ++ ys) i ≡ slice_get xs i
get_front [] ys i h = absurd (omega (arith, h))
get_front (x ∷ xs) ys zero h = refl
get_front (x ∷ xs) ys (suc i) h = get_front xs ys i (omega (arith, h))

pub take_next : {X : Type 0} (n : ℕ) (xs : List X) (x : X) → slice_get xs n ≡ Some x → take (suc n) xs ≡ take n xs ++ x ∷ []
take_next n [] x h = absurd (cc)
take_next zero (y ∷ xs) x h = ap (λ z. z ∷ []) (cc)
take_next (suc n) (y ∷ xs) x h = ap (λ zs. y ∷ zs) (take_next n xs x h)

-- what is made of one more
pub made_next : {X Y : Type 0} (f : X → Option Y) (n : ℕ) (xs : List X) (x : X) → slice_get xs n ≡ Some x → filter_map f (take (n + 1) xs) ≡ filter_map f (take n xs) ++ cons_option (f x) []
made_next f n xs x h =
    ap (λ k. filter_map f (take k xs)) (let e : n + 1 ≡ suc n = omega arith in e)
    ∙ (ap (filter_map f) (take_next n xs x h)
    ∙ filter_map-append f (take n xs) (x ∷ []))

-- ---- the first 256

-- there are more
pub cut_full : {X : Type 0} (found rest : List X) (x : X) → length found ≡ 256 → (take 256 (found ++ x ∷ rest) ≡ found) × (nat_lt 256 (length (found ++ x ∷ rest)) ≡ true) × (slice_get (found ++ x ∷ rest) 255 ≡ slice_get found 255)
cut_full found rest x size = (
  take-append-le 256 found (x ∷ rest) (omega (arith, size)) ∙ (ap (λ n. take n found) (sym size) ∙ take-length found),
  lt-ltb 256 (length (found ++ x ∷ rest)) (let e = length-append found (x ∷ rest) in omega (arith, e, size)),
  get_front found (x ∷ rest) 255 (omega (arith, size)),
)

take_all : {X : Type 0} (n : ℕ) (xs : List X) → length xs ≤ n → take n xs ≡ xs
take_all zero [] h = refl
take_all (suc n) [] h = refl
take_all zero (x ∷ xs) h = absurd (omega (arith, h))
take_all (suc n) (x ∷ xs) h = ap (λ ys. x ∷ ys) (take_all n xs (omega (arith, h)))

-- there are no more
pub cut_all : {X : Type 0} (found : List X) → length found ≤ 256 → (take 256 found ≡ found) × (nat_lt 256 (length found) ≡ false)
cut_all found size = (take_all 256 found size, le-ltb 256 (length found) size)

-- a list before an item, the item, and what stands behind it
pub parts_at : {X : Type 0} (n : ℕ) (xs : List X) (x : X) → slice_get xs n ≡ Some x → xs ≡ take n xs ++ x ∷ drop (suc n) xs
parts_at n [] x h = absurd (cc)
parts_at zero (y ∷ xs) x h = ap (λ z. z ∷ xs) (cc)
parts_at (suc n) (y ∷ xs) x h = ap (λ zs. y ∷ zs) (parts_at n xs x h)
