-- Disks that are taken off a list, and put back in their places.
use Rattle.std.proofs.Common.{◌≡◌, ◌<◌, ◌≤◌, ◌+◌, ℕ, zero, suc, List, [], ◌∷◌, ◌++◌, length, take, drop, refl, sym, ap, ◌∙◌, arith, add-one, append_assoc, length-append}
use Rattle.up_host.proofs.OpeningLemmas.{turned}

-- the element at a place is the first one of what is left
next_of : {X : Type 0} (xs : List X) (i : ℕ) → i < length xs → (x : X) × (drop i xs ≡ x ∷ drop (suc i) xs) × (take (suc i) xs ≡ take i xs ++ x ∷ [])
next_of [] i h = absurd (omega (arith, h))
next_of (x ∷ xs) zero h = (x, refl, refl)
next_of (x ∷ xs) (suc i) h = let rest = next_of xs i (omega (arith, h)) in (rest.0, rest.1, ap (λ ys. x ∷ ys) rest.2)

-- what was put behind is turned to the front
pub fronted : {X : Type 0} (free given last one two all : List X) (n : ℕ) → one ≡ free ++ given → two ≡ one ++ last → n ≡ length free → all ≡ drop n two ++ take n two → all ≡ given ++ (last ++ free)
fronted free given last one two all n first second many turn =
    let whole : two ≡ free ++ (given ++ last) = second ∙ ap (λ xs. xs ++ last) first ∙ append_assoc free given last in
    turn ∙ ap (λ xs. drop n xs ++ take n xs) whole ∙ ap (λ m. drop m (free ++ (given ++ last)) ++ take m (free ++ (given ++ last))) many
    ∙ turned free (given ++ last) ∙ append_assoc given last free

-- and is not shorter than what stood there
pub as_many : {X : Type 0} (free given last one two : List X) (n : ℕ) → one ≡ free ++ given → two ≡ one ++ last → n ≡ length free → n ≤ length two
as_many free given last one two n first second many =
    let a : length one ≡ length free + length given = ap length first ∙ length-append free given in
    let b : length two ≡ length one + length last = ap length second ∙ length-append one last in
    omega (arith, a, b, many)

-- one more was taken
pub taken_more : {X : Type 0} (xs given left rest : List X) (i : ℕ) (x : X) → i < length xs → given ≡ take i xs → left ≡ drop i xs → left ≡ x ∷ rest → given ++ x ∷ [] ≡ take (i + 1) xs
taken_more xs given left rest i x h first is taken =
    let next = next_of xs i h in
    let whole : x ∷ rest ≡ next.0 ∷ drop (suc i) xs = sym taken ∙ is ∙ next.1 in
    let same : x ≡ next.0 = cc in
    ap (λ ys. ys ++ x ∷ []) first ∙ ap (λ y. take i xs ++ y ∷ []) same ∙ sym next.2 ∙ ap (λ n. take n xs) (sym (add-one i))

pub left_after : {X : Type 0} (xs left rest : List X) (i : ℕ) (x : X) → i < length xs → left ≡ drop i xs → left ≡ x ∷ rest → rest ≡ drop (i + 1) xs
left_after xs left rest i x h is taken =
    let next = next_of xs i h in
    let whole : x ∷ rest ≡ next.0 ∷ drop (suc i) xs = sym taken ∙ is ∙ next.1 in
    let others : rest ≡ drop (suc i) xs = cc in
    others ∙ ap (λ n. drop n xs) (sym (add-one i))
