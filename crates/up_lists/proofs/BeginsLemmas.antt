-- Lists that grow, for every crate that has a history.
use Rattle.std.proofs.Common.{◌≡◌, ◌≤◌, ◌<◌, ◌+◌, ℕ, zero, suc, List, [], ◌∷◌, ◌++◌, length, take, refl, sym, ap, ◌∙◌, arith, append_assoc, append-nil, length-append, slice_get, take-append-drop, drop, subst}
use Rattle.std.proofs.lemmas.List.{take-append-le, take_all}
use Rattle.up_lists.specs.Begins.{Begins}

-- a list begins with itself
pub Begins-self : {X : Type 0} (all : List X) → Begins all all
Begins-self all = record { rest = []; whole = append-nil all }

-- what is added stands behind
pub Begins-append : {X : Type 0} (front rest : List X) → Begins front (front ++ rest)
Begins-append front rest = record { rest = rest; whole = refl }

-- every list begins with the empty one
pub Begins-nil : {X : Type 0} (all : List X) → Begins [] all
Begins-nil all = record { rest = all; whole = refl }

-- the first n items
pub Begins-take : {X : Type 0} (n : ℕ) (all : List X) → Begins (take n all) all
Begins-take n all = record { rest = drop n all; whole = take-append-drop n all }

pub Begins-trans : {X : Type 0} {front mid all : List X} → Begins front mid → Begins mid all → Begins front all
Begins-trans {X} {front} {mid} {all} one two = record {
  rest = one.rest ++ two.rest;
  whole = sym (append_assoc front one.rest two.rest) ∙ ap (λ xs. xs ++ two.rest) one.whole ∙ two.whole;
}

pub length-Begins : {X : Type 0} {front all : List X} → Begins front all → length front ≤ length all
length-Begins {X} {front} {all} begins = omega (arith, length-append front begins.rest, ap length begins.whole)

-- the front is the first items
pub take-Begins : {X : Type 0} {front all : List X} → Begins front all → take (length front) all ≡ front
take-Begins {X} {front} {all} begins =
    ap (take (length front)) (sym begins.whole) ∙ take-append-le (length front) front begins.rest (omega arith) ∙ take_all (length front) front (omega arith)

-- of two fronts the shorter begins the longer
pub Begins-shorter : {X : Type 0} {one two all : List X} → Begins one all → Begins two all → length one ≤ length two → Begins one two
Begins-shorter {X} {one} {two} {all} first second shorter =
    let cut : take (length one) two ≡ one = sym (take-append-le (length one) two second.rest shorter) ∙ ap (take (length one)) second.whole ∙ take-Begins first in
    subst (λ xs. Begins xs two) cut (Begins-take (length one) two)

-- a front that is as long is the list
pub Begins-whole : {X : Type 0} {front all : List X} → Begins front all → length all ≤ length front → front ≡ all
Begins-whole {X} {front} {all} begins long = sym (take-Begins begins) ∙ take_all (length front) all long

get-append : {X : Type 0} (front rest : List X) (i : ℕ) → i < length front → slice_get (front ++ rest) i ≡ slice_get front i
get-append [] rest i within = absurd (omega arith)
get-append (x ∷ xs) rest zero within = refl
get-append (x ∷ xs) rest (suc i) within = get-append xs rest i (omega arith)

-- an item of the front is that of the list
pub get-Begins : {X : Type 0} {front all : List X} → Begins front all → (i : ℕ) → i < length front → slice_get all i ≡ slice_get front i
get-Begins {X} {front} {all} begins i within = ap (λ xs. slice_get xs i) (sym begins.whole) ∙ get-append front begins.rest i within
