-- Going back to the last `*` alone is enough.
use Rattle.std.proofs.Common.{◌≡◌, ℕ, ◌<◌, Bool, true, false, ◌&&◌, ◌||◌, ◌==◌, List, [], ◌∷◌, length, map, refl, sym, ap, ◌∙◌, arith, ◌⊎◌, inl, inr}
use Rattle.std.specs.List.{list_any, list_all}
use Rattle.std.proofs.lemmas.Bool.{and_parts}
use Rattle.up_pattern.specs.declared.terms.Term.{Term}
use Rattle.up_pattern.specs.declared.terms.Term.TheVariants.{Many, One, Char, OneOf, NoneOf}
use Rattle.std.specs.Prelude.{encode_utf8_all}
use Rattle.std.specs.Str.{IsUtf8, chars}
use Rattle.std.proofs.lemmas.Str.{encodes-chars, length-le-encodes}
use Rattle.up_pattern.specs.Matching.{matches, cuts, fits, stands_for, is_many}

-- ---- tests

or-false : (b : Bool) → (b || false) ≡ b
or-false true = refl
or-false false = refl

-- one of two tests passes
or_cases : (a b : Bool) → (a || b) ≡ true → (a ≡ true) ⊎ (b ≡ true)
or_cases true b h = inl refl
or_cases false b h = inr h

or-left : (a b : Bool) → a ≡ true → (a || b) ≡ true
or-left true b h = refl
or-left false b h = cc

pub or-right : (a b : Bool) → b ≡ true → (a || b) ≡ true
or-right true b h = refl
or-right false b h = h

-- ---- lists

pub list_any-map : {X Y : Type 0} (test : Y → Bool) (f : X → Y) (xs : List X) → list_any test (map f xs) ≡ list_any (λ x. test (f x)) xs
list_any-map test f [] = refl
list_any-map test f (x ∷ xs) = ap (λ b. test (f x) || b) (list_any-map test f xs)

list_any-none : {X : Type 0} (test : X → Bool) → ((x : X) → test x ≡ false) → (xs : List X) → list_any test xs ≡ false
list_any-none test none [] = refl
list_any-none test none (x ∷ xs) = rw (none x, list_any-none test none xs) refl

-- ---- a `*` in front

-- a `*` in front that takes at least one character
unfoldable pub later : List Term → List ℕ → Bool
later terms [] = false
later terms (c ∷ rest) = matches (Many ∷ terms) rest

-- a `*` takes nothing, or at least one character
pub matches-many : (terms : List Term) (text : List ℕ) → matches (Many ∷ terms) text ≡ (matches terms text || later terms text)
unfolding matches later
matches-many terms [] = refl
matches-many terms (c ∷ rest) = ap (λ b. matches terms (c ∷ rest) || b) (list_any-map (λ cut. fits Many cut.0 && matches terms cut.1) (λ cut. (c ∷ cut.0, cut.1)) (cuts rest))

-- what the `*` takes more, it may take
pub matches-many_from_later : (terms : List Term) (text : List ℕ) → later terms text ≡ true → matches (Many ∷ terms) text ≡ true
matches-many_from_later terms text more = matches-many terms text ∙ or-right (matches terms text) (later terms text) more

-- it may take nothing
pub matches-many_from_none : (terms : List Term) (text : List ℕ) → matches terms text ≡ true → matches (Many ∷ terms) text ≡ true
matches-many_from_none terms text now = matches-many terms text ∙ or-left (matches terms text) (later terms text) now

many_cases : (terms : List Term) (text : List ℕ) → matches (Many ∷ terms) text ≡ true → (matches terms text ≡ true) ⊎ (later terms text ≡ true)
many_cases terms text any = or_cases (matches terms text) (later terms text) (sym (matches-many terms text) ∙ any)

-- ---- any other term in front

fits-empty : (term : Term) → is_many term ≡ false → fits term [] ≡ false
fits-empty Many one = cc
fits-empty One one = refl
fits-empty (Char d) one = refl
fits-empty (OneOf ranges) one = refl
fits-empty (NoneOf ranges) one = refl

fits-one : (term : Term) (c : ℕ) → fits term (c ∷ []) ≡ stands_for term c
fits-one Many c = refl
fits-one One c = refl
fits-one (Char d) c = refl
fits-one (OneOf ranges) c = refl
fits-one (NoneOf ranges) c = refl

fits-long : (term : Term) (c d : ℕ) (rest : List ℕ) → is_many term ≡ false → fits term (c ∷ d ∷ rest) ≡ false
fits-long Many c d rest one = cc
fits-long One c d rest one = refl
fits-long (Char e) c d rest one = refl
fits-long (OneOf ranges) c d rest one = refl
fits-long (NoneOf ranges) c d rest one = refl

-- the empty text has no character for it
pub matches-one_empty : (term : Term) (terms : List Term) → is_many term ≡ false → matches (term ∷ terms) [] ≡ false
unfolding matches
matches-one_empty term terms one = rw (fits-empty term one) refl

-- it takes one character that it stands for
pub matches-one : (term : Term) (terms : List Term) (c : ℕ) (rest : List ℕ) → is_many term ≡ false
    → matches (term ∷ terms) (c ∷ rest) ≡ (stands_for term c && matches terms rest)
unfolding matches
matches-one term terms c [] one = rw (fits-empty term one, fits-one term c) (or-false _)
matches-one term terms c (d ∷ rest) one =
    let test : (List ℕ × List ℕ) → Bool = λ cut. fits term cut.0 && matches terms cut.1 in
    let after_c : (List ℕ × List ℕ) → (List ℕ × List ℕ) = λ cut. (c ∷ cut.0, cut.1) in
    let after_d : (List ℕ × List ℕ) → (List ℕ × List ℕ) = λ cut. (d ∷ cut.0, cut.1) in
    let long : list_any test (map after_c (map after_d (cuts rest))) ≡ false =
    list_any-map test after_c (map after_d (cuts rest)) ∙ list_any-map (λ cut. test (after_c cut)) after_d (cuts rest)
    ∙ list_any-none (λ cut. test (after_c (after_d cut))) (λ cut. rw (fits-long term c d cut.0 one) refl) (cuts rest) in
    rw (fits-empty term one, fits-one term c, long) (or-false _)

-- what is left when the text has ended
pub matches-empty : (terms : List Term) → matches terms [] ≡ list_all is_many terms
unfolding matches
matches-empty [] = refl
matches-empty (Many ∷ terms) = or-false (matches terms []) ∙ matches-empty terms
matches-empty (One ∷ terms) = refl
matches-empty (Char d ∷ terms) = refl
matches-empty (OneOf ranges ∷ terms) = refl
matches-empty (NoneOf ranges ∷ terms) = refl

pub matches-no_terms : (c : ℕ) (rest : List ℕ) → matches [] (c ∷ rest) ≡ false
unfolding matches
matches-no_terms c rest = refl

-- ---- a later place for what follows a `*`

-- two `*` are one
many_many : (terms : List Term) (text : List ℕ) → matches (Many ∷ Many ∷ terms) text ≡ true → matches (Many ∷ terms) text ≡ true
unfolding later
many_many terms [] any =
    elim (many_cases (Many ∷ terms) [] any) [ inl now ↦ now | inr more ↦ cc more ]
many_many terms (c ∷ rest) any =
    elim (many_cases (Many ∷ terms) (c ∷ rest) any) [ inl now ↦ now | inr more ↦ matches-many_from_later terms (c ∷ rest) (many_many terms rest more) ]

-- at a further `*` the later places of the one before it are among its own
pub later-many : (terms : List Term) (text : List ℕ) → later (Many ∷ terms) text ≡ true → matches (Many ∷ terms) text ≡ true
unfolding later
later-many terms [] more = cc more
later-many terms (c ∷ rest) more = matches-many_from_later terms (c ∷ rest) (many_many terms rest more)

-- behind a term that takes one character a later place is one character later
pub later-one : (term : Term) (terms : List Term) (c : ℕ) (rest : List ℕ) → is_many term ≡ false
    → later (term ∷ terms) (c ∷ rest) ≡ true → later terms rest ≡ true
unfolding later
later-one term terms c [] one more =
    elim (many_cases (term ∷ terms) [] more) [ inl now ↦ cc (sym (matches-one_empty term terms one) ∙ now) | inr none ↦ cc none ]
later-one term terms c (d ∷ rest) one more =
    elim (many_cases (term ∷ terms) (d ∷ rest) more) [
      | inl now ↦ matches-many_from_none terms rest (and_parts (stands_for term d) (matches terms rest) (sym (matches-one term terms d rest one) ∙ now)).1
      | inr later_still ↦ matches-many_from_later terms rest (later-one term terms d rest one later_still)
    ]

-- ---- the walk

-- `whole` is what is asked: whether `left` matches `rest`, or what stands behind the last `*`, `again`, matches later than
-- at `from`, where it was tried last. A match of `again` at a later place gives one of `left` at a later place.
pub record Walks (whole : Bool) (again : List Term) (from : List ℕ) (left : List Term) (rest : List ℕ) : Type 0 where
  pub same : whole ≡ (matches left rest || later again from)
  pub back : later again from ≡ true → later left rest ≡ true

pub walk_starts : (terms : List Term) (text : List ℕ) → Walks (matches (Many ∷ terms) text) terms text terms text
walk_starts terms text = record { same = matches-many terms text; back = λ more. more }

same_or : (now old : Bool) → (old ≡ true → now ≡ true) → (now || old) ≡ now
same_or true old implied = refl
same_or false true implied = sym (implied refl)
same_or false false implied = refl

-- a further `*` takes the place of the last
pub walk-many : (whole : Bool) (again : List Term) (from : List ℕ) (terms : List Term) (rest : List ℕ)
    → Walks whole again from (Many ∷ terms) rest → Walks whole terms rest terms rest
walk-many whole again from terms rest walk = record {
  same =
      walk.same ∙ same_or (matches (Many ∷ terms) rest) (later again from) (λ more. later-many terms rest (walk.back more))
      ∙ matches-many terms rest;
  back = λ more. more;
}

-- a term takes the character that it stands for
pub walk-one : (whole : Bool) (again : List Term) (from : List ℕ) (term : Term) (terms : List Term) (c : ℕ) (rest : List ℕ)
    → is_many term ≡ false → stands_for term c ≡ true → Walks whole again from (term ∷ terms) (c ∷ rest) → Walks whole again from terms rest
walk-one whole again from term terms c rest one taken walk = record {
  same = walk.same ∙ ap (λ b. b || later again from) (matches-one term terms c rest one ∙ ap (λ b. b && matches terms rest) taken);
  back = λ more. later-one term terms c rest one (walk.back more);
}

-- what is left does not match, and the last `*` takes one character more
pub walk-back : (whole : Bool) (again : List Term) (d : ℕ) (from : List ℕ) (left : List Term) (rest : List ℕ)
    → matches left rest ≡ false → Walks whole again (d ∷ from) left rest → Walks whole again from again from
unfolding later
walk-back whole again d from left rest stuck walk = record {
  same = walk.same ∙ ap (λ b. b || later again (d ∷ from)) stuck ∙ matches-many again from;
  back = λ more. more;
}

-- at the end of the text no later place is left
pub walk-end : (whole : Bool) (again : List Term) (from : List ℕ) (left : List Term) → Walks whole again from left [] → whole ≡ list_all is_many left
unfolding later
walk-end whole again from left walk =
    walk.same ∙ same_or (matches left []) (later again from) (λ more. cc (walk.back more)) ∙ matches-empty left

-- a character that the term does not stand for, and one too many
pub stuck-one : (term : Term) (terms : List Term) (c : ℕ) (rest : List ℕ) → is_many term ≡ false → stands_for term c ≡ false → matches (term ∷ terms) (c ∷ rest) ≡ false
stuck-one term terms c rest one other = matches-one term terms c rest one ∙ ap (λ b. b && matches terms rest) other

-- neither of the two: no term is left, or it does not stand for the character
pub stuck-none : (c : ℕ) (text rest : List ℕ) (left : List Term) → left ≡ [] → text ≡ c ∷ rest → matches left text ≡ false
stuck-none c text rest left none first = rw (none, first) (matches-no_terms c rest)

pub stuck-other : (term : Term) (terms left : List Term) (c : ℕ) (text rest : List ℕ) → left ≡ term ∷ terms → text ≡ c ∷ rest
    → is_many term ≡ false → stands_for term c ≡ false → matches left text ≡ false
stuck-other term terms left c text rest front first one other = rw (front, first) (stuck-one term terms c rest one other)

-- the same steps, for the terms and the text as they are known
many_from_test : (term : Term) → is_many term ≡ true → term ≡ Many
many_from_test Many many = refl
many_from_test One many = cc
many_from_test (Char d) many = cc
many_from_test (OneOf ranges) many = cc
many_from_test (NoneOf ranges) many = cc

pub walk-many_at : (whole : Bool) (again : List Term) (from : List ℕ) (left : List Term) (term : Term) (terms : List Term) (rest : List ℕ)
    → left ≡ term ∷ terms → is_many term ≡ true → Walks whole again from left rest → Walks whole terms rest terms rest
walk-many_at whole again from left term terms rest front many walk =
    let first : left ≡ Many ∷ terms = front ∙ ap (λ t. t ∷ terms) (many_from_test term many) in
    walk-many whole again from terms rest (rw first at walk)

pub walk-one_at : (whole : Bool) (again : List Term) (from : List ℕ) (left : List Term) (text : List ℕ) (term : Term) (terms : List Term) (c : ℕ) (rest : List ℕ)
    → left ≡ term ∷ terms → text ≡ c ∷ rest → is_many term ≡ false → stands_for term c ≡ true
    → Walks whole again from left text → Walks whole again from terms rest
walk-one_at whole again from left text term terms c rest front first one taken walk =
    walk-one whole again from term terms c rest one taken (rw (front, first) at walk)

pub matches-one_at : (left : List Term) (text : List ℕ) (term : Term) (terms : List Term) (c : ℕ) (rest : List ℕ)
    → left ≡ term ∷ terms → text ≡ c ∷ rest → is_many term ≡ false → stands_for term c ≡ true → matches left text ≡ matches terms rest
matches-one_at left text term terms c rest front first one taken =
    rw (front, first) (matches-one term terms c rest one ∙ ap (λ b. b && matches terms rest) taken)

pub matches-one_empty_at : (left : List Term) (text : List ℕ) (term : Term) (terms : List Term)
    → left ≡ term ∷ terms → text ≡ [] → is_many term ≡ false → matches left text ≡ false
matches-one_empty_at left text term terms front none one = rw (front, none) (matches-one_empty term terms one)

no_terms-spelled : (cs bytes : List ℕ) → encode_utf8_all cs ≡ bytes → (length bytes == 0) ≡ matches [] cs
unfolding matches
no_terms-spelled [] [] spelled = refl
no_terms-spelled [] (b ∷ bytes) spelled = cc spelled
no_terms-spelled (c ∷ cs) bytes spelled =
    let long = length-le-encodes (c ∷ cs) in
    let some : 0 < length bytes = omega (arith, ap length spelled) in
    grind arith

-- no terms, and a text in UTF-8
pub no_terms-utf8 : (bytes : List ℕ) → IsUtf8 bytes → (length bytes == 0) ≡ matches [] (chars bytes)
no_terms-utf8 bytes text = no_terms-spelled (chars bytes) bytes (encodes-chars bytes text)
