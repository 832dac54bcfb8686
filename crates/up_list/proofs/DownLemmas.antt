-- How a walk goes down: a child of a path on the way is on the way by its name and by list on its parent alone.
use Rattle.std.proofs.Common.{◌≡◌, ℕ, zero, suc, ◌+◌, ◌<◌, ◌≤◌, Bool, true, false, ◌&&◌, ◌||◌, List, [], ◌∷◌, ◌++◌, length, take, refl, sym, ap, ◌∙◌, arith, Some, None}
use Rattle.std.specs.Prelude.{slice_get}
use Rattle.std.proofs.Math.Seq.{take-length}
use Rattle.std.proofs.lemmas.List.{take-append-le, length-take-le, length_push}
use Rattle.up_names.specs.PathNames.{PathName, cut, extended}
use Rattle.up_pattern.specs.declared.terms.Term.{Term}
use Rattle.up_pattern.specs.Patterns.{PatternName}
use Rattle.up_list.specs.Looks.{Look, rights}
use Rattle.up_list.specs.Globs.{is_literal, is_listed, matches_front, matches_name}

-- the elements of a path match the first of the pattern, and list holds before each that is not literal
abbrev pub is_on_way : Look → PatternName → PathName → Bool
is_on_way look pattern path = matches_front pattern.elements path.elements && is_listed look path 0 (take (length path.elements) pattern.elements)

some_same : {X : Type 0} (x y : X) → Some x ≡ Some y → x ≡ y
some_same x y h = cc

some_none : {X : Type 0} (x : X) → Some x ≡ None → ⊥
some_none x h = absurd (cc)

and_again : (a b c : Bool) → (a && (b && c)) ≡ ((a && b) && c)
and_again true b c = refl
and_again false b c = refl

swap : (a b c d : Bool) → ((a && b) && (c && d)) ≡ ((a && c) && (b && d))
swap true true c d = refl
swap true false true d = refl
swap true false false d = refl
swap false b c d = refl

front_next : (patterns : List (List Term)) (elements : List (List ℕ)) (name : List ℕ) (terms : List Term) → slice_get patterns (length elements) ≡ Some terms →
    matches_front patterns (elements ++ name ∷ []) ≡ (matches_front patterns elements && matches_name terms name)
unfolding matches_front
front_next [] elements name terms h = absurd (some_none terms (sym h))
front_next (first ∷ patterns) [] name terms h = and_true (matches_name first name) ∙ ap (λ t. matches_name t name) (some_same first terms h)
  where
    and_true : (b : Bool) → (b && true) ≡ b
    and_true true = refl
    and_true false = refl
front_next (first ∷ patterns) (element ∷ elements) name terms h =
    ap (λ b. matches_name first element && b) (front_next patterns elements name terms h)
    ∙ and_again (matches_name first element) (matches_front patterns elements) (matches_name terms name)

listed_next : (look : Look) (path : PathName) (n : ℕ) (passed : List (List Term)) (terms : List Term) →
    is_listed look path n (passed ++ terms ∷ []) ≡ (is_listed look path n passed && (is_literal terms || (rights look (cut (n + length passed) path)).list))
unfolding is_listed
listed_next look path n [] terms = and_true (is_literal terms || (rights look (cut n path)).list) ∙ ap (λ k. is_literal terms || (rights look (cut k path)).list) (let e : n ≡ n + 0 = omega arith in e)
  where
    and_true : (b : Bool) → (b && true) ≡ b
    and_true true = refl
    and_true false = refl
listed_next look path n (first ∷ passed) terms =
    ap (λ b. (is_literal first || (rights look (cut n path)).list) && b) (listed_next look path (suc n) passed terms)
    ∙ (and_again (is_literal first || (rights look (cut n path)).list) (is_listed look path (suc n) passed) (is_literal terms || (rights look (cut (suc n + length passed) path)).list)
    ∙ ap (λ k. ((is_literal first || (rights look (cut n path)).list) && is_listed look path (suc n) passed) && (is_literal terms || (rights look (cut k path)).list)) (let e : suc n + length passed ≡ n + suc (length passed) = omega arith in e))

-- the rights on the prefixes are those of the shorter path
listed_above : (look : Look) (dir : PathName) (name : List ℕ) (n : ℕ) (passed : List (List Term)) → n + length passed ≤ length dir.elements → is_listed look (extended dir name) n passed ≡ is_listed look dir n passed
unfolding is_listed
listed_above look dir name n [] h = refl
listed_above look dir name n (first ∷ passed) h =
    ap (λ p. (is_literal first || (rights look p).list) && is_listed look (extended dir name) (suc n) passed) (ap (λ elements. record { owner = dir.owner; elements = elements }) (take-append-le n dir.elements (name ∷ []) (let e : n ≤ length dir.elements = omega arith in e)))
    ∙ ap (λ b. (is_literal first || (rights look (cut n dir)).list) && b) (listed_above look dir name (suc n) passed (omega arith))

longer : {X : Type 0} (xs : List X) (n : ℕ) (x : X) → slice_get xs n ≡ Some x → n < length xs
longer [] n x h = absurd (some_none x (sym h))
longer (y ∷ xs) zero x h = omega arith
longer (y ∷ xs) (suc n) x h = let rest = longer xs n x h in omega (arith, rest)

take_next : {X : Type 0} (n : ℕ) (xs : List X) (x : X) → slice_get xs n ≡ Some x → take (suc n) xs ≡ take n xs ++ x ∷ []
take_next n [] x h = absurd (some_none x (sym h))
take_next zero (y ∷ xs) x h = ap (λ z. z ∷ []) (some_same y x h)
take_next (suc n) (y ∷ xs) x h = ap (λ ys. y ∷ ys) (take_next n xs x h)

pub glob_goes_down : (look : Look) (pattern : PatternName) (dir : PathName) (name : List ℕ) (terms : List Term) → slice_get pattern.elements (length dir.elements) ≡ Some terms →
    is_on_way look pattern (extended dir name) ≡ (is_on_way look pattern dir && (matches_name terms name && (is_literal terms || (rights look dir).list)))
glob_goes_down look pattern dir name terms next =
    let n : ℕ = length dir.elements in
    let passed = take n pattern.elements in
    let path : PathName = extended dir name in
    let low : n < length pattern.elements = longer pattern.elements n terms next in
    let size : length passed ≡ n = length-take-le n pattern.elements (omega arith) in
    let whole : cut n path ≡ dir = ap (λ elements. record { owner = dir.owner; elements = elements }) (take-append-le n dir.elements (name ∷ []) (omega arith) ∙ take-length dir.elements) in
    let listed : is_listed look path 0 (take (length path.elements) pattern.elements) ≡ (is_listed look dir 0 passed && (is_literal terms || (rights look dir).list)) =
    ap (λ k. is_listed look path 0 (take k pattern.elements)) (length_push dir.elements name ∙ (let e : n + 1 ≡ suc n = omega arith in e))
    ∙ (ap (is_listed look path 0) (take_next n pattern.elements terms next)
    ∙ (listed_next look path 0 passed terms
    ∙ (ap (λ b. b && (is_literal terms || (rights look (cut (0 + length passed) path)).list)) (listed_above look dir name 0 passed (omega arith))
    ∙ ap (λ (p : PathName). is_listed look dir 0 passed && (is_literal terms || (rights look p).list)) (ap (λ k. cut k path) (let e : 0 + length passed ≡ n = omega arith in e) ∙ whole)))) in
    ap (λ b. b && is_listed look path 0 (take (length path.elements) pattern.elements)) (front_next pattern.elements dir.elements name terms next)
    ∙ (ap (λ b. (matches_front pattern.elements dir.elements && matches_name terms name) && b) listed
    ∙ swap (matches_front pattern.elements dir.elements) (matches_name terms name) (is_listed look dir 0 passed) (is_literal terms || (rights look dir).list))
