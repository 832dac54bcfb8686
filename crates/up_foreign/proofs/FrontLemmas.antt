-- Elements of a path that match the first elements of a pattern, one by one.
use Rattle.std.proofs.Common.{◌≡◌, ℕ, zero, suc, ◌+◌, ◌<◌, ◌≤◌, ◌&&◌, Bool, true, false, List, [], ◌∷◌, length, drop, refl, sym, ap, ◌∙◌, arith, Option, Some, None}
use Rattle.std.specs.Prelude.{slice_get, slice_index_or}
use Rattle.std.specs.Option.{option_and_then}
use Rattle.std.specs.Str.{bytes_eq, chars}
use Rattle.std.proofs.lemmas.List.{drop_all}
use Rattle.up_pattern.specs.declared.terms.Term.{Term}
use Rattle.up_pattern.specs.Elements.{literal_of}
use Rattle.up_pattern.specs.Matching.{matches}
use Rattle.up_pattern.specs.Patterns.{PatternName, literal_at}
use Rattle.up_log_tree.proofs.Paths.{some_none, some_same}
use Rattle.up_list.specs.Globs.{matches_front, matches_name}

match_first : (terms : List Term) (rest : List (List Term)) (name : List ℕ) (names : List (List ℕ)) → matches_front (terms ∷ rest) (name ∷ names) ≡ (matches_name terms name && matches_front rest names)
unfolding matches_front
match_first terms rest name names = refl

match_none : (ts : List (List Term)) → matches_front ts [] ≡ true
unfolding matches_front
match_none ts = refl

match_more : (name : List ℕ) (names : List (List ℕ)) → matches_front [] (name ∷ names) ≡ false
unfolding matches_front
match_more name names = refl

-- behind the last element all match
pub matched_all : (ts : List (List Term)) (names : List (List ℕ)) (at : ℕ) → length names ≤ at → matches_front (drop at ts) (drop at names) ≡ true
matched_all ts names at past = ap (matches_front (drop at ts)) (drop_all at names past) ∙ match_none (drop at ts)

-- an element of a path, and that of a pattern
at_next : (ts : List (List Term)) (names : List (List ℕ)) (at : ℕ) (terms : List Term) (name : List ℕ) → slice_get ts at ≡ Some terms → slice_get names at ≡ Some name →
    matches_front (drop at ts) (drop at names) ≡ (matches_name terms name && matches_front (drop (suc at) ts) (drop (suc at) names))
at_next [] names at terms name a b = absurd (some_none terms (sym a))
at_next (t ∷ ts) [] at terms name a b = absurd (some_none name (sym b))
at_next (t ∷ ts) (n ∷ names) zero terms name a b =
    match_first t ts n names ∙ (ap (λ u. matches_name u n && matches_front ts names) (some_same t terms a) ∙ ap (λ m. matches_name terms m && matches_front ts names) (some_same n name b))
at_next (t ∷ ts) (n ∷ names) (suc at) terms name a b = at_next ts names at terms name a b

at_both : (ts : List (List Term)) (names : List (List ℕ)) (at : ℕ) (terms : List Term) (name : List ℕ) → slice_get ts at ≡ Some terms → slice_get names at ≡ Some name →
    matches_front (drop at ts) (drop at names) ≡ (matches_name terms name && matches_front (drop (at + 1) ts) (drop (at + 1) names))
at_both ts names at terms name a b =
    at_next ts names at terms name a b
    ∙ ap (λ n. matches_name terms name && matches_front (drop n ts) (drop n names)) (let e : suc at ≡ at + 1 = omega arith in e)

by_name : (terms : List Term) (name : List ℕ) (o : Option (List ℕ)) → literal_of terms ≡ o → matches_name terms name ≡ (elim o as (λ _. Bool) [ Some text ↦ bytes_eq name text | None ↦ matches terms (chars name) ])
by_name terms name o e = ap (λ o. elim o as (λ _. Bool) [ Some text ↦ bytes_eq name text | None ↦ matches terms (chars name) ]) e

-- where that is literal
pub at_literal : (pattern : PatternName) (names : List (List ℕ)) (at : ℕ) (name text : List ℕ) → Some name ≡ slice_get names at → Some text ≡ literal_at pattern at →
    matches_front (drop at pattern.elements) (drop at names) ≡ (bytes_eq name text && matches_front (drop (at + 1) pattern.elements) (drop (at + 1) names))
at_literal pattern names at name text there literal = go (slice_get pattern.elements at) refl (sym literal)
  where
    go : (o : Option (List Term)) → slice_get pattern.elements at ≡ o → option_and_then literal_of o ≡ Some text →
        matches_front (drop at pattern.elements) (drop at names) ≡ (bytes_eq name text && matches_front (drop (at + 1) pattern.elements) (drop (at + 1) names))
    go None e h = absurd (some_none text (sym h))
    go (Some terms) e h =
        at_both pattern.elements names at terms name e (sym there)
        ∙ ap (λ b. b && matches_front (drop (at + 1) pattern.elements) (drop (at + 1) names)) (by_name terms name (Some text) h)

index_is : (ts : List (List Term)) (at : ℕ) (terms : List Term) → slice_get ts at ≡ Some terms → slice_index_or ts at [] ≡ terms
index_is [] at terms h = absurd (some_none terms (sym h))
index_is (t ∷ ts) zero terms h = some_same t terms h
index_is (t ∷ ts) (suc at) terms h = index_is ts at terms h

within : (ts : List (List Term)) (at : ℕ) → at < length ts → slice_get ts at ≡ None → ⊥
within [] at low h = omega (arith, low)
within (t ∷ ts) zero low h = some_none t h
within (t ∷ ts) (suc at) low h = within ts at (omega (arith, low)) h

-- where it is not
pub at_pattern : (pattern : PatternName) (names : List (List ℕ)) (at : ℕ) (name : List ℕ) → Some name ≡ slice_get names at → None ≡ literal_at pattern at → at < length pattern.elements →
    matches_front (drop at pattern.elements) (drop at names) ≡ (matches (slice_index_or pattern.elements at []) (chars name) && matches_front (drop (at + 1) pattern.elements) (drop (at + 1) names))
at_pattern pattern names at name there none low = go (slice_get pattern.elements at) refl (sym none)
  where
    go : (o : Option (List Term)) → slice_get pattern.elements at ≡ o → option_and_then literal_of o ≡ None →
        matches_front (drop at pattern.elements) (drop at names) ≡ (matches (slice_index_or pattern.elements at []) (chars name) && matches_front (drop (at + 1) pattern.elements) (drop (at + 1) names))
    go None e h = absurd (within pattern.elements at low e)
    go (Some terms) e h =
        at_both pattern.elements names at terms name e (sym there)
        ∙ (ap (λ b. b && matches_front (drop (at + 1) pattern.elements) (drop (at + 1) names)) (by_name terms name None h)
        ∙ ap (λ t. matches t (chars name) && matches_front (drop (at + 1) pattern.elements) (drop (at + 1) names)) (sym (index_is pattern.elements at terms e)))

past_names : (ts : List (List Term)) (names : List (List ℕ)) (at : ℕ) (name : List ℕ) → slice_get names at ≡ Some name → length ts ≤ at → matches_front (drop at ts) (drop at names) ≡ false
past_names ts [] at name there past = absurd (some_none name (sym there))
past_names [] (n ∷ names) zero name there past = match_more n names
past_names [] (n ∷ names) (suc at) name there past = ap (λ (ts : List (List Term)). matches_front ts (drop at names)) (sym (drop_all at [] (omega arith))) ∙ past_names [] names at name there (omega arith)
past_names (t ∷ ts) (n ∷ names) zero name there past = absurd (omega (arith, past))
past_names (t ∷ ts) (n ∷ names) (suc at) name there past = past_names ts names at name there (omega (arith, past))

-- behind the last of the pattern none matches
pub at_past : (pattern : PatternName) (names : List (List ℕ)) (at : ℕ) (name : List ℕ) → Some name ≡ slice_get names at → length pattern.elements ≤ at → matches_front (drop at pattern.elements) (drop at names) ≡ false
at_past pattern names at name there past = past_names pattern.elements names at name (sym there) past
