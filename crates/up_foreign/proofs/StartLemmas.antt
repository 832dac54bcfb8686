-- From where a walk has to begin.
use Rattle.std.proofs.Common.{Bor, ◌≡◌, ℕ, zero, suc, ◌<◌, ◌≤◌, ◌-◌, ◌&&◌, Bool, true, false, List, [], ◌∷◌, length, take, refl, sym, ap, subst, ◌∙◌, ◌⊎◌, inl, inr, arith, Option, Some, None}
use Rattle.std.specs.Prelude.{nat_lt}
use Rattle.std.specs.Str.{bytes_eq, chars}
use Rattle.std.proofs.lemmas.Bool.{and_from, and_parts, cases_lt, false≢true, lt-ltb, ltb-true}
use Rattle.std.proofs.lemmas.List.{take-take, take_all}
use Rattle.std.proofs.lemmas.Slice.Eq.{bytes_eq-Decides, slice_eq-Decides}
use lib.Pointwise.{pointwise}
use Rattle.up_names.specs.PathNames.{PathName, cut, is_under, parent_of}
use Rattle.up_pattern.specs.declared.terms.Term.{Term}
use Rattle.up_pattern.specs.Elements.{literal_of}
use Rattle.up_pattern.specs.Matching.{matches}
use Rattle.up_pattern.specs.Patterns.{PatternName}
use Rattle.up_log_tree.proofs.Paths.{length_cut, parent_is}
use Rattle.up_list.specs.Globs.{is_candidate, literal_path, literals, matches_front, matches_name}
use Rattle.up_list.proofs.FrontLemmas.{front_elements, literals_first, same_path}
use Rattle.up_foreign.specs.Items.{IsStart, wanted}
use Rattle.up_foreign.specs.declared.items.Wanted.{Wanted}
use Rattle.up_foreign.specs.declared.items.Wanted.TheVariants.{Matching}

-- ---- under a path

under_elements : (q p : PathName) → is_under q p ≡ true → (q.owner ≡ p.owner) × (p.elements ≡ take (length p.elements) q.elements)
under_elements q p h =
    let parts = and_parts (bytes_eq q.owner p.owner) (pointwise bytes_eq p.elements (take (length p.elements) q.elements)) h in
    ((bytes_eq-Decides q.owner p.owner).0 parts.0, (slice_eq-Decides bytes_eq-Decides p.elements (take (length p.elements) q.elements) (pointwise bytes_eq p.elements (take (length p.elements) q.elements)) refl).0 parts.1)

pub under_starts : (p : PathName) (looked_for : Wanted) → ((name : PathName) → wanted looked_for name ≡ is_under name p) → IsStart looked_for p
under_starts p looked_for means q owned h = go (cases_lt (length p.elements) (length q.elements)) (under_elements q p under)
  where
    under : is_under q p ≡ true
    under = sym (means q) ∙ h

    go : (length p.elements < length q.elements) ⊎ (length q.elements ≤ length p.elements) → (q.owner ≡ p.owner) × (p.elements ≡ take (length p.elements) q.elements) →
        (q ≡ p) ⊎ ((dir : PathName) × (parent_of q ≡ Some dir) × ((dir ≡ p) ⊎ (wanted looked_for dir ≡ true)))
    go (inl longer) known = above (length q.elements - 1) (omega (arith, longer))
      where
        above : (k : ℕ) → length q.elements ≡ suc k → (q ≡ p) ⊎ ((dir : PathName) × (parent_of q ≡ Some dir) × ((dir ≡ p) ⊎ (wanted looked_for dir ≡ true)))
        above k size = inr (cut k q, parent_is q k size, inr (means (cut k q) ∙ (ap (λ es. bytes_eq q.owner p.owner && pointwise bytes_eq p.elements es) (take-take (length p.elements) k q.elements (omega (arith, longer, size))) ∙ under)))
    go (inr short) known = inl (same_path q p known.0 (sym (take_all (length p.elements) q.elements short) ∙ sym known.1))

-- ---- matching a pattern

match_first : (terms : List Term) (rest : List (List Term)) (name : List ℕ) (names : List (List ℕ)) → matches_front (terms ∷ rest) (name ∷ names) ≡ (matches_name terms name && matches_front rest names)
unfolding matches_front
match_first terms rest name names = refl

match_none : (ts : List (List Term)) → matches_front ts [] ≡ true
unfolding matches_front
match_none ts = refl

match_more : (name : List ℕ) (names : List (List ℕ)) → matches_front [] (name ∷ names) ≡ false
unfolding matches_front
match_more name names = refl

-- fewer elements match too
match_fewer : (ts : List (List Term)) (names : List (List ℕ)) (n : ℕ) → matches_front ts names ≡ true → matches_front ts (take n names) ≡ true
match_fewer ts names zero h = match_none ts
match_fewer ts [] (suc n) h = match_none ts
match_fewer [] (name ∷ names) (suc n) h = absurd (false≢true (sym (match_more name names) ∙ h))
match_fewer (terms ∷ ts) (name ∷ names) (suc n) h =
    let both = and_parts (matches_name terms name) (matches_front ts names) (sym (match_first terms ts name names) ∙ h) in
    match_first terms ts name (take n names) ∙ and_from (matches_name terms name) (matches_front ts (take n names)) both.0 (match_fewer ts names n both.1)

-- elements that match, as many as are literal in front, are those
front_alone : (ts : List (List Term)) (names : List (List ℕ)) → matches_front ts names ≡ true → length names ≡ length (literals ts) → names ≡ literals ts
front_alone ts [] h size = none (literals ts) size
  where
    none : (xs : List (List ℕ)) → 0 ≡ length xs → [] ≡ xs
    none [] size = refl
    none (x ∷ xs) size = absurd (omega (arith, size))
front_alone [] (name ∷ names) h size = absurd (false≢true (sym (match_more name names) ∙ h))
front_alone (terms ∷ rest) (name ∷ names) h size = go (literal_of terms) refl (λ matched shorter. front_alone rest names matched shorter)
  where
    both : (matches_name terms name ≡ true) × (matches_front rest names ≡ true)
    both = and_parts (matches_name terms name) (matches_front rest names) (sym (match_first terms rest name names) ∙ h)

    literal_match : (text : List ℕ) → literal_of terms ≡ Some text → matches_name terms name ≡ bytes_eq name text
    literal_match text e = ap (λ o. elim o as (λ _. Bool) [ Some text ↦ bytes_eq name text | None ↦ matches terms (chars name) ]) e

    go : (o : Option (List ℕ)) → literal_of terms ≡ o → (matches_front rest names ≡ true → length names ≡ length (literals rest) → names ≡ literals rest) → name ∷ names ≡ literals (terms ∷ rest)
    go None e later = absurd (let z : suc (length names) ≡ 0 = size ∙ ap length (literals_first terms rest None e) in omega (arith, z))
    go (Some text) e later =
        let same : name ≡ text = (bytes_eq-Decides name text).0 (sym (literal_match text e) ∙ both.0) in
        let left : suc (length names) ≡ suc (length (literals rest)) = size ∙ ap length (literals_first terms rest (Some text) e) in
        ap (λ n. n ∷ names) same ∙ (ap (λ ns. text ∷ ns) (later both.1 (omega (arith, left))) ∙ sym (literals_first terms rest (Some text) e))

pub candidates_start : (pattern : PatternName) (start : PathName) (looked_for : Wanted) → ((name : PathName) → wanted looked_for name ≡ is_candidate pattern name) → start ≡ literal_path pattern → IsStart looked_for start
unfolding is_candidate
candidates_start pattern start looked_for means begins q owned h = above (length q.elements - 1) (omega (arith, longer))
  where
    parts : (nat_lt (length (literals pattern.elements)) (length q.elements) ≡ true) × (matches_front pattern.elements q.elements ≡ true)
    parts = and_parts (nat_lt (length (literals pattern.elements)) (length q.elements)) (matches_front pattern.elements q.elements) (sym (means q) ∙ h)

    longer : length (literals pattern.elements) < length q.elements
    longer = ltb-true (length (literals pattern.elements)) (length q.elements) parts.0

    above : (k : ℕ) → length q.elements ≡ suc k → (q ≡ start) ⊎ ((dir : PathName) × (parent_of q ≡ Some dir) × ((dir ≡ start) ⊎ (wanted looked_for dir ≡ true)))
    above k size = inr (cut k q, parent_is q k size, go (cases_lt (length (literals pattern.elements)) k))
      where
        shorter : length (cut k q).elements ≡ k
        shorter = length_cut k q (omega (arith, size))

        matched : matches_front pattern.elements (cut k q).elements ≡ true
        matched = match_fewer pattern.elements q.elements k parts.1

        go : (length (literals pattern.elements) < k) ⊎ (k ≤ length (literals pattern.elements)) → (cut k q ≡ start) ⊎ (wanted looked_for (cut k q) ≡ true)
        go (inl more) = inr (means (cut k q) ∙ and_from (nat_lt (length (literals pattern.elements)) (length (cut k q).elements)) (matches_front pattern.elements (cut k q).elements)
            (lt-ltb (length (literals pattern.elements)) (length (cut k q).elements) (subst (λ n. length (literals pattern.elements) < n) (sym shorter) more)) matched)
        go (inr fewer) =
            let as_many : k ≡ length (literals pattern.elements) = omega (arith, fewer, longer, size) in
            inl (same_path (cut k q) (literal_path pattern) (owned ∙ (ap (λ (p : PathName). p.owner) begins))
            (front_alone pattern.elements (cut k q).elements matched (shorter ∙ as_many) ∙ sym (front_elements pattern)) ∙ sym begins)

-- more elements than the literal front has
pub many_of : (pattern : Bor PatternName) (front : PathName) (n : ℕ) → n ≡ length front.elements → front ≡ literal_path pattern.now → (name : PathName) → wanted (Matching pattern n) name ≡ is_candidate pattern.now name
unfolding is_candidate
many_of pattern front n size is name =
    ap (λ m. nat_lt m (length name.elements) && matches_front pattern.now.elements name.elements) (size ∙ (ap (λ (p : PathName). length p.elements) is ∙ ap length (front_elements pattern.now)))
