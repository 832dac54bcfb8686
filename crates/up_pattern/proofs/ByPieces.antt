-- The test of matching says that the text can be cut into pieces that fit.
use Rattle.std.proofs.Common.{◌≡◌, ◌∙◌, ◌++◌, Bool, true, false, ◌&&◌, List, [], ◌∷◌, refl, sym, ap, inl, inr, ℕ}
use Rattle.std.specs.Prelude.{IsTrue}
use Rattle.std.specs.List.{AllZip, concat, list_any}
use Rattle.std.proofs.lemmas.Bool.{and_from, and_parts, or_cases}
use Rattle.up_pattern.specs.declared.terms.Term.{Term}
use Rattle.up_pattern.specs.Matching.{Matches, cuts, fits, matches}
use Rattle.up_pattern.proofs.Stars.{list_any-map, or-right}

-- a cut of a text that passes the test
pub record Cut (test : (List ℕ × List ℕ) → Bool) (text : List ℕ) : Type 0 where
  pub front : List ℕ
  pub rest : List ℕ
  pub whole : front ++ rest ≡ text
  pub passes : test (front, rest) ≡ true

cut_from_any : (test : (List ℕ × List ℕ) → Bool) (text : List ℕ) → list_any test (cuts text) ≡ true → Cut test text
cut_from_any test [] any = elim (or_cases (test ([], [])) false any) [
  | inl now ↦ record { front = []; rest = []; whole = refl; passes = now }
  | inr never ↦ cc never
]
cut_from_any test (c ∷ text) any = elim (or_cases (test ([], c ∷ text)) _ any) [
  | inl now ↦ record { front = []; rest = c ∷ text; whole = refl; passes = now }
  | inr later ↦
      let cut = cut_from_any (λ cut. test (c ∷ cut.0, cut.1)) text (sym (list_any-map test (λ cut. (c ∷ cut.0, cut.1)) (cuts text)) ∙ later) in
      record { front = c ∷ cut.front; rest = cut.rest; whole = ap (λ more. c ∷ more) cut.whole; passes = cut.passes }
]

any_from_cut : (test : (List ℕ × List ℕ) → Bool) (front rest : List ℕ) → test (front, rest) ≡ true → list_any test (cuts (front ++ rest)) ≡ true
any_from_cut test [] [] passes = rw passes refl
any_from_cut test [] (c ∷ rest) passes = rw passes refl
any_from_cut test (c ∷ front) rest passes =
    let later = any_from_cut (λ cut. test (c ∷ cut.0, cut.1)) front rest passes in
    or-right (test ([], c ∷ (front ++ rest))) _ (list_any-map test (λ cut. (c ∷ cut.0, cut.1)) (cuts (front ++ rest)) ∙ later)

pub matches-pieces : (terms : List Term) (text : List ℕ) → matches terms text ≡ true → Matches terms text
unfolding matches
matches-pieces [] [] found = ([], refl, tt)
matches-pieces [] (c ∷ text) found = cc found
matches-pieces (term ∷ terms) text found =
    let cut = cut_from_any (λ cut. fits term cut.0 && matches terms cut.1) text found in
    let parts = and_parts (fits term cut.front) (matches terms cut.rest) cut.passes in
    let more = matches-pieces terms cut.rest parts.1 in
    (cut.front ∷ more.0, ap (λ rest. cut.front ++ rest) more.1 ∙ cut.whole, (parts.0, more.2))

pub pieces-matches : (terms : List Term) (text : List ℕ) (pieces : List (List ℕ)) → concat pieces ≡ text
    → AllZip (λ term piece. IsTrue (fits term piece)) terms pieces → matches terms text ≡ true
unfolding matches
pieces-matches [] [] [] whole all = refl
pieces-matches [] (c ∷ text) [] whole all = cc whole
pieces-matches [] text (piece ∷ pieces) whole all = absurd all
pieces-matches (term ∷ terms) text [] whole all = absurd all
pieces-matches (term ∷ terms) text (piece ∷ pieces) whole all =
    let more = pieces-matches terms (concat pieces) pieces refl all.1 in
    rw (← whole) (any_from_cut (λ cut. fits term cut.0 && matches terms cut.1) piece (concat pieces) (and_from (fits term piece) (matches terms (concat pieces)) all.0 more))
