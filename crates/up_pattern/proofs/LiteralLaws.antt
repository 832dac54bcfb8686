-- A literal element matches its text alone.
use Rattle.std.proofs.Common.{◌≡◌, ◌∙◌, ◌++◌, true, List, [], ◌∷◌, Some, refl, sym, ap, subst, ℕ}
use Rattle.std.specs.Prelude.{IsTrue, ◌↔◌, encode_utf8}
use Rattle.std.specs.List.{AllZip, concat, flat_map}
use Rattle.std.proofs.lemmas.Bool.{eqb-true, eq-eqb}
use Rattle.up_pattern.specs.declared.terms.Term.{Term}
use Rattle.up_pattern.specs.declared.terms.Term.TheVariants.{Many, One, Char, OneOf, NoneOf}
use Rattle.up_pattern.specs.Elements.{literal_of}
use Rattle.up_pattern.specs.Matching.{fits, matches}
use Rattle.up_pattern.proofs.ByPieces.{matches-pieces, pieces-matches}
use Rattle.up_pattern.proofs.LiteralNames.{appended_rest}

-- a text that matches these terms, and no other does
record Sole (terms : List Term) (word : List ℕ) : Type 0 where
  text : List ℕ
  encoded : flat_map encode_utf8 text ≡ word
  only : (pieces : List (List ℕ)) → AllZip (λ term piece. IsTrue (fits term piece)) terms pieces → concat pieces ≡ text
  pieces : List (List ℕ)
  fit : AllZip (λ term piece. IsTrue (fits term piece)) terms pieces

fits-char : (c : ℕ) (piece : List ℕ) → IsTrue (fits (Char c) piece) → piece ≡ c ∷ []
fits-char c [] fit = absurd (cc fit)
fits-char c (d ∷ []) fit = ap (λ e. e ∷ []) (eqb-true d c fit)
fits-char c (d ∷ e ∷ rest) fit = absurd (cc fit)

char-fits : (c : ℕ) → IsTrue (fits (Char c) (c ∷ []))
char-fits c = eq-eqb c c refl

sole : (terms : List Term) (word : List ℕ) → literal_of terms ≡ Some word → Sole terms word
unfolding literal_of
sole [] word reads = record { text = []; encoded = cc reads; only = only_nil; pieces = []; fit = tt }
  where
    only_nil : (pieces : List (List ℕ)) → AllZip (λ term piece. IsTrue (fits term piece)) [] pieces → concat pieces ≡ []
    only_nil [] fit = refl
    only_nil (piece ∷ pieces) fit = absurd fit
sole (Char c ∷ terms) word reads =
    let r = appended_rest (encode_utf8 c) (literal_of terms) word reads in
    let s = sole terms r.0 r.1 in
    record {
      text = c ∷ s.text;
      encoded = ap (λ rest. encode_utf8 c ++ rest) s.encoded ∙ sym r.2;
      only = only_more s;
      pieces = (c ∷ []) ∷ s.pieces;
      fit = (char-fits c, s.fit);
    }
  where
    only_more : {rest : List ℕ} (s : Sole terms rest) (pieces : List (List ℕ)) → AllZip (λ term piece. IsTrue (fits term piece)) (Char c ∷ terms) pieces → concat pieces ≡ c ∷ s.text
    only_more s [] fit = absurd fit
    only_more s (piece ∷ pieces) fit = ap (λ p. p ++ concat pieces) (fits-char c piece fit.0) ∙ ap (λ rest. c ∷ rest) (s.only pieces fit.1)
sole (Many ∷ terms) word reads = absurd (cc reads)
sole (One ∷ terms) word reads = absurd (cc reads)
sole (OneOf ranges ∷ terms) word reads = absurd (cc reads)
sole (NoneOf ranges ∷ terms) word reads = absurd (cc reads)

pub literal_matches : (terms : List Term) (word : List ℕ) → literal_of terms ≡ Some word →
    (text : List ℕ) × (flat_map encode_utf8 text ≡ word) × ((other : List ℕ) → (matches terms other ≡ true) ↔ (other ≡ text))
literal_matches terms word reads =
    let s = sole terms word reads in (
      s.text,
      s.encoded,
      λ other. (
        λ found. let m = matches-pieces terms other found in sym m.1 ∙ s.only m.0 m.2,
        λ same. subst (λ t. matches terms t ≡ true) (s.only s.pieces s.fit ∙ sym same) (pieces-matches terms (concat s.pieces) s.pieces refl s.fit),
      ),
    )
