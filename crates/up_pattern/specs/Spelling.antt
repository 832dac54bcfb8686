-- How an element is written, part by part: the reading of `Elements` the other way round (Go's path.Match).
use Rattle.std.specs.Prelude.{◌≡◌, ℕ, Bool, true, false, ◌==◌, ◌||◌, not, if◌then◌else◌, List, [], ◌∷◌, ◌++◌, Some}
use Rattle.std.specs.List.{AllZip, flat_map, list_all, list_any}
use Rattle.std.specs.Str.{byte}
use Rattle.std.proofs.Common.{◌⊎◌}
use Rattle.up_pattern.specs.declared.terms.Range.{Range}
use Rattle.up_pattern.specs.declared.terms.Term.{Term}
use Rattle.up_pattern.specs.declared.terms.Term.TheVariants.{OneOf, NoneOf}
use Rattle.up_pattern.specs.declared.tokens.Token.{Token}
use Rattle.up_pattern.specs.Elements.{is_close, is_dash, is_sign, range_of, term_of}

-- pieces, one after the other
abbrev pub joined : {X : Type 0} → List (List X) → List X
joined [] = []
joined (piece ∷ pieces) = piece ++ joined pieces

-- a character as it is written: an escaped one after a `\`
abbrev pub spelled : Token → List ℕ
spelled token = if token.is_escaped then byte "\\" ∷ token.character ∷ [] else token.character ∷ []

-- a `\` stands for itself only where it is escaped
abbrev pub is_token : Token → Bool
is_token token = token.is_escaped || not (token.character == byte "\\")

-- a range as it is written: one character, or its ends with a `-` between them; no end is a `-`
abbrev pub SpellsRange : Range → List Token → Type 0
SpellsRange range piece =
    ((c : Token) × (piece ≡ c ∷ []) × (range_of c c ≡ Some range))
    ⊎
    ((low : Token) × (dash : Token) × (high : Token) × (piece ≡ low ∷ dash ∷ high ∷ []) × (is_dash dash ≡ true)
    × (range_of low high ≡ Some range))

-- tokens can be cut into pieces, one for each range, that are written so
abbrev pub SpellsRanges : List Range → List Token → Type 0
SpellsRanges ranges tokens = (pieces : List (List Token)) × (joined pieces ≡ tokens) × AllZip SpellsRange ranges pieces

-- what stands between brackets, of a class: one range at least, after a `^` those that are excepted
abbrev pub SpellsClass : Term → List Token → Type 0
SpellsClass (OneOf ranges) inside =
    (first : Token) × (rest : List Token) × (inside ≡ first ∷ rest) × (is_sign (byte "^") first ≡ false) × SpellsRanges ranges inside
SpellsClass (NoneOf ranges) inside =
    (caret : Token) × (first : Token) × (rest : List Token) × (inside ≡ caret ∷ first ∷ rest)
    × (is_sign (byte "^") caret ≡ true) × SpellsRanges ranges (first ∷ rest)
SpellsClass term inside = ⊥

-- A term as it is written: `*`, `?` or a character that is no sign; or a class between brackets, in which no other `]` is.
abbrev pub SpellsTerm : Term → List Token → Type 0
SpellsTerm term piece =
    ((token : Token) × (piece ≡ token ∷ []) × (is_sign (byte "[") token ≡ false) × (term_of token ≡ term))
    ⊎
    ((opening : Token) × (inside : List Token) × (closing : Token) × (piece ≡ opening ∷ (inside ++ closing ∷ []))
    × (is_sign (byte "[") opening ≡ true)
    × (list_any is_close inside ≡ false) × (is_close closing ≡ true) × SpellsClass term inside)

-- A text is an element of these terms where it spells tokens that can be cut into pieces, one for each term, that are
-- written so.
abbrev pub SpellsElement : List Term → List ℕ → Type 0
SpellsElement terms text =
    (pieces : List (List Token)) × (list_all is_token (joined pieces) ≡ true) × (flat_map spelled (joined pieces) ≡ text)
    × AllZip SpellsTerm terms pieces
