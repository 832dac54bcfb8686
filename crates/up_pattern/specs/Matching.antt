-- Which texts an element of a pattern matches (Go's path.Match). An element is a list of terms and a text a list of
-- characters.
use Rattle.std.specs.Prelude.{◌≡◌, ℕ, Bool, true, false, ◌==◌, ◌&&◌, nat_le, not, List, [], ◌∷◌, map, IsTrue}
use Rattle.std.specs.List.{list_any, concat, AllZip}
use Rattle.up_pattern.specs.declared.terms.Range.{Range}
use Rattle.up_pattern.specs.declared.terms.Term.{Term}
use Rattle.up_pattern.specs.declared.terms.Term.TheVariants.{Many, One, Char, OneOf, NoneOf}

-- between the ends of a range, both included; no character is where the low end is above the high one
abbrev pub is_in_range : ℕ → Range → Bool
is_in_range c range = nat_le range.low c && nat_le c range.high

-- whether a term is `*`
abbrev pub is_many : Term → Bool
is_many Many = true
is_many term = false

-- one of the characters that a term stands for
abbrev pub stands_for : Term → ℕ → Bool
stands_for Many c = true
stands_for One c = true
stands_for (Char d) c = c == d
stands_for (OneOf ranges) c = list_any (is_in_range c) ranges
stands_for (NoneOf ranges) c = not (list_any (is_in_range c) ranges)

-- a piece of text fits a term: `*` any piece, the empty one too, and any other term one character that it stands for
abbrev pub fits : Term → List ℕ → Bool
fits Many piece = true
fits term (c ∷ []) = stands_for term c
fits term piece = false

-- a text matches where it can be cut into pieces, one for each term, that fit the terms in their order
abbrev pub Matches : List Term → List ℕ → Type 0
Matches terms text = (pieces : List (List ℕ)) × (concat pieces ≡ text) × AllZip (λ term piece. IsTrue (fits term piece)) terms pieces

-- the ways to cut a text in two
abbrev pub cuts : List ℕ → List (List ℕ × List ℕ)
cuts [] = ([], []) ∷ []
cuts (c ∷ rest) = ([], c ∷ rest) ∷ map (λ cut. (c ∷ cut.0, cut.1)) (cuts rest)

-- Whether terms match a text, as a test: the empty text is cut into no pieces, and otherwise the first piece is cut off in some way.
unfoldable pub matches : List Term → List ℕ → Bool
matches [] [] = true
matches [] (c ∷ rest) = false
matches (term ∷ terms) text = list_any (λ cut. fits term cut.0 && matches terms cut.1) (cuts text)
