-- What the definitions of patterns say in other words.
use Rattle.std.specs.Prelude.{◌≡◌, ◌↔◌, ℕ, true, List, Some, encode_utf8}
use Rattle.std.specs.List.{flat_map}
use Rattle.up_pattern.specs.declared.terms.Term.{Term}
use Rattle.up_pattern.specs.Elements.{literal_of, terms_of}
use Rattle.up_pattern.specs.Matching.{matches}
use Rattle.up_pattern.specs.Spelling.{SpellsElement}

-- a text has these terms exactly where it is written from them, part by part
abbrev pub TermsAreSpelled : Type 0
TermsAreSpelled = (text : List ℕ) (terms : List Term) → (terms_of text ≡ Some terms) ↔ SpellsElement terms text

-- the law that a text is read as an element in one way
abbrev pub SpellingIsOne : Type 0
SpellingIsOne = (text : List ℕ) (one two : List Term) → SpellsElement one text → SpellsElement two text → one ≡ two

-- a literal element matches one text alone, whose UTF-8 is what the element reads
abbrev pub LiteralMatchesItsText : Type 0
LiteralMatchesItsText = (terms : List Term) (word : List ℕ) → literal_of terms ≡ Some word →
    (text : List ℕ) × (flat_map encode_utf8 text ≡ word) × ((other : List ℕ) → (matches terms other ≡ true) ↔ (other ≡ text))
