-- What the text of a piece between slashes is read as.
use Rattle.std.proofs.Common.{◌≡◌, ◌∙◌, Bool, true, false, ◌&&◌, not, List, ℕ, Option, Some, None, refl, sym, ap}
use Rattle.std.specs.Option.{option_map_or}
use Rattle.std.specs.Str.{chars}
use Rattle.up_names.specs.PathNames.{is_element}
use Rattle.up_pattern.specs.declared.terms.Term.{Term}
use Rattle.up_pattern.specs.Elements.{literal_of, terms_of}
use Rattle.up_pattern.specs.Patterns.{element_of, hides_step, is_step}

pub element_of-no_text : (piece : List ℕ) → is_element piece ≡ false → element_of piece ≡ None
unfolding element_of
element_of-no_text piece bad = rw bad refl

pub element_of-malformed : (piece : List ℕ) → is_element piece ≡ true → terms_of (chars piece) ≡ None → element_of piece ≡ None
unfolding element_of
element_of-malformed piece text malformed = rw (text, malformed) refl

-- the test that the reader makes, of the literal that it made
pub hides_step-literal : (piece : List ℕ) (terms : List Term) (literal : Option (List ℕ)) (b : Bool) → literal ≡ literal_of terms
    → b ≡ (not (is_step piece) && option_map_or is_step literal false) → hides_step piece terms ≡ b
hides_step-literal piece terms literal b same test = sym (test ∙ ap (λ l. not (is_step piece) && option_map_or is_step l false) same)

pub element_of-hidden : (piece : List ℕ) (terms : List Term) → is_element piece ≡ true → terms_of (chars piece) ≡ Some terms
    → hides_step piece terms ≡ true → element_of piece ≡ None
unfolding element_of
element_of-hidden piece terms text read hidden = rw (text, read, hidden) refl

pub element_of-good : (piece : List ℕ) (terms : List Term) → is_element piece ≡ true → terms_of (chars piece) ≡ Some terms
    → hides_step piece terms ≡ false → element_of piece ≡ Some terms
unfolding element_of
element_of-good piece terms text read plain = rw (text, read, plain) refl
