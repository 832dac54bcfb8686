-- The text that a literal element reads, one term at a time.
use Rattle.std.proofs.Common.{◌≡◌, ◌∙◌, ℕ, ◌+◌, ◌<◌, ◌≤◌, List, [], ◌∷◌, length, get_or, drop, Some, None, refl, sym, ap}
use Rattle.std.specs.Prelude.{encode_utf8}
use Rattle.std.proofs.lemmas.List.{at_drop_all, at_drop_more}
use Rattle.up_pattern.specs.declared.terms.Term.{Term}
use Rattle.up_pattern.specs.declared.terms.Term.TheVariants.{Many, One, Char, OneOf, NoneOf}
use Rattle.up_pattern.specs.Elements.{literal_of, prepended}

literal_of-other : (term : Term) (rest : List Term) → ((c : ℕ) → term ≡ Char c → ⊥) → literal_of (term ∷ rest) ≡ None
unfolding literal_of
literal_of-other Many rest other = refl
literal_of-other One rest other = refl
literal_of-other (Char c) rest other = absurd (other c refl)
literal_of-other (OneOf ranges) rest other = refl
literal_of-other (NoneOf ranges) rest other = refl

-- a term that is no character
pub literal_of-drop_other : (terms : List Term) (n : ℕ) (term : Term) → n < length terms → term ≡ get_or terms n term
    → ((c : ℕ) → term ≡ Char c → ⊥) → literal_of (drop n terms) ≡ None
literal_of-drop_other terms n term within same other =
    at_drop_more literal_of terms n term within ∙ ap (λ t. literal_of (t ∷ drop (n + 1) terms)) (sym same)
    ∙ literal_of-other term (drop (n + 1) terms) other

-- a character
pub literal_of-drop_char : (terms : List Term) (n : ℕ) (term : Term) (c : ℕ) → n < length terms → term ≡ get_or terms n term
    → term ≡ Char c → literal_of (drop n terms) ≡ prepended (encode_utf8 c) (literal_of (drop (n + 1) terms))
unfolding literal_of
literal_of-drop_char terms n term c within same char =
    at_drop_more literal_of terms n term within ∙ ap (λ t. literal_of (t ∷ drop (n + 1) terms)) (sym same ∙ char)

-- the end
pub literal_of-drop_end : (terms : List Term) (n : ℕ) → length terms ≤ n → literal_of (drop n terms) ≡ Some []
unfolding literal_of
literal_of-drop_end terms n end = at_drop_all literal_of terms n end
