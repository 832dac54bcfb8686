-- Tokens, one character at a time.
use Rattle.std.proofs.Common.{◌≡◌, ◌∙◌, ℕ, ◌+◌, ◌<◌, ◌≤◌, Bool, true, false, List, [], ◌∷◌, length, get_or, drop, Some, None, refl, sym, ap, if◌then◌else◌}
use Rattle.std.proofs.lemmas.List.{at_drop_all, at_drop_more}
use Rattle.up_pattern.specs.Elements.{escapes, prepended, tokens_behind}

pub tokens_behind-cons : (escaped : Bool) (c : ℕ) (rest : List ℕ)
    → tokens_behind escaped (c ∷ rest) ≡ (if escapes escaped c then tokens_behind true rest else prepended ((record { character = c; is_escaped = escaped }) ∷ []) (tokens_behind false rest))
unfolding tokens_behind
tokens_behind-cons true c rest = refl
tokens_behind-cons false c rest = refl

tokens_behind-drop : (escaped : Bool) (cs : List ℕ) (n c : ℕ) → (n < length cs) × (c ≡ get_or cs n c)
    → tokens_behind escaped (drop n cs) ≡ (if escapes escaped c then tokens_behind true (drop (n + 1) cs) else prepended ((record { character = c; is_escaped = escaped }) ∷ []) (tokens_behind false (drop (n + 1) cs)))
tokens_behind-drop escaped cs n c at =
    at_drop_more (tokens_behind escaped) cs n c at.0 ∙ ap (λ d. tokens_behind escaped (d ∷ drop (n + 1) cs)) (sym at.1)
    ∙ tokens_behind-cons escaped c (drop (n + 1) cs)

-- a `\` that escapes the next character is no token
pub tokens_behind-escape : (escaped : Bool) (cs : List ℕ) (n c : ℕ) → (n < length cs) × (c ≡ get_or cs n c) → escapes escaped c ≡ true
    → tokens_behind escaped (drop n cs) ≡ tokens_behind true (drop (n + 1) cs)
tokens_behind-escape escaped cs n c at opens = tokens_behind-drop escaped cs n c at ∙ rw opens refl

-- any other character is one
pub tokens_behind-token : (escaped : Bool) (cs : List ℕ) (n c : ℕ) → (n < length cs) × (c ≡ get_or cs n c) → escapes escaped c ≡ false
    → tokens_behind escaped (drop n cs) ≡ prepended ((record { character = c; is_escaped = escaped }) ∷ []) (tokens_behind false (drop (n + 1) cs))
tokens_behind-token escaped cs n c at opens = tokens_behind-drop escaped cs n c at ∙ rw opens refl

-- at the end no `\` may be left
pub tokens_behind-end : (escaped : Bool) (cs : List ℕ) (n : ℕ) → length cs ≤ n → tokens_behind escaped (drop n cs) ≡ (if escaped then None else Some [])
unfolding tokens_behind
tokens_behind-end true cs n end = at_drop_all (tokens_behind true) cs n end
tokens_behind-end false cs n end = at_drop_all (tokens_behind false) cs n end
