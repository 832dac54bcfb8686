-- From an opening bracket to the one that closes it.
use Rattle.std.proofs.Common.{◌≡◌, ◌∙◌, ◌++◌, ℕ, suc, ◌+◌, ◌-◌, nat_lt, ◌<◌, ◌≤◌, true, false, List, [], ◌∷◌, length, take, drop, Some, None, refl, sym, ap, arith, inl, inr, if◌then◌else◌, append_assoc}
use Rattle.std.proofs.Math.Numerals.{one-add}
use Rattle.std.proofs.lemmas.Bool.{cases_Bool, cases_lt, le-ltb, lt-ltb}
use Rattle.std.proofs.lemmas.List.{append-nil, length-drop, take_all}
use Rattle.std.specs.Str.{byte}
use Rattle.std.specs.List.{position, position_or_len, before_first, after_first}
use Rattle.up_pattern.specs.declared.tokens.Token.{Token}
use Rattle.up_pattern.specs.Elements.{IsClosed, class_of, in_front, is_close, is_sign, prepended, term_of, terms_behind}

position-hit : (token : Token) (rest : List Token) → is_close token ≡ true → position_or_len is_close (token ∷ rest) ≡ 0
position-hit token rest hit = rw hit refl

position-miss : (token : Token) (rest : List Token) → is_close token ≡ false → position_or_len is_close (token ∷ rest) ≡ 1 + position_or_len is_close rest
position-miss token rest miss = rw miss refl

take-one_more : (token : Token) (rest : List Token) (n : ℕ) → take (1 + n) (token ∷ rest) ≡ token ∷ take n rest
take-one_more token rest n = rw one-add refl

drop-one_more : (token : Token) (rest : List Token) (n : ℕ) → drop (1 + n + 1) (token ∷ rest) ≡ drop (n + 1) rest
drop-one_more token rest n = let e : 1 + n + 1 ≡ suc (n + 1) = omega arith in rw e refl

-- no bracket closes
pub terms_behind-open : (inside tokens : List Token) → length tokens ≤ position_or_len is_close tokens → terms_behind (Some inside) tokens ≡ None
unfolding terms_behind
terms_behind-open inside [] open_to_end = refl
terms_behind-open inside (token ∷ rest) open_to_end = elim (cases_Bool (is_close token)) [
  | inl hit ↦ let at = position-hit token rest hit in absurd (omega arith)
  | inr miss ↦ let at = position-miss token rest miss in rw miss (terms_behind-open (inside ++ token ∷ []) rest (omega arith))
]

-- the first that closes does
pub terms_behind-closed : (inside tokens : List Token) → position_or_len is_close tokens < length tokens
    → terms_behind (Some inside) tokens ≡ in_front (class_of (inside ++ before_first is_close tokens)) (terms_behind None (after_first is_close tokens))
unfolding terms_behind
terms_behind-closed inside [] closed = absurd (omega arith)
terms_behind-closed inside (token ∷ rest) closed = elim (cases_Bool (is_close token)) [
  | inl hit ↦ rw hit (ap (λ before. in_front (class_of before) (terms_behind None rest)) (sym (append-nil inside)))
  | inr miss ↦
      let at = position-miss token rest miss in
      let n = position_or_len is_close rest in
      let front : (inside ++ token ∷ []) ++ take n rest ≡ inside ++ take (1 + n) (token ∷ rest) =
      append_assoc inside (token ∷ []) (take n rest) ∙ ap (λ more. inside ++ more) (sym (take-one_more token rest n)) in
      rw miss (
      terms_behind-closed (inside ++ token ∷ []) rest (omega arith)
      ∙ ap (λ before. in_front (class_of before) (terms_behind None (drop (n + 1) rest))) front
      ∙ ap (λ after. in_front (class_of (inside ++ take (1 + n) (token ∷ rest))) (terms_behind None after)) (sym (drop-one_more token rest n))
      )
]

position_cases : (at size k : ℕ) → (if nat_lt at size then Some at else None) ≡ Some k → (at ≡ k) × (at < size)
position_cases at size k found = elim (cases_lt at size) [
  | inl less ↦ (cc (rw (lt-ltb at size less) at found), less)
  | inr most ↦ cc (rw (le-ltb at size most) at found)
]

-- the place of the first bracket that closes cuts the tokens there
pub closed_at : (tokens : List Token) (k : ℕ) → position is_close tokens ≡ Some k → IsClosed tokens (take k tokens) (take (length tokens - (k + 1)) (drop (k + 1) tokens))
closed_at tokens k found =
    let parts = position_cases (position_or_len is_close tokens) (length tokens) k found in
    let size = length-drop (k + 1) tokens in
    record {
      closed = parts.1;
      front = rw parts.0 refl;
      rest = rw parts.0 (take_all (length tokens - (k + 1)) (drop (k + 1) tokens) (omega (arith, size)));
    }

pub open_from : (tokens : List Token) → position is_close tokens ≡ None → length tokens ≤ position_or_len is_close tokens
open_from tokens none = elim (cases_lt (position_or_len is_close tokens) (length tokens)) [
  | inl less ↦ cc (rw (lt-ltb (position_or_len is_close tokens) (length tokens) less) at none)
  | inr most ↦ most
]

-- a class in front, up to the bracket that closes it
pub terms_behind-class : (token : Token) (tokens before after : List Token) → is_sign (byte "[") token ≡ true → IsClosed tokens before after
    → terms_behind None (token ∷ tokens) ≡ in_front (class_of before) (terms_behind None after)
unfolding terms_behind
terms_behind-class token tokens before after opens closed =
    rw (opens, closed.front, closed.rest) (terms_behind-closed [] tokens closed.closed)

pub terms_behind-unclosed : (token : Token) (tokens : List Token) → is_sign (byte "[") token ≡ true → length tokens ≤ position_or_len is_close tokens
    → terms_behind None (token ∷ tokens) ≡ None
unfolding terms_behind
terms_behind-unclosed token tokens opens unclosed = rw opens (terms_behind-open [] tokens unclosed)

-- any other token in front
pub terms_behind-token : (token : Token) (tokens : List Token) → is_sign (byte "[") token ≡ false
    → terms_behind None (token ∷ tokens) ≡ prepended (term_of token ∷ []) (terms_behind None tokens)
unfolding terms_behind
terms_behind-token token tokens other = rw other refl

pub terms_behind-nil : terms_behind None [] ≡ Some []
unfolding terms_behind
terms_behind-nil = refl
