-- An element is read from its text exactly where it is written so.
use Rattle.std.proofs.Common.{◌≡◌, ◌∙◌, ◌++◌, ℕ, Bool, true, false, ◌==◌, ◌||◌, not, List, [], ◌∷◌, Option, Some, None, refl, sym, ap, subst, inl, inr, append_assoc, append-nil, if◌then◌else◌}
use Rattle.std.specs.Prelude.{◌↔◌, option_and_then}
use Rattle.std.specs.List.{AllZip, flat_map, list_all, list_any}
use Rattle.std.specs.Option.{option_map}
use Rattle.std.specs.Str.{byte}
use Rattle.std.proofs.lemmas.Bool.{and_from, and_parts, cases_Bool, eqb-true, not-true, or_parts}
use Rattle.up_pattern.specs.declared.terms.Range.{Range}
use Rattle.up_pattern.specs.declared.terms.Term.{Term}
use Rattle.up_pattern.specs.declared.terms.Term.TheVariants.{Many, One, Char, OneOf, NoneOf}
use Rattle.up_pattern.specs.declared.tokens.Token.{Token}
use Rattle.up_pattern.specs.Elements.{class_of, escapes, is_close, is_dash, is_sign, prepended, range_of, ranges_of, term_of, terms_behind, terms_of, tokens_behind, upper_end}
use Rattle.up_pattern.specs.Spelling.{SpellsClass, SpellsElement, SpellsRange, SpellsRanges, SpellsTerm, is_token, joined, spelled}
use Rattle.up_pattern.proofs.Lexing.{tokens_behind-cons}
use Rattle.up_pattern.proofs.LiteralNames.{prepended_rest, in_front_rest}
use Rattle.up_pattern.proofs.Ranges.{ranges_of-upper, ranges_of-single}

-- ---- tokens

-- a text behind a `\`, or as it is
abbrev behind : Bool → List ℕ → List ℕ
behind escaped text = if escaped then byte "\\" ∷ text else text

token_spelled : (escaped : Bool) (text : List ℕ) (tokens : List Token) → tokens_behind escaped text ≡ Some tokens
    → (list_all is_token tokens ≡ true) × (flat_map spelled tokens ≡ behind escaped text)
unfolding tokens_behind
token_spelled false [] tokens found = let none : [] ≡ tokens = cc found in rw (← none) (refl, refl)
token_spelled true [] tokens found = absurd (cc found)
token_spelled true (c ∷ rest) tokens found =
    let r = prepended_rest (record { character = c; is_escaped = true }) (tokens_behind false rest) tokens found in
    let more = token_spelled false rest r.0 r.1 in
    rw r.2 (more.0, ap (λ t. byte "\\" ∷ c ∷ t) more.1)
token_spelled false (c ∷ rest) tokens found = elim (cases_Bool (escapes false c)) [
  | inl opens ↦
      let more = token_spelled true rest tokens (rw opens at found) in
      (more.0, more.1 ∙ ap (λ b. b ∷ rest) (sym (eqb-true c (byte "\\") opens)))
  | inr plain ↦
      let r = prepended_rest (record { character = c; is_escaped = false }) (tokens_behind false rest) tokens (rw plain at found) in
      let more = token_spelled false rest r.0 r.1 in
      rw r.2 (and_from (not (c == byte "\\")) _ (ap not plain) more.0, ap (λ t. c ∷ t) more.1)
]

tokens_read : (tokens : List Token) → list_all is_token tokens ≡ true → tokens_behind false (flat_map spelled tokens) ≡ Some tokens
unfolding tokens_behind
tokens_read [] all = refl
tokens_read (token ∷ tokens) all =
    let both = and_parts (is_token token) (list_all is_token tokens) all in
    elim (cases_Bool token.is_escaped) [
      | inl escaped ↦
          let whole : flat_map spelled (token ∷ tokens) ≡ byte "\\" ∷ token.character ∷ flat_map spelled tokens = rw escaped refl in
          let same : Token = record { character = token.character; is_escaped = true } in
          let is : same ≡ token = ap (λ (b : Bool). record { character = token.character; is_escaped = b }) (sym escaped) in
          ap (tokens_behind false) whole ∙ (ap (prepended (same ∷ [])) (tokens_read tokens both.1) ∙ ap (λ t. Some (t ∷ tokens)) is)
      | inr plain ↦
          let whole : flat_map spelled (token ∷ tokens) ≡ token.character ∷ flat_map spelled tokens = rw plain refl in
          let same : Token = record { character = token.character; is_escaped = false } in
          let is : same ≡ token = ap (λ (b : Bool). record { character = token.character; is_escaped = b }) (sym plain) in
          let itself : not (token.character == byte "\\") ≡ true = ap (λ b. b || not (token.character == byte "\\")) (sym plain) ∙ both.0 in
          ap (tokens_behind false) whole
          ∙ (tokens_behind-cons false token.character (flat_map spelled tokens)
          ∙ (rw (not-true (token.character == byte "\\") itself) (ap (prepended (same ∷ [])) (tokens_read tokens both.1) ∙ ap (λ t. Some (t ∷ tokens)) is)))
    ]

-- ---- ranges

no_dash : (low high : Token) (range : Range) → range_of low high ≡ Some range → is_dash low ≡ false
no_dash low high range found = elim (cases_Bool (is_dash low)) [
  | inl dash ↦ cc (rw dash at found)
  | inr other ↦ other
]

ranges_spelled : (tokens : List Token) (ranges : List Range) → ranges_of tokens ≡ Some ranges → SpellsRanges ranges tokens
unfolding ranges_of
ranges_spelled [] ranges found = let none : [] ≡ ranges = cc found in rw (← none) ([], refl, tt)
ranges_spelled (low ∷ []) ranges found =
    let r = in_front_rest (range_of low low) (ranges_of []) ranges found in
    let more = ranges_spelled [] r.1 r.3 in
    rw r.4 ((low ∷ []) ∷ more.0, ap (λ t. low ∷ t) more.1, (inl (low, refl, r.2), more.2))
ranges_spelled (low ∷ dash ∷ []) ranges found =
    let r = in_front_rest (range_of low low) (ranges_of (dash ∷ [])) ranges found in
    let more = ranges_spelled (dash ∷ []) r.1 r.3 in
    rw r.4 ((low ∷ []) ∷ more.0, ap (λ t. low ∷ t) more.1, (inl (low, refl, r.2), more.2))
ranges_spelled (low ∷ dash ∷ high ∷ rest) ranges found = elim (cases_Bool (is_dash dash)) [
  | inl is ↦
      let r = in_front_rest (range_of low high) (ranges_of rest) ranges (rw is at found) in
      let more = ranges_spelled rest r.1 r.3 in
      rw r.4 ((low ∷ dash ∷ high ∷ []) ∷ more.0, ap (λ t. low ∷ dash ∷ high ∷ t) more.1, (inr (low, dash, high, refl, is, r.2), more.2))
  | inr other ↦
      let r = in_front_rest (range_of low low) (ranges_of (dash ∷ high ∷ rest)) ranges (rw other at found) in
      let more = ranges_spelled (dash ∷ high ∷ rest) r.1 r.3 in
      rw r.4 ((low ∷ []) ∷ more.0, ap (λ t. low ∷ t) more.1, (inl (low, refl, r.2), more.2))
]

no_upper_behind : (c : Token) (more : List Token) → is_dash c ≡ false → upper_end (c ∷ more) ≡ None
no_upper_behind c [] other = refl
no_upper_behind c (high ∷ rest) other = rw other refl

no_upper : (ranges : List Range) (pieces : List (List Token)) → AllZip SpellsRange ranges pieces → upper_end (joined pieces) ≡ None
no_upper [] [] all = refl
no_upper [] (piece ∷ pieces) all = absurd all
no_upper (range ∷ ranges) [] all = absurd all
no_upper (range ∷ ranges) (piece ∷ pieces) all = elim all.0 [
  | inl one ↦ rw one.1 (no_upper_behind one.0 (joined pieces) (no_dash one.0 one.0 range one.2))
  | inr two ↦ rw two.3 (no_upper_behind two.0 (two.1 ∷ two.2 ∷ joined pieces) (no_dash two.0 two.2 range two.5))
]

ranges_read : (ranges : List Range) (pieces : List (List Token)) → AllZip SpellsRange ranges pieces → ranges_of (joined pieces) ≡ Some ranges
unfolding ranges_of
ranges_read [] [] all = refl
ranges_read [] (piece ∷ pieces) all = absurd all
ranges_read (range ∷ ranges) [] all = absurd all
ranges_read (range ∷ ranges) (piece ∷ pieces) all =
    let more = ranges_read ranges pieces all.1 in
    elim all.0 [
      | inl one ↦ rw one.1 (ranges_of-single one.0 (joined pieces) (no_upper ranges pieces all.1) ∙ rw (one.2, more) refl)
      | inr two ↦
          let upper : upper_end (two.1 ∷ two.2 ∷ joined pieces) ≡ Some (two.2, joined pieces) = rw two.4 refl in
          rw two.3 (ranges_of-upper two.0 (two.1 ∷ two.2 ∷ joined pieces) two.2 (joined pieces) upper ∙ rw (two.5, more) refl)
    ]

-- ---- classes

one_of_spelled : (first : Token) (rest : List Token) (term : Term) (found : Option (List Range)) → ranges_of (first ∷ rest) ≡ found → is_sign (byte "^") first ≡ false
    → option_map OneOf found ≡ Some term → SpellsClass term (first ∷ rest)
one_of_spelled first rest term None is plain found = absurd (cc found)
one_of_spelled first rest term (Some ranges) is plain found =
    let same : OneOf ranges ≡ term = cc found in
    rw (← same) (first, rest, refl, plain, ranges_spelled (first ∷ rest) ranges is)

none_of_spelled : (caret first : Token) (rest : List Token) (term : Term) (found : Option (List Range)) → ranges_of (first ∷ rest) ≡ found → is_sign (byte "^") caret ≡ true
    → option_map NoneOf found ≡ Some term → SpellsClass term (caret ∷ first ∷ rest)
none_of_spelled caret first rest term None is sign found = absurd (cc found)
none_of_spelled caret first rest term (Some ranges) is sign found =
    let same : NoneOf ranges ≡ term = cc found in
    rw (← same) (caret, first, rest, refl, sign, ranges_spelled (first ∷ rest) ranges is)

class_spelled : (inside : List Token) (term : Term) → class_of inside ≡ Some term → SpellsClass term inside
unfolding class_of
class_spelled [] term found = absurd (cc found)
class_spelled (first ∷ []) term found = elim (cases_Bool (is_sign (byte "^") first)) [
  | inl caret ↦ absurd (cc (rw caret at found))
  | inr plain ↦ one_of_spelled first [] term (ranges_of (first ∷ [])) refl plain (rw plain at found)
]
class_spelled (first ∷ second ∷ rest) term found = elim (cases_Bool (is_sign (byte "^") first)) [
  | inl caret ↦ none_of_spelled first second rest term (ranges_of (second ∷ rest)) refl caret (rw caret at found)
  | inr plain ↦ one_of_spelled first (second ∷ rest) term (ranges_of (first ∷ second ∷ rest)) refl plain (rw plain at found)
]

class_read : (term : Term) (inside : List Token) → SpellsClass term inside → class_of inside ≡ Some term
unfolding class_of
class_read Many inside spells = absurd spells
class_read One inside spells = absurd spells
class_read (Char c) inside spells = absurd spells
class_read (OneOf ranges) inside spells =
    let read : ranges_of inside ≡ Some ranges = subst (λ t. ranges_of t ≡ Some ranges) spells.4.1 (ranges_read ranges spells.4.0 spells.4.2) in
    let begun : ranges_of (spells.0 ∷ spells.1) ≡ Some ranges = ap ranges_of (sym spells.2) ∙ read in
    rw (spells.2, spells.3, begun) refl
class_read (NoneOf ranges) inside spells =
    let read : ranges_of (spells.1 ∷ spells.2) ≡ Some ranges = subst (λ t. ranges_of t ≡ Some ranges) spells.5.1 (ranges_read ranges spells.5.0 spells.5.2) in
    rw (spells.3, spells.4, read) refl

-- ---- terms

-- what stands inside brackets up to the one that closes, and the terms behind it
record Closed (inside tokens : List Token) (terms : List Term) : Type 0 where
  before : List Token
  close : Token
  after : List (List Token)
  term : Term
  more : List Term
  whole : before ++ close ∷ joined after ≡ tokens
  open_before : list_any is_close before ≡ false
  closes : is_close close ≡ true
  class : class_of (inside ++ before) ≡ Some term
  all : terms ≡ term ∷ more
  spelled_after : AllZip SpellsTerm more after

-- the same of tokens outside brackets
abbrev Outside : List Token → List Term → Type 0
Outside tokens terms = (pieces : List (List Token)) × (joined pieces ≡ tokens) × AllZip SpellsTerm terms pieces

abbrev Told : Option (List Token) → List Token → List Term → Type 0
Told None tokens terms = Outside tokens terms
Told (Some inside) tokens terms = Closed inside tokens terms

terms_spelled : (inside : Option (List Token)) (tokens : List Token) (terms : List Term) → terms_behind inside tokens ≡ Some terms → Told inside tokens terms
unfolding terms_behind
terms_spelled None [] terms found = let none : [] ≡ terms = cc found in rw (← none) ([], refl, tt)
terms_spelled (Some inside) [] terms found = absurd (cc found)
terms_spelled None (token ∷ rest) terms found = elim (cases_Bool (is_sign (byte "[") token)) [
  | inl opens ↦
      let c = terms_spelled (Some []) rest terms (rw opens at found) in
      rw c.all (
        (token ∷ (c.before ++ c.close ∷ [])) ∷ c.after,
        ap (λ t. token ∷ t) (append_assoc c.before (c.close ∷ []) (joined c.after) ∙ c.whole),
        (inr (token, c.before, c.close, refl, opens, c.open_before, c.closes, class_spelled c.before c.term c.class), c.spelled_after),
      )
  | inr other ↦
      let r = prepended_rest (term_of token) (terms_behind None rest) terms (rw other at found) in
      let more = terms_spelled None rest r.0 r.1 in
      rw r.2 ((token ∷ []) ∷ more.0, ap (λ t. token ∷ t) more.1, (inl (token, refl, other, refl), more.2))
]
terms_spelled (Some inside) (token ∷ rest) terms found = elim (cases_Bool (is_close token)) [
  | inl closes ↦
      let r = in_front_rest (class_of inside) (terms_behind None rest) terms (rw closes at found) in
      let more = terms_spelled None rest r.1 r.3 in
      record {
        before = [];
        close = token;
        after = more.0;
        term = r.0;
        more = r.1;
        whole = ap (λ t. token ∷ t) more.1;
        open_before = refl;
        closes = closes;
        class = ap class_of (append-nil inside) ∙ r.2;
        all = r.4;
        spelled_after = more.2;
      }
  | inr inner ↦
      let c = terms_spelled (Some (inside ++ token ∷ [])) rest terms (rw inner at found) in
      record {
        before = token ∷ c.before;
        close = c.close;
        after = c.after;
        term = c.term;
        more = c.more;
        whole = ap (λ t. token ∷ t) c.whole;
        open_before = rw inner c.open_before;
        closes = c.closes;
        class = ap class_of (sym (append_assoc inside (token ∷ []) c.before)) ∙ c.class;
        all = c.all;
        spelled_after = c.spelled_after;
      }
]

read_closed : (inside before : List Token) (close : Token) (after : List Token) (term : Term) (more : List Term) → list_any is_close before ≡ false → is_close close ≡ true
    → class_of (inside ++ before) ≡ Some term → terms_behind None after ≡ Some more → terms_behind (Some inside) (before ++ close ∷ after) ≡ Some (term ∷ more)
unfolding terms_behind
read_closed inside [] close after term more none_closes closes class read =
    let class_is : class_of inside ≡ Some term = ap class_of (sym (append-nil inside)) ∙ class in
    rw (closes, class_is, read) refl
read_closed inside (token ∷ before) close after term more none_closes closes class read =
    let both = or_parts (is_close token) (list_any is_close before) none_closes in
    rw both.0 (read_closed (inside ++ token ∷ []) before close after term more both.1 closes (ap class_of (append_assoc inside (token ∷ []) before) ∙ class) read)

terms_read : (terms : List Term) (pieces : List (List Token)) → AllZip SpellsTerm terms pieces → terms_behind None (joined pieces) ≡ Some terms
unfolding terms_behind
terms_read [] [] all = refl
terms_read [] (piece ∷ pieces) all = absurd all
terms_read (term ∷ terms) [] all = absurd all
terms_read (term ∷ terms) (piece ∷ pieces) all =
    let more = terms_read terms pieces all.1 in
    elim all.0 [
      | inl one ↦ rw (one.1, one.2, more) (ap (λ t. Some (t ∷ terms)) one.3)
      | inr class ↦
          let read = read_closed [] class.1 class.2 (joined pieces) term terms class.5 class.6 (class_read term class.1 class.7) more in
          let whole : piece ++ joined pieces ≡ class.0 ∷ (class.1 ++ class.2 ∷ joined pieces) =
          ap (λ p. p ++ joined pieces) class.3 ∙ ap (λ t. class.0 ∷ t) (append_assoc class.1 (class.2 ∷ []) (joined pieces)) in
          ap (terms_behind None) whole ∙ rw class.4 read
    ]

-- ---- elements

element_from : (text : List ℕ) (terms : List Term) (tokens : Option (List Token)) → tokens_behind false text ≡ tokens → option_and_then (terms_behind None) tokens ≡ Some terms → SpellsElement terms text
element_from text terms None is found = absurd (cc found)
element_from text terms (Some tokens) is found =
    let lexed = token_spelled false text tokens is in
    let read = terms_spelled None tokens terms found in
    (read.0, ap (list_all is_token) read.1 ∙ lexed.0, ap (flat_map spelled) read.1 ∙ lexed.1, read.2)

element_spelled : (text : List ℕ) (terms : List Term) → terms_of text ≡ Some terms → SpellsElement terms text
unfolding terms_of
element_spelled text terms found = element_from text terms (tokens_behind false text) refl found

element_read : (text : List ℕ) (terms : List Term) → SpellsElement terms text → terms_of text ≡ Some terms
unfolding terms_of
element_read text terms spells =
    let lexed : tokens_behind false text ≡ Some (joined spells.0) = ap (tokens_behind false) (sym spells.2) ∙ tokens_read (joined spells.0) spells.1 in
    ap (option_and_then (terms_behind None)) lexed ∙ terms_read terms spells.0 spells.3

pub terms_are_spelled : (text : List ℕ) (terms : List Term) → (terms_of text ≡ Some terms) ↔ SpellsElement terms text
terms_are_spelled text terms = (element_spelled text terms, element_read text terms)

some_same : {X : Type 0} (x y : X) → Some x ≡ Some y → x ≡ y
some_same x y same = cc same

pub spelling_is_one : (text : List ℕ) (one two : List Term) → SpellsElement one text → SpellsElement two text → one ≡ two
spelling_is_one text one two first second = some_same one two (sym (element_read text one first) ∙ element_read text two second)
