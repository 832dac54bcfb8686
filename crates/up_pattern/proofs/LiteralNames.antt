-- A literal element of a pattern reads what may be an element of a path.
use Rattle.std.proofs.Common.{◌≡◌, ◌∙◌, ◌++◌, ◌<◌, ◌+◌, ℕ, Bool, true, false, ◌&&◌, not, List, [], ◌∷◌, length, map, filter, Option, Some, None, is_some, unwrap_or, codes, Ok, refl, sym, ap, arith, inl, inr, if◌then◌else◌}
use Rattle.std.specs.Prelude.{encode_utf8, encode_utf8_all, option_and_then, position}
use Rattle.std.specs.List.{list_all, position_from}
use Rattle.std.proofs.lemmas.Iterator.Adapters.{position_from-zero}
use Rattle.up_names.proofs.Cleaning.{staying-all, staying-names}
use Rattle.std.specs.Option.{option_map, option_map_or}
use Rattle.std.specs.Str.{is_utf8, all_scalars, byte, bytes_eq, chars}
use lib.Utf8.{scalar}
use Rattle.std.proofs.lemmas.Bool.{and_from, and_parts, cases_Bool, not-true, or_parts}
use Rattle.std.proofs.lemmas.List.{length-append}
use Rattle.std.proofs.lemmas.List.Folds.{list_all-append}
use Rattle.std.proofs.lemmas.Str.{IsUtf8-from_is_utf8, encodes-chars, len_utf8_bounds, length-encode, is_utf8-from_IsUtf8, scalars-chars}
use Rattle.up_names.specs.PathNames.{cleaned, is_allowed_byte, is_element, is_name, is_skipped, is_up}
use Rattle.up_pattern.specs.declared.terms.Term.{Term}
use Rattle.up_pattern.specs.declared.terms.Term.TheVariants.{Many, One, Char, OneOf, NoneOf}
use Rattle.up_pattern.specs.declared.tokens.Token.{Token}
use Rattle.up_pattern.specs.Elements.{class_of, escapes, in_front, is_close, is_sign, literal_of, prepended, some_ranges, term_of, terms_behind, terms_of, tokens_behind}
use Rattle.up_pattern.specs.declared.terms.Range.{Range}
use Rattle.up_pattern.proofs.Lexing.{tokens_behind-cons}
use Rattle.up_pattern.specs.Patterns.{element_of, elements_of, elements_unless, hides_step, is_bad, is_step, reads_name, terms_in}

-- a character whose bytes may stand in an element
abbrev is_fine : ℕ → Bool
is_fine c = scalar c && list_all is_allowed_byte (encode_utf8 c)

all_fine : (cs : List ℕ) → all_scalars cs ≡ true → list_all is_allowed_byte (encode_utf8_all cs) ≡ true → list_all is_fine cs ≡ true
all_fine [] valid allowed = refl
all_fine (c ∷ cs) valid allowed =
    let v = and_parts (scalar c) (all_scalars cs) valid in
    let a = and_parts (list_all is_allowed_byte (encode_utf8 c)) (list_all is_allowed_byte (encode_utf8_all cs))
    (sym (list_all-append is_allowed_byte (encode_utf8 c) (encode_utf8_all cs)) ∙ allowed) in
    and_from (is_fine c) (list_all is_fine cs) (and_from (scalar c) _ v.0 a.0) (all_fine cs v.1 a.1)

-- what stands behind x, where there is a list
pub prepended_rest : {X : Type 0} (x : X) (more : Option (List X)) (all : List X) → prepended (x ∷ []) more ≡ Some all
    → (rest : List X) × (more ≡ Some rest) × (all ≡ x ∷ rest)
prepended_rest x None all found = cc found
prepended_rest x (Some rest) all found = (rest, refl, cc found)

pub appended_rest : {X : Type 0} (xs : List X) (more : Option (List X)) (all : List X) → prepended xs more ≡ Some all
    → (rest : List X) × (more ≡ Some rest) × (all ≡ xs ++ rest)
appended_rest xs None all found = cc found
appended_rest xs (Some rest) all found = (rest, refl, cc found)

pub in_front_rest : {X : Type 0} (first : Option X) (more : Option (List X)) (all : List X) → in_front first more ≡ Some all
    → (x : X) × (rest : List X) × (first ≡ Some x) × (more ≡ Some rest) × (all ≡ x ∷ rest)
in_front_rest None more all found = cc found
in_front_rest (Some x) more all found = let r = prepended_rest x more all found in (x, r.0, refl, r.1, r.2)

-- the tokens of fine characters are fine
abbrev is_fine_token : Token → Bool
is_fine_token token = is_fine token.character

tokens_fine : (escaped : Bool) (cs : List ℕ) (tokens : List Token) → list_all is_fine cs ≡ true → tokens_behind escaped cs ≡ Some tokens
    → list_all is_fine_token tokens ≡ true
unfolding tokens_behind
tokens_fine false [] tokens fine found = let none : [] ≡ tokens = cc in rw (← none) refl
tokens_fine true [] tokens fine found = cc found
tokens_fine escaped (c ∷ cs) tokens fine found =
    let parts = and_parts (is_fine c) (list_all is_fine cs) fine in
    let read = sym (tokens_behind-cons escaped c cs) ∙ found in
    elim (cases_Bool (escapes escaped c)) [
      | inl opens ↦ tokens_fine true cs tokens parts.1 (rw opens at read)
      | inr plain ↦
          let r = prepended_rest (record { character = c; is_escaped = escaped }) (tokens_behind false cs) tokens (rw plain at read) in
          rw r.2 (and_from (is_fine c) _ parts.0 (tokens_fine false cs r.0 parts.1 r.1))
    ]

abbrev is_fine_term : Term → Bool
is_fine_term (Char c) = is_fine c
is_fine_term term = true

term_fine : (token : Token) → is_fine_token token ≡ true → is_fine_term (term_of token) ≡ true
term_fine token fine = elim (cases_Bool (is_sign (byte "*") token)) [
  | inl many ↦ rw many refl
  | inr other ↦ elim (cases_Bool (is_sign (byte "?") token)) [
    | inl one ↦ rw (other, one) refl
    | inr plain ↦ rw (other, plain) fine
  ]
]

one_of_fine : (ranges : Option (List Range)) (term : Term) → option_map OneOf ranges ≡ Some term → is_fine_term term ≡ true
one_of_fine None term found = cc found
one_of_fine (Some rs) term found = let is : OneOf rs ≡ term = cc in rw (← is) refl

none_of_fine : (ranges : Option (List Range)) (term : Term) → option_map NoneOf ranges ≡ Some term → is_fine_term term ≡ true
none_of_fine None term found = cc found
none_of_fine (Some rs) term found = let is : NoneOf rs ≡ term = cc in rw (← is) refl

class_fine : (inside : List Token) (term : Term) → class_of inside ≡ Some term → is_fine_term term ≡ true
unfolding class_of
class_fine [] term found = cc found
class_fine (first ∷ rest) term found = elim (cases_Bool (is_sign (byte "^") first)) [
  | inl except ↦ none_of_fine (some_ranges rest) term (rw except at found)
  | inr only ↦ one_of_fine (some_ranges (first ∷ rest)) term (rw only at found)
]

terms_fine : (inside : Option (List Token)) (tokens : List Token) (terms : List Term) → list_all is_fine_token tokens ≡ true
    → terms_behind inside tokens ≡ Some terms → list_all is_fine_term terms ≡ true
unfolding terms_behind
terms_fine None [] terms fine found = let none : [] ≡ terms = cc in rw (← none) refl
terms_fine (Some inside) [] terms fine found = cc found
terms_fine None (token ∷ rest) terms fine found =
    let parts = and_parts (is_fine_token token) (list_all is_fine_token rest) fine in
    elim (cases_Bool (is_sign (byte "[") token)) [
      | inl opens ↦ terms_fine (Some []) rest terms parts.1 (rw opens at found)
      | inr other ↦
          let r = prepended_rest (term_of token) (terms_behind None rest) terms (rw other at found) in
          rw r.2 (and_from (is_fine_term (term_of token)) _ (term_fine token parts.0) (terms_fine None rest r.0 parts.1 r.1))
    ]
terms_fine (Some inside) (token ∷ rest) terms fine found =
    let parts = and_parts (is_fine_token token) (list_all is_fine_token rest) fine in
    elim (cases_Bool (is_close token)) [
      | inl closes ↦
          let r = in_front_rest (class_of inside) (terms_behind None rest) terms (rw closes at found) in
          rw r.4 (and_from (is_fine_term r.0) _ (class_fine inside r.0 r.2) (terms_fine None rest r.1 parts.1 r.3))
      | inr other ↦ terms_fine (Some (inside ++ token ∷ [])) rest terms parts.1 (rw other at found)
    ]

-- the text of fine terms may stand in an element
pub record Spelled (text : List ℕ) : Type 0 where
  cs : List ℕ
  valid : all_scalars cs ≡ true
  bytes : encode_utf8_all cs ≡ text
  allowed : list_all is_allowed_byte text ≡ true

literal_fine : (terms : List Term) (text : List ℕ) → list_all is_fine_term terms ≡ true → literal_of terms ≡ Some text → Spelled text
unfolding literal_of
literal_fine [] text fine found =
    let none : [] ≡ text = cc in
    record { cs = []; valid = refl; bytes = none; allowed = rw (← none) refl }
literal_fine (Many ∷ rest) text fine found = cc found
literal_fine (One ∷ rest) text fine found = cc found
literal_fine (OneOf ranges ∷ rest) text fine found = cc found
literal_fine (NoneOf ranges ∷ rest) text fine found = cc found
literal_fine (Char c ∷ rest) text fine found =
    let parts = and_parts (is_fine c) (list_all is_fine_term rest) fine in
    let here = and_parts (scalar c) (list_all is_allowed_byte (encode_utf8 c)) parts.0 in
    let r = appended_rest (encode_utf8 c) (literal_of rest) text found in
    let more = literal_fine rest r.0 parts.1 r.1 in
    record {
      cs = c ∷ more.cs;
      valid = and_from (scalar c) _ here.0 more.valid;
      bytes = ap (λ bytes. encode_utf8 c ++ bytes) more.bytes ∙ sym r.2;
      allowed = rw r.2 (list_all-append is_allowed_byte (encode_utf8 c) r.0 ∙ and_from _ _ here.1 more.allowed);
    }

-- ---- it is not empty

abbrev HasFirst : {X : Type 0} → List X → Type 0
HasFirst {X} xs = (x : X) × (rest : List X) × (xs ≡ x ∷ rest)

tokens_some : (c : ℕ) (cs : List ℕ) (tokens : List Token) → tokens_behind false (c ∷ cs) ≡ Some tokens → HasFirst tokens
unfolding tokens_behind
tokens_some c cs tokens found =
    let read = sym (tokens_behind-cons false c cs) ∙ found in
    elim (cases_Bool (escapes false c)) [
      | inl opens ↦ escaped_some cs tokens (rw opens at read)
      | inr plain ↦ let r = prepended_rest (record { character = c; is_escaped = false }) (tokens_behind false cs) tokens (rw plain at read) in (record { character = c; is_escaped = false }, r.0, r.2)
    ]
  where
    escaped_some : (cs : List ℕ) (tokens : List Token) → tokens_behind true cs ≡ Some tokens → HasFirst tokens
    escaped_some [] tokens found = cc found
    escaped_some (d ∷ cs) tokens found =
        let r = prepended_rest (record { character = d; is_escaped = true }) (tokens_behind false cs) tokens (sym (tokens_behind-cons true d cs) ∙ found) in
        (record { character = d; is_escaped = true }, r.0, r.2)

class_some : (inside tokens : List Token) (terms : List Term) → terms_behind (Some inside) tokens ≡ Some terms → HasFirst terms
unfolding terms_behind
class_some inside [] terms found = cc found
class_some inside (token ∷ rest) terms found = elim (cases_Bool (is_close token)) [
  | inl closes ↦ let r = in_front_rest (class_of inside) (terms_behind None rest) terms (rw closes at found) in (r.0, r.1, r.4)
  | inr other ↦ class_some (inside ++ token ∷ []) rest terms (rw other at found)
]

terms_some : (token : Token) (rest : List Token) (terms : List Term) → terms_behind None (token ∷ rest) ≡ Some terms → HasFirst terms
unfolding terms_behind
terms_some token rest terms found = elim (cases_Bool (is_sign (byte "[") token)) [
  | inl opens ↦ class_some [] rest terms (rw opens at found)
  | inr other ↦ let r = prepended_rest (term_of token) (terms_behind None rest) terms (rw other at found) in (term_of token, r.0, r.2)
]

literal_some : (term : Term) (rest : List Term) (text : List ℕ) → literal_of (term ∷ rest) ≡ Some text → 0 < length text
unfolding literal_of
literal_some Many rest text found = cc found
literal_some One rest text found = cc found
literal_some (OneOf ranges) rest text found = cc found
literal_some (NoneOf ranges) rest text found = cc found
literal_some (Char c) rest text found =
    let r = appended_rest (encode_utf8 c) (literal_of rest) text found in
    let whole = ap length r.2 ∙ length-append (encode_utf8 c) r.0 in
    let first = length-encode c in
    let bounds = len_utf8_bounds c in
    omega arith

-- ---- what is read

pub record Read (piece : List ℕ) (terms : List Term) : Type 0 where
  text : is_element piece ≡ true
  tokens : List Token
  spelled : tokens_behind false (chars piece) ≡ Some tokens
  grouped : terms_behind None tokens ≡ Some terms
  plain : hides_step piece terms ≡ false

read_from : (piece : List ℕ) (terms : List Term) → element_of piece ≡ Some terms → Read piece terms
unfolding element_of terms_of
read_from piece terms found = elim (cases_Bool (is_element piece)) [
  | inl text ↦ from_tokens text (tokens_behind false (chars piece)) refl (rw text at found)
  | inr bad ↦ cc (rw bad at found)
]
  where
    from_terms : is_element piece ≡ true → (tokens : List Token) → tokens_behind false (chars piece) ≡ Some tokens → (read : Option (List Term)) → terms_behind None tokens ≡ read
        → option_and_then (λ terms. if hides_step piece terms then None else Some terms) read ≡ Some terms → Read piece terms
    from_terms text tokens spelled None grouped found = cc found
    from_terms text tokens spelled (Some read) grouped found = elim (cases_Bool (hides_step piece read)) [
      | inl hidden ↦ cc (rw hidden at found)
      | inr plain ↦
          let is : Some read ≡ Some terms = rw plain at found in
          let same : read ≡ terms = cc in
          record { text = text; tokens = tokens; spelled = spelled; grouped = grouped ∙ is; plain = rw (← same) plain }
    ]

    from_tokens : is_element piece ≡ true → (spelled : Option (List Token)) → tokens_behind false (chars piece) ≡ spelled
        → option_and_then (λ terms. if hides_step piece terms then None else Some terms) (option_and_then (terms_behind None) spelled) ≡ Some terms → Read piece terms
    from_tokens text None spelled found = cc found
    from_tokens text (Some tokens) spelled found = from_terms text tokens spelled (terms_behind None tokens) refl found

-- ---- names

bytes_eq-empty : (text : List ℕ) → 0 < length text → bytes_eq text [] ≡ false
bytes_eq-empty [] some = absurd (omega arith)
bytes_eq-empty (b ∷ text) some = refl

name_from : (text : List ℕ) → Spelled text → 0 < length text → is_step text ≡ false → is_name text ≡ true
unfolding is_element
name_from text spelled some plain =
    let utf8 = is_utf8-from_IsUtf8 text (spelled.cs, (spelled.valid, spelled.bytes)) in
    let steps = or_parts (bytes_eq text (codes ".")) (bytes_eq text (codes "..")) plain in
    rw (utf8, spelled.allowed, bytes_eq-empty text some, steps.0, steps.1) refl

-- the text is not empty where the piece is not
some_text : (piece : List ℕ) (tokens : List Token) (terms : List Term) (text cs : List ℕ) → bytes_eq piece [] ≡ false → encode_utf8_all cs ≡ piece
    → tokens_behind false cs ≡ Some tokens → terms_behind None tokens ≡ Some terms → literal_of terms ≡ Some text → 0 < length text
some_text piece tokens terms text [] some bytes spelled grouped found = let none : bytes_eq piece [] ≡ true = rw (← bytes) refl in cc (sym some ∙ none)
some_text piece tokens terms text (c ∷ cs) some bytes spelled grouped found =
    let t = tokens_some c cs tokens spelled in
    let u = terms_some t.0 t.1 terms (rw t.2 at grouped) in
    literal_some u.0 u.1 text (rw u.2 at found)

plain_text : (is_written reads : Bool) → (not is_written && reads) ≡ false → is_written ≡ false → reads ≡ false
plain_text true reads plain written = cc written
plain_text false reads plain written = plain

literal_name : (piece : List ℕ) (terms : List Term) (text : List ℕ) → Read piece terms → is_skipped piece ≡ false → is_up piece ≡ false
    → literal_of terms ≡ Some text → is_name text ≡ true
unfolding is_element
literal_name piece terms text read some down found =
    let element = and_parts (is_utf8 piece) (list_all is_allowed_byte piece) read.text in
    let utf8 = IsUtf8-from_is_utf8 piece element.0 in
    let bytes = encodes-chars piece utf8 in
    let fine_cs = all_fine (chars piece) (scalars-chars piece utf8) (ap (list_all is_allowed_byte) bytes ∙ element.1) in
    let fine_tokens = tokens_fine false (chars piece) read.tokens fine_cs read.spelled in
    let fine_terms = terms_fine None read.tokens terms fine_tokens read.grouped in
    let skipped = or_parts (bytes_eq piece []) (bytes_eq piece (codes ".")) some in
    let written : is_step piece ≡ false = rw (skipped.1, down) refl in
    let hidden : (not (is_step piece) && is_step text) ≡ false = ap (λ l. not (is_step piece) && option_map_or is_step l false) (sym found) ∙ read.plain in
    name_from text (literal_fine terms text fine_terms found)
    (some_text piece read.tokens terms text (chars piece) skipped.0 bytes read.spelled read.grouped found) (plain_text (is_step piece) (is_step text) hidden written)

piece_name : (piece : List ℕ) (terms : List Term) → element_of piece ≡ Some terms → is_skipped piece ≡ false → is_up piece ≡ false → reads_name terms ≡ true
piece_name piece terms found some down = go (literal_of terms) refl
  where
    go : (literal : Option (List ℕ)) → literal_of terms ≡ literal → option_map_or is_name literal true ≡ true
    go None same = refl
    go (Some text) same = literal_name piece terms text (read_from piece terms found) some down same

-- ---- all elements

-- no piece is bad where no first one is
good_pieces : (place : ℕ) (pieces : List (List ℕ)) → position_from is_bad place pieces ≡ None → list_all (λ piece. not (is_bad piece)) pieces ≡ true
good_pieces place [] none = refl
good_pieces place (piece ∷ pieces) none = elim (cases_Bool (is_bad piece)) [
  | inl bad ↦ cc (rw bad at none)
  | inr good ↦ rw good (good_pieces (place + 1) pieces (rw good at none))
]

kept_pieces : (test : List ℕ → Bool) (pieces : List (List ℕ)) → list_all test pieces ≡ true
    → list_all (λ piece. test piece && not (is_skipped piece)) (filter (λ piece. not (is_skipped piece)) pieces) ≡ true
kept_pieces test [] all = refl
kept_pieces test (piece ∷ pieces) all =
    let parts = and_parts (test piece) (list_all test pieces) all in
    elim (cases_Bool (is_skipped piece)) [
      | inl skipped ↦ rw skipped (kept_pieces test pieces parts.1)
      | inr kept ↦ rw (kept, parts.0, kept) (kept_pieces test pieces parts.1)
    ]

map_names : (pieces : List (List ℕ)) → list_all (λ piece. not (is_bad piece) && not (is_skipped piece)) pieces ≡ true
    → list_all (λ piece. not (is_up piece)) pieces ≡ true → list_all reads_name (map terms_in pieces) ≡ true
map_names [] good names = refl
map_names (piece ∷ pieces) good names =
    let g = and_parts (not (is_bad piece) && not (is_skipped piece)) (list_all (λ piece. not (is_bad piece) && not (is_skipped piece)) pieces) good in
    let here = and_parts (not (is_bad piece)) (not (is_skipped piece)) g.0 in
    let n = and_parts (not (is_up piece)) (list_all (λ piece. not (is_up piece)) pieces) names in
    and_from (reads_name (terms_in piece)) _ (named (element_of piece) refl here.0 (not-true (is_skipped piece) here.1) (not-true (is_up piece) n.0)) (map_names pieces g.1 n.1)
  where
    named : (read : Option (List Term)) → element_of piece ≡ read → not (not (is_some read)) ≡ true → is_skipped piece ≡ false → is_up piece ≡ false
        → reads_name (unwrap_or read []) ≡ true
    named None same good some down = cc good
    named (Some terms) same good some down = piece_name piece terms same some down

-- each literal element of a pattern reads a name
pub elements_of-names : (pieces : List (List ℕ)) (elements : List (List Term)) → elements_of pieces ≡ Ok elements → list_all reads_name elements ≡ true
unfolding elements_of cleaned
elements_of-names pieces elements read = go (position is_bad pieces) refl read
  where
    go : (found : Option ℕ) → position is_bad pieces ≡ found → elements_unless found pieces ≡ Ok elements → list_all reads_name elements ≡ true
    go (Some place) same read = cc read
    go None same read =
        let is : map terms_in (cleaned pieces) ≡ elements = cc in
        let good = good_pieces 0 pieces (sym (position_from-zero is_bad pieces) ∙ same) in
        let kept = kept_pieces (λ piece. not (is_bad piece)) pieces good in
        let clean = filter (λ piece. not (is_skipped piece)) pieces in
        rw (← is) (map_names (cleaned pieces) (staying-all is_up (λ piece. not (is_bad piece) && not (is_skipped piece)) clean kept) (staying-names is_up clean))
