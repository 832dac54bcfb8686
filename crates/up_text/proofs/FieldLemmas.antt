-- Words and fields of output stand for their texts again, and no byte stands in them that parts them.
use Rattle.std.proofs.Common.{◌≡◌, ◌≢◌, ◌==◌, ◌/◌, ◌%◌, ℕ, ◌<◌, Bool, true, false, List, [], ◌∷◌, ◌++◌, length, Some, option_map, codes, bytes_eq, cond, refl, sym, ◌∙◌, ap, arith}
use Rattle.std.specs.Fmt.{digit_glyph}
use Rattle.std.specs.List.{flat_map, list_any}
use Rattle.std.proofs.lemmas.Bool.{ne_eqb, or_from}
use Rattle.std.proofs.lemmas.Bool.Decides.{nat_tests}
use Rattle.up_text.specs.Words.{coded, coded_byte, decoded, decoded_bytes, ends_word, escape, field, field_byte, is_coded, parts_fields}
use Rattle.up_text.proofs.CodeLemmas.{coded-small, decoded-byte, decoded-coded_dash, decoded-dash_word, decoded_bytes-dash, glyph-whole, pair-digits, plain-whole}
use Rattle.up_text.proofs.DecodeLemmas.{decoded-nil, decoded-pair}
use Rattle.up_text.proofs.WordLemmas.{decoded-other, is_dash, not-dash}

-- a byte that parts fields is small
parts-small : (b : ℕ) → parts_fields b ≡ true → b < 256
parts-small b is = grind (arith, nat_tests)

-- ---- a field stands for its text

field-byte : (b : ℕ) (bs word : List ℕ) (test : Bool) → parts_fields b ≡ test → decoded_bytes word ≡ Some bs → decoded_bytes (cond test (escape b) (coded_byte b) ++ word) ≡ Some (b ∷ bs)
field-byte b bs word true is rest =
    decoded-pair (digit_glyph true (b / 16)) (digit_glyph true (b % 16)) b word (pair-digits b (parts-small b is)) ∙ ap (option_map (λ text. b ∷ text)) rest
field-byte b bs word false is rest = decoded-byte b bs word (is_coded b) refl rest

pub decoded_bytes-field : (text : List ℕ) → decoded_bytes (flat_map field_byte text) ≡ Some text
decoded_bytes-field [] = decoded-nil
decoded_bytes-field (b ∷ bs) = field-byte b bs (flat_map field_byte bs) (parts_fields b) refl (decoded_bytes-field bs)

-- ---- which bytes stand in words and fields

-- a test that passes no byte of an escape
pub record PassesNoEscape (p : ℕ → Bool) : Type 0 where
  pub percent : p 37 ≡ false
  pub glyph : (d : ℕ) → d < 16 → p (digit_glyph true d) ≡ false

-- a space and LF stand in no escape
ends_no_escape : PassesNoEscape ends_word
ends_no_escape = record { percent = refl; glyph = glyph-whole }

free_escape : (p : ℕ → Bool) → PassesNoEscape p → (b : ℕ) → b < 256 → (word : List ℕ) → list_any p word ≡ false → list_any p (escape b ++ word) ≡ false
free_escape p passes b small word rest =
    let high : b / 16 < 16 = omega arith in
    let low : b % 16 < 16 = omega arith in
    or_from (p 37) _ passes.percent (or_from (p (digit_glyph true (b / 16))) _ (passes.glyph (b / 16) high) (or_from (p (digit_glyph true (b % 16))) _ (passes.glyph (b % 16) low) rest))

free_byte : (p : ℕ → Bool) → PassesNoEscape p → ((b : ℕ) → is_coded b ≡ false → p b ≡ false) → (b : ℕ) (word : List ℕ) (test : Bool) → is_coded b ≡ test → list_any p word ≡ false → list_any p (cond test (escape b) (b ∷ []) ++ word) ≡ false
free_byte p passes plain b word true is rest = free_escape p passes b (coded-small b is) word rest
free_byte p passes plain b word false is rest = or_from (p b) (list_any p word) (plain b is) rest

free_bytes : (p : ℕ → Bool) → PassesNoEscape p → ((b : ℕ) → is_coded b ≡ false → p b ≡ false) → (text : List ℕ) → list_any p (flat_map coded_byte text) ≡ false
free_bytes p passes plain [] = refl
free_bytes p passes plain (b ∷ bs) = free_byte p passes plain b (flat_map coded_byte bs) (is_coded b) refl (free_bytes p passes plain bs)

free_field_byte : (p : ℕ → Bool) → PassesNoEscape p → ((b : ℕ) → is_coded b ≡ false → parts_fields b ≡ false → p b ≡ false) → (b : ℕ) (word : List ℕ) (parts test : Bool) → parts_fields b ≡ parts → is_coded b ≡ test → list_any p word ≡ false → list_any p (cond parts (escape b) (cond test (escape b) (b ∷ [])) ++ word) ≡ false
free_field_byte p passes plain b word true test is coded rest = free_escape p passes b (parts-small b is) word rest
free_field_byte p passes plain b word false true is coded rest = free_escape p passes b (coded-small b coded) word rest
free_field_byte p passes plain b word false false is coded rest = or_from (p b) (list_any p word) (plain b coded is) rest

free_field_bytes : (p : ℕ → Bool) → PassesNoEscape p → ((b : ℕ) → is_coded b ≡ false → parts_fields b ≡ false → p b ≡ false) → (text : List ℕ) → list_any p (flat_map field_byte text) ≡ false
free_field_bytes p passes plain [] = refl
free_field_bytes p passes plain (b ∷ bs) =
    free_field_byte p passes plain b (flat_map field_byte bs) (parts_fields b) (is_coded b) refl refl (free_field_bytes p passes plain bs)

-- the word and the field of a text: `-`, `%2D`, or its bytes
pub coded_free : (p : ℕ → Bool) → PassesNoEscape p → p 45 ≡ false → ((b : ℕ) → is_coded b ≡ false → p b ≡ false) → (text : List ℕ) → list_any p (coded text) ≡ false
unfolding coded
coded_free p passes dash plain text = by_kind (length text == 0) (bytes_eq text (codes "-")) where
  by_kind : (none is : Bool) → list_any p (cond none (codes "-") (cond is (codes "%2D") (flat_map coded_byte text))) ≡ false
  by_kind true is = or_from (p 45) false dash refl
  by_kind false true = or_from (p 37) _ passes.percent (or_from (p 50) _ (passes.glyph 2 (omega arith)) (or_from (p 68) false (passes.glyph 13 (omega arith)) refl))
  by_kind false false = free_bytes p passes plain text

pub field_free : (p : ℕ → Bool) → PassesNoEscape p → p 45 ≡ false → ((b : ℕ) → is_coded b ≡ false → parts_fields b ≡ false → p b ≡ false) → (text : List ℕ) → list_any p (field text) ≡ false
unfolding field
field_free p passes dash plain text = by_kind (length text == 0) (bytes_eq text (codes "-")) where
  by_kind : (none is : Bool) → list_any p (cond none (codes "-") (cond is (codes "%2D") (flat_map field_byte text))) ≡ false
  by_kind true is = or_from (p 45) false dash refl
  by_kind false true = or_from (p 37) _ passes.percent (or_from (p 50) _ (passes.glyph 2 (omega arith)) (or_from (p 68) false (passes.glyph 13 (omega arith)) refl))
  by_kind false false = free_field_bytes p passes plain text

-- ---- a field stands for its text, as a word does

some_field : (b : ℕ) (word : List ℕ) (parts test : Bool) → 0 < length (cond parts (escape b) (cond test (escape b) (b ∷ [])) ++ word)
some_field b word true test = omega arith
some_field b word false true = omega arith
some_field b word false false = omega arith

whole_field : (text : List ℕ) → list_any ends_word (flat_map field_byte text) ≡ false
whole_field text = free_field_bytes ends_word ends_no_escape (λ b coded parts. (plain-whole b coded).0) text

some_same : {x y : List ℕ} → Some x ≡ Some y → x ≡ y
some_same is = cc

decoded-field_text : (text : List ℕ) → 0 < length text → text ≢ 45 ∷ [] → decoded (flat_map field_byte text) ≡ Some text
decoded-field_text [] some other = absurd (omega arith)
decoded-field_text (b ∷ bs) some other =
    let text = b ∷ bs in
    let word = flat_map field_byte text in
    let again = decoded_bytes-field text in
    let word_other : word ≢ 45 ∷ [] = λ is. other (some_same (sym again ∙ ap decoded_bytes is ∙ decoded_bytes-dash)) in
    decoded-other word (whole_field text) (some_field b (flat_map field_byte bs) (parts_fields b) (is_coded b)) word_other ∙ again

dash_or_field : (text : List ℕ) → 0 < length text → (test : Bool) → bytes_eq text (codes "-") ≡ test → decoded (cond test (codes "%2D") (flat_map field_byte text)) ≡ Some text
dash_or_field text some true is = decoded-coded_dash ∙ ap Some (sym (is_dash text is))
dash_or_field text some false is = decoded-field_text text some (not-dash text is)

pub decoded-field : (text : List ℕ) → decoded (field text) ≡ Some text
unfolding field
decoded-field [] = decoded-dash_word
decoded-field (b ∷ bs) =
    let text = b ∷ bs in
    let some : 0 < length text = omega arith in
    let full = ne_eqb (length text) 0 (λ none. omega (arith, none)) in
    ap (λ empty. decoded (cond empty (codes "-") (cond (bytes_eq text (codes "-")) (codes "%2D") (flat_map field_byte text)))) full
    ∙ dash_or_field text some (bytes_eq text (codes "-")) refl
