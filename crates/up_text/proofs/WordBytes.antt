-- Which bytes stand in the words of output.
use Rattle.std.proofs.Common.{◌≡◌, ◌≢◌, ◌∙◌, ◌==◌, ◌^◌, ◌||◌, nat_lt, ℕ, zero, suc, ◌<◌, ◌≤◌, ℤ, pos, negsuc, Bool, true, false, List, [], ◌∷◌, ◌++◌, length, Some, is_some, slice_index, decimal, FitsSigned, w64, refl, sym, ap, arith}
use Rattle.std.specs.Fmt.{digit_glyph, signed_decimal}
use Rattle.std.specs.List.{flat_map, join_by, list_all, list_any, AllByRecursion}
use Rattle.std.specs.Str.Parse.{AllDigits}
use Rattle.std.proofs.lemmas.Bool.{and_parts, or_parts, or_from, eqb-true, leb-false, ltb-true, ne_eqb, true≢false}
use Rattle.std.proofs.lemmas.Bool.Decides.{nat_tests}
use Rattle.std.proofs.lemmas.Fmt.{decimal_nonempty, digits_decimal}
use Rattle.std.proofs.lemmas.Str.Parse.{digit_at}
use Rattle.up_bytes.specs.Spelling.{IsByte}
use Rattle.up_refs.specs.References.{is_reference_text, is_upper_digit, reference_in, text_of}
use Rattle.up_refs.proofs.Texts.{is_some-reference_in, reference_in-text_of}
use Rattle.up_text.specs.Laws.{is_blank, IsWord}
use Rattle.up_text.specs.Lines.{is_space}
use Rattle.up_text.specs.Words.{coded, decoded, field, is_coded, is_percent}
use Rattle.up_text.proofs.CodeLemmas.{decoded-coded}
use Rattle.up_text.proofs.FieldLemmas.{coded_free, decoded-field, field_free, PassesNoEscape}
use Rattle.up_text.proofs.IntLemmas.{fits-from}
use Rattle.up_text.proofs.NumberLemmas.{own}
use Rattle.up_text.proofs.WordLemmas.{decoded-empty}

-- ---- lists of bytes that a test does not pass

pub free_append : (p : ℕ → Bool) (xs ys : List ℕ) → list_any p xs ≡ false → list_any p ys ≡ false → list_any p (xs ++ ys) ≡ false
free_append p [] ys none others = others
free_append p (x ∷ xs) ys none others =
    let parts = or_parts (p x) (list_any p xs) none in
    or_from (p x) (list_any p (xs ++ ys)) parts.0 (free_append p xs ys parts.1 others)

behind_free : {X : Type 0} (p : ℕ → Bool) (c : ℕ) → p c ≡ false → (f : X → List ℕ) → (xs : List X) → AllByRecursion (λ x. list_any p (f x) ≡ false) xs → list_any p (flat_map (λ y. (c ∷ []) ++ f y) xs) ≡ false
behind_free p c mark f [] all = refl
behind_free p c mark f (x ∷ xs) all =
    or_from (p c) (list_any p (f x ++ flat_map (λ y. (c ∷ []) ++ f y) xs)) mark (free_append p (f x) _ all.0 (behind_free p c mark f xs all.1))

pub join_free : {X : Type 0} (p : ℕ → Bool) (c : ℕ) → p c ≡ false → (f : X → List ℕ) → (xs : List X) → AllByRecursion (λ x. list_any p (f x) ≡ false) xs → list_any p (join_by f (c ∷ []) xs) ≡ false
join_free p c mark f [] all = refl
join_free p c mark f (x ∷ xs) all = free_append p (f x) _ all.0 (behind_free p c mark f xs all.1)

-- ---- digits

digits_free : (p : ℕ → Bool) → ((b : ℕ) → 48 ≤ b → b ≤ 57 → p b ≡ false) → (digits : List ℕ) → AllDigits 10 digits → list_any p digits ≡ false
digits_free p free [] all = refl
digits_free p free (c ∷ cs) all =
    let range = digit_at (c ∷ cs) 0 all (omega arith) in
    or_from (p c) (list_any p cs) (free c (omega (arith, range)) (omega (arith, range))) (digits_free p free cs all.1)

pub decimal_free : (p : ℕ → Bool) → ((b : ℕ) → 48 ≤ b → b ≤ 57 → p b ≡ false) → (n : ℕ) → n < 2 ^ 64 → list_any p (decimal n) ≡ false
decimal_free p free n small = digits_free p free (decimal n) (digits_decimal own n small)

upper_free : (p : ℕ → Bool) → ((b : ℕ) → is_upper_digit b ≡ true → p b ≡ false) → (digits : List ℕ) → list_all is_upper_digit digits ≡ true → list_any p digits ≡ false
upper_free p free [] all = refl
upper_free p free (c ∷ cs) all =
    let parts = and_parts (is_upper_digit c) (list_all is_upper_digit cs) all in
    or_from (p c) (list_any p cs) (free c parts.0) (upper_free p free cs parts.1)

-- ---- references

bytes_at : (bytes : List ℕ) → AllByRecursion IsByte bytes → (i : ℕ) → slice_index bytes i < 256
bytes_at [] all i = omega arith
bytes_at (b ∷ bs) all zero = all.0
bytes_at (b ∷ bs) all (suc i) = bytes_at bs all.1 i

pub reference_again : (reference : List ℕ) → length reference ≡ 32 → AllByRecursion IsByte reference → reference_in (text_of reference) ≡ Some reference
reference_again reference size bytes = reference_in-text_of reference size (bytes_at reference bytes)

reference_text : (reference : List ℕ) → length reference ≡ 32 → AllByRecursion IsByte reference → is_reference_text (text_of reference) ≡ true
reference_text reference size bytes = sym (is_some-reference_in (text_of reference)) ∙ ap is_some (reference_again reference size bytes)

pub reference_free : (p : ℕ → Bool) → ((b : ℕ) → is_upper_digit b ≡ true → p b ≡ false) → (reference : List ℕ) → length reference ≡ 32 → AllByRecursion IsByte reference → list_any p (text_of reference) ≡ false
reference_free p free reference size bytes =
    let parts = and_parts (length (text_of reference) == 64) (list_all is_upper_digit (text_of reference)) (reference_text reference size bytes) in
    upper_free p free (text_of reference) parts.1

pub reference_size : (reference : List ℕ) → length reference ≡ 32 → AllByRecursion IsByte reference → length (text_of reference) ≡ 64
reference_size reference size bytes =
    let parts = and_parts (length (text_of reference) == 64) (list_all is_upper_digit (text_of reference)) (reference_text reference size bytes) in
    eqb-true (length (text_of reference)) 64 parts.0

-- ---- no byte up to 0x20

digit_visible : (b : ℕ) → 48 ≤ b → b ≤ 57 → is_blank b ≡ false
digit_visible b low high = grind (arith, nat_tests)

upper_visible : (b : ℕ) → is_upper_digit b ≡ true → is_blank b ≡ false
upper_visible b is = grind (arith, nat_tests)

glyph_visible : (d : ℕ) → d < 16 → is_blank (digit_glyph true d) ≡ false
glyph_visible d small = grind (arith, nat_tests)

visible_escape : PassesNoEscape is_blank
visible_escape = record { percent = refl; glyph = glyph_visible }

plain_visible : (b : ℕ) → is_coded b ≡ false → is_blank b ≡ false
plain_visible b plain =
    let both = or_parts (is_blank b || is_percent b) (b == 127) plain in
    let first = or_parts (is_blank b) (is_percent b) both.0 in
    first.0

pub field_visible : (text : List ℕ) → list_any is_blank (field text) ≡ false
field_visible text = field_free is_blank visible_escape refl (λ b plain parts. plain_visible b plain) text

pub decimal_visible : (n : ℕ) → n < 2 ^ 64 → list_any is_blank (decimal n) ≡ false
decimal_visible n small = decimal_free is_blank digit_visible n small

pub reference_visible : (reference : List ℕ) → length reference ≡ 32 → AllByRecursion IsByte reference → list_any is_blank (text_of reference) ≡ false
reference_visible reference size bytes = reference_free is_blank upper_visible reference size bytes

-- ---- words

pub some_word : (word : List ℕ) → word ≢ [] → 0 < length word
some_word [] other = absurd (other refl)
some_word (b ∷ bs) other = omega arith

-- what stands for a text is not empty
pub some_decoded : (word text : List ℕ) → decoded word ≡ Some text → 0 < length word
some_decoded word text is =
    some_word word (λ none. absurd (true≢false (ap is_some (sym is ∙ ap decoded none ∙ decoded-empty [] refl))))

pub literal_word : (word : List ℕ) → nat_lt 0 (length word) ≡ true → list_any is_blank word ≡ false → IsWord word
literal_word word some visible = (ltb-true 0 (length word) some, visible)

pub coded_word : (text : List ℕ) → IsWord (coded text)
coded_word text = (some_decoded (coded text) text (decoded-coded text), coded_free is_blank visible_escape refl plain_visible text)

pub field_word : (text : List ℕ) → IsWord (field text)
field_word text = (some_decoded (field text) text (decoded-field text), field_visible text)

pub decimal_word : (n : ℕ) → n < 2 ^ 64 → IsWord (decimal n)
decimal_word n small = (decimal_nonempty n small, decimal_visible n small)

signed_word_by : (z : ℤ) → FitsSigned w64 z → IsWord (signed_decimal z)
signed_word_by (pos n) fits = let small = ltb-true n (2 ^ 63) (fits-from (pos n) fits) in decimal_word n (omega (arith, small))
signed_word_by (negsuc n) fits =
    let small = ltb-true n (2 ^ 63) (fits-from (negsuc n) fits) in
    (omega arith, or_from (is_blank 45) _ refl (decimal_visible (suc n) (omega (arith, small))))

pub int_word : (z : ℤ) → FitsSigned w64 z → IsWord (signed_decimal z)
int_word z fits = signed_word_by z fits

pub reference_word : (reference : List ℕ) → length reference ≡ 32 → AllByRecursion IsByte reference → IsWord (text_of reference)
reference_word reference size bytes = (let digits = reference_size reference size bytes in omega (arith, digits), reference_visible reference size bytes)

-- a byte above 0x20 is no space
no_space : (word : List ℕ) → list_any is_blank word ≡ false → list_any is_space word ≡ false
no_space [] visible = refl
no_space (b ∷ bs) visible =
    let parts = or_parts (is_blank b) (list_any is_blank bs) visible in
    let high = leb-false b 32 parts.0 in
    or_from (is_space b) (list_any is_space bs) (ne_eqb b 32 (λ is. omega (arith, is, high))) (no_space bs parts.1)

pub word_whole : (word : List ℕ) → IsWord word → list_any is_space word ≡ false
word_whole word is = no_space word is.1

-- a text whose front is not empty is not
pub some_front : (front back : List ℕ) → 0 < length front → 0 < length (front ++ back)
some_front [] back some = absurd (omega (arith, some))
some_front (b ∷ bs) back some = omega arith
