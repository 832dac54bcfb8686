-- The word of some bytes is read as these bytes.
use Rattle.std.proofs.Common.{◌≡◌, ℕ, zero, suc, ◌/◌, ◌%◌, ◌<◌, Bool, true, false, ◌&&◌, ◌==◌, List, [], ◌∷◌, codes, length, Some, Ok, slice_index, refl, ap, ◌∙◌, arith, inl, inr}
use Rattle.std.proofs.lemmas.Bool.{and_parts, cases_lt}
use Rattle.std.specs.List.{list_all}
use Rattle.std.specs.Str.{bytes_eq}
use Rattle.hex.specs.Hex.{IsBytes, decode_of, encode_upper, encode_with, upper_digits}
use Rattle.hex.proofs.HexLemmas.{IsDigits-upper_digits, decode_of-even, decode_pairs-encode_with, length-encode_with}
use Rattle.up_refs.specs.References.{is_upper_digit}
use Rattle.up_helper.specs.HelperWords.{bytes_in, hex_word}

-- a test of the first n numbers, which computes
abbrev all_below : (ℕ → Bool) → ℕ → Bool
all_below test zero = true
all_below test (suc n) = test n && all_below test n

all_below-at : (test : ℕ → Bool) (n k : ℕ) → all_below test n ≡ true → k < n → test k ≡ true
all_below-at test zero k all below = absurd (omega arith)
all_below-at test (suc n) k all below =
    let parts = and_parts (test n) (all_below test n) all in
    elim (cases_lt k n) [
      | inl less ↦ all_below-at test n k parts.1 less
      | inr least ↦ let last : k ≡ n = omega arith in rw last parts.0
    ]

-- each of the sixteen in the table is an upper-case digit
digit_at : (v : ℕ) → v < 16 → is_upper_digit (slice_index upper_digits v) ≡ true
digit_at v small = all_below-at (λ v. is_upper_digit (slice_index upper_digits v)) 16 v refl small

-- bytes are written in upper-case digits
digits_of : (bytes : List ℕ) → IsBytes bytes → list_all is_upper_digit (encode_upper bytes) ≡ true
unfolding encode_with
digits_of [] fits = refl
digits_of (b ∷ rest) fits =
    let fit : b < 256 = fits 0 in
    rw (digit_at (b / 16) (omega arith), digit_at (b % 16) (omega arith), digits_of rest (λ k. fits (suc k))) refl

and_false : (test : Bool) → (test && false) ≡ false
and_false true = refl
and_false false = refl

-- two digits and more are no hyphen
no_hyphen : (b : ℕ) (rest : List ℕ) → bytes_eq (encode_upper (b ∷ rest)) (codes "-") ≡ false
unfolding encode_with
no_hyphen b rest = and_false _

-- they are decoded to the bytes
decoded : (bytes : List ℕ) → IsBytes bytes → decode_of (encode_upper bytes) ≡ Ok bytes
decoded bytes fits =
    let size = length-encode_with upper_digits bytes in
    let even : length (encode_upper bytes) % 2 ≡ 0 = omega arith in
    decode_of-even (encode_upper bytes) even ∙ decode_pairs-encode_with upper_digits IsDigits-upper_digits 0 bytes fits

-- digits in pairs are read as what they are decoded to
read_as : (word bytes : List ℕ) → bytes_eq word (codes "-") ≡ false → (length word == 0) ≡ false → list_all is_upper_digit word ≡ true → decode_of word ≡ Ok bytes → bytes_in word ≡ Some bytes
unfolding bytes_in
read_as word bytes other some digits decoded = rw (other, some, digits, decoded) refl

not_empty : (b : ℕ) (rest : List ℕ) → (length (b ∷ rest) == 0) ≡ false
not_empty b rest = grind arith

some_digit : (b : ℕ) (rest : List ℕ) → (length (encode_upper (b ∷ rest)) == 0) ≡ false
some_digit b rest =
    let size = length-encode_with upper_digits (b ∷ rest) in
    grind arith

-- a word of digits
word_of_some : (b : ℕ) (rest : List ℕ) → hex_word (b ∷ rest) ≡ encode_upper (b ∷ rest)
word_of_some b rest = rw (not_empty b rest) refl

-- the word of some bytes is read as these
pub word_is_read : (bytes : List ℕ) → IsBytes bytes → bytes_in (hex_word bytes) ≡ Some bytes
unfolding bytes_in
word_is_read [] fits = refl
word_is_read (b ∷ rest) fits =
    ap bytes_in (word_of_some b rest)
    ∙ read_as (encode_upper (b ∷ rest)) (b ∷ rest) (no_hyphen b rest) (some_digit b rest) (digits_of (b ∷ rest) fits) (decoded (b ∷ rest) fits)
