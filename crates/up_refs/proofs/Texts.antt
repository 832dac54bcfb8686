-- The text of a reference and the reference of a text.
use Rattle.std.proofs.Common.{◌≡◌, ℕ, zero, suc, ◌+◌, ◌*◌, ◌/◌, ◌%◌, ◌<◌, Bool, true, false, ◌&&◌, ◌||◌, ◌==◌, nat_lt, if◌then◌else◌, not, List, [], ◌∷◌, length, Option, Some, None, is_some, Result, Ok, slice_index, refl, sym, ap, ◌∙◌, arith, inl, inr}
use Rattle.std.proofs.lemmas.Bool.{and_parts, cases_lt, eqb-true, ltb-true}
use Rattle.std.specs.List.{list_all}
use Rattle.std.specs.Result.{result_ok}
use Rattle.hex.specs.Hex.{IsBytes, decode_of, decode_pairs, encode_upper, encode_with, hex_digit_value, pair_value, upper_digits}
use Rattle.hex.proofs.HexLemmas.{IsDigits-upper_digits, decode_of-even, decode_pairs-encode_with, length-encode_with}
use Rattle.hex.specs.declared.error.FromHexError.{FromHexError}
use Rattle.up_refs.specs.References.{is_reference_text, is_upper_digit, reference_in, text_of}

-- a test of the first n numbers, which computes
abbrev all_below : (ℕ → Bool) → ℕ → Bool
all_below test zero = true
all_below test (suc n) = test n && all_below test n

all_below-at : (test : ℕ → Bool) (n k : ℕ) → all_below test n ≡ true → k < n → test k ≡ true
all_below-at test zero k all below = absurd (omega arith)
all_below-at test (suc n) k all below =
    let parts = and_parts (test n) (all_below test n) all in
    elim (cases_lt k n) [
      | inl less ↦ all_below-at test n k parts.1 less
      | inr least ↦ let last : k ≡ n = omega arith in rw last parts.0
    ]

-- a value below 16 that has the digit b in the table
abbrev is_value_of : ℕ → Option ℕ → Bool
is_value_of b None = false
is_value_of b (Some v) = nat_lt v 16 && slice_index upper_digits v == b

-- an upper-case digit has a value, and stands in the table there
abbrev is_again : ℕ → Bool
is_again b = not (is_upper_digit b) || is_value_of b (hex_digit_value b)

upper_digit-small : (b : ℕ) → is_upper_digit b ≡ true → b < 71
upper_digit-small b digit = grind arith

is_again-digit : (digit value : Bool) → digit ≡ true → (not digit || value) ≡ true → value ≡ true
is_again-digit true value digit again = again
is_again-digit false value digit again = cc

-- what stands in the table for a digit
pub record Again (b v : ℕ) : Type 0 where
  pub value : hex_digit_value b ≡ Some v
  pub small : v < 16
  pub digit : slice_index upper_digits v ≡ b

from_value : (b : ℕ) (found : Option ℕ) → is_value_of b found ≡ true → hex_digit_value b ≡ found → (v : ℕ) × Again b v
from_value b None again value = cc
from_value b (Some v) again value =
    let parts = and_parts (nat_lt v 16) (slice_index upper_digits v == b) again in
    (v, record { value = value; small = ltb-true v 16 parts.0; digit = eqb-true (slice_index upper_digits v) b parts.1 })

-- an upper-case digit is written as itself
digit_again : (b : ℕ) → is_upper_digit b ≡ true → (v : ℕ) × Again b v
digit_again b digit =
    let again = all_below-at is_again 71 b refl (upper_digit-small b digit) in
    from_value b (hex_digit_value b) (is_again-digit (is_upper_digit b) _ digit again) refl

-- each of the sixteen in the table is an upper-case digit
digit_at : (v : ℕ) → v < 16 → is_upper_digit (slice_index upper_digits v) ≡ true
digit_at v small = all_below-at (λ v. is_upper_digit (slice_index upper_digits v)) 16 v refl small

-- the byte of two upper-case digits is written as they are
pair_again : (a b x y i : ℕ) → Again a x → Again b y
    → (pair_value a b i ≡ Ok (x * 16 + y)) × (slice_index upper_digits ((x * 16 + y) / 16) ≡ a) × (slice_index upper_digits ((x * 16 + y) % 16) ≡ b)
pair_again a b x y i first second =
    let high : (x * 16 + y) / 16 ≡ x = let s = second.small in omega arith in
    let low : (x * 16 + y) % 16 ≡ y = let s = second.small in omega arith in
    (rw (first.value, second.value) refl, rw high first.digit, rw low second.digit)

-- upper-case digits in pairs are read, and what is read is written as they are
pairs_again : (i : ℕ) (s : List ℕ) → length s % 2 ≡ 0 → list_all is_upper_digit s ≡ true
    → (bytes : List ℕ) × (decode_pairs i s ≡ Ok bytes) × (encode_upper bytes ≡ s)
unfolding decode_pairs encode_with
pairs_again i [] even digits = ([], refl, refl)
pairs_again i (a ∷ []) even digits = absurd (omega arith)
pairs_again i (a ∷ b ∷ rest) even digits =
    let at_a = and_parts (is_upper_digit a) _ digits in
    let at_b = and_parts (is_upper_digit b) _ at_a.1 in
    let first = digit_again a at_a.0 in
    let second = digit_again b at_b.0 in
    let pair = pair_again a b first.0 second.0 i first.1 second.1 in
    let ih = pairs_again (i + 2) rest (omega arith) at_b.1 in
    ((first.0 * 16 + second.0) ∷ ih.0, rw (pair.0, ih.1) refl, rw (pair.1, pair.2, ih.2) refl)

-- bytes are written in upper-case digits
digits_of : (bytes : List ℕ) → IsBytes bytes → list_all is_upper_digit (encode_upper bytes) ≡ true
unfolding encode_with
digits_of [] fits = refl
digits_of (b ∷ rest) fits =
    let fit : b < 256 = fits 0 in
    rw (digit_at (b / 16) (omega arith), digit_at (b % 16) (omega arith), digits_of rest (λ k. fits (suc k))) refl

from_guard : (test : Bool) (found : Option (List ℕ)) (x : List ℕ) → (if test then found else None) ≡ Some x → (test ≡ true) × (found ≡ Some x)
from_guard true found x same = (refl, same)
from_guard false found x same = cc

-- what 64 upper-case digits are read as
pub record ReadAs (text reference : List ℕ) : Type 0 where
  pub decoded : decode_of text ≡ Ok reference
  pub again : text_of reference ≡ text

read_as : (text : List ℕ) → is_reference_text text ≡ true → (reference : List ℕ) × ReadAs text reference
read_as text digits =
    let parts = and_parts (length text == 64) (list_all is_upper_digit text) digits in
    let size : length text ≡ 64 = eqb-true (length text) 64 parts.0 in
    let even : length text % 2 ≡ 0 = omega arith in
    let again = pairs_again 0 text even parts.1 in
    (again.0, record { decoded = decode_of-even text even ∙ again.1; again = again.2 })

-- the text that a reference is read from is its text
pub text_of-reference_in : (text reference : List ℕ) → reference_in text ≡ Some reference → text_of reference ≡ text
unfolding reference_in
text_of-reference_in text reference found =
    let guarded = from_guard (is_reference_text text) (result_ok (decode_of text)) reference found in
    let read = read_as text guarded.0 in
    let same : Some read.0 ≡ Some reference = sym (ap result_ok read.1.decoded) ∙ guarded.1 in
    let bytes : read.0 ≡ reference = cc in
    rw (← bytes) read.1.again

is_some-guard : (test : Bool) (found : Option (List ℕ)) → (test ≡ true → is_some found ≡ true) → is_some (if test then found else None) ≡ test
is_some-guard true found some = some refl
is_some-guard false found some = refl

-- a text is a reference's exactly where it is 64 upper-case digits
pub is_some-reference_in : (text : List ℕ) → is_some (reference_in text) ≡ is_reference_text text
unfolding reference_in
is_some-reference_in text =
    is_some-guard (is_reference_text text) (result_ok (decode_of text)) (λ digits. ap (λ (r : Result (List ℕ) FromHexError). is_some (result_ok r)) (read_as text digits).1.decoded)

-- a reference is read from its text
pub reference_in-text_of : (reference : List ℕ) → length reference ≡ 32 → IsBytes reference
    → reference_in (text_of reference) ≡ Some reference
unfolding reference_in
reference_in-text_of reference len fits =
    let size = length-encode_with upper_digits reference in
    let sized : length (text_of reference) ≡ 64 = omega arith in
    rw (sized, digits_of reference fits, decode_pairs-encode_with upper_digits IsDigits-upper_digits 0 reference fits) refl
