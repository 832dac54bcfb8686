-- A word is a signed number exactly where it is its decimal digits, with `-` before them where it is negative.
use Rattle.std.proofs.Common.{◌≡◌, ◌≢◌, ◌&&◌, ◌^◌, ℕ, zero, suc, ◌<◌, ◌≤◌, ◌-◌, zero-add, ℤ, pos, negsuc, neg_ℤ, ◌+ℤ◌, ◌-ℤ◌, true, false, List, [], ◌∷◌, ◌++◌, get_or, take, drop, take-append-drop, Option, None, Some, IfSome, decimal, bytes_eq, cond, refl, sym, subst, ◌∙◌, ap, arith, FitsSigned, w64}
use Rattle.std.specs.Fmt.{signed_decimal}
use Rattle.std.specs.Option.{SomeIff}
use Rattle.std.specs.Str.Parse.{digits_value, signed_digits_value, without_leading_plus}
use Rattle.std.proofs.lemmas.Bool.{ltb-true, lt-ltb, ne_eqb, and_from, and_parts, true≢false}
use Rattle.std.proofs.lemmas.Int.{ints}
use Rattle.std.proofs.lemmas.Fmt.{digits_decimal, digits_value-decimal, decimal_nonempty}
use Rattle.std.proofs.lemmas.Option.{cond_some}
use Rattle.std.proofs.lemmas.Slice.Eq.{bytes_eq-Decides}
use Rattle.std.proofs.lemmas.Str.Parse.{digit_at}
use Rattle.up_text.specs.Numbers.{fits_i64, int_of, num_of}
use Rattle.up_text.proofs.NumberLemmas.{own, num-every, num-only}

some_same : {m n : ℕ} → Some m ≡ Some n → m ≡ n
some_same is = cc

-- the first byte of decimal digits is one
first-digit : (n : ℕ) → n < 2 ^ 64 → 48 ≤ get_or (decimal n) 0 0
first-digit n small =
    let range = digit_at (decimal n) 0 (digits_decimal own n small) (decimal_nonempty n small) in
    omega (arith, range)

-- the value of digits without a sign
value-plain : (digits : List ℕ) → 48 ≤ get_or digits 0 0 → signed_digits_value 10 digits ≡ pos (digits_value 10 digits)
value-plain digits digit =
    let first = get_or digits 0 0 in
    ap (λ minus. cond minus (neg_ℤ (pos (digits_value 10 (cond minus (drop 1 digits) (without_leading_plus digits))))) (pos (digits_value 10 (cond minus (drop 1 digits) (without_leading_plus digits))))) (ne_eqb first 45 (λ is. omega (arith, is)))
    ∙ ap (λ plus. pos (digits_value 10 (drop (cond plus 1 0) digits))) (ne_eqb first 43 (λ is. omega (arith, is)))

value-signed : (z : ℤ) → fits_i64 z ≡ true → signed_digits_value 10 (signed_decimal z) ≡ z
value-signed (pos n) fits =
    let small : n < 2 ^ 63 = ltb-true n (2 ^ 63) fits in
    let wide : n < 2 ^ 64 = omega arith in
    value-plain (decimal n) (first-digit n wide) ∙ ap pos (digits_value-decimal own n wide)
value-signed (negsuc n) fits =
    let small : n < 2 ^ 63 = ltb-true n (2 ^ 63) fits in
    ap (λ size. neg_ℤ (pos size)) (digits_value-decimal own (suc n) (omega arith))

pub int-every : (word : List ℕ) (z : ℤ) → fits_i64 z ≡ true → word ≡ signed_decimal z → int_of word ≡ Some z
unfolding int_of
int-every word z fits is =
    let value : signed_digits_value 10 word ≡ z = ap (signed_digits_value 10) is ∙ value-signed z fits in
    ap (λ v. cond (fits_i64 v && bytes_eq (signed_decimal v) word) (Some v) None) value
    ∙ ap (λ test. cond test (Some z) None) (and_from (fits_i64 z) (bytes_eq (signed_decimal z) word) fits ((bytes_eq-Decides (signed_decimal z) word).1 (sym is)))

pub int-only : (word : List ℕ) (z : ℤ) → int_of word ≡ Some z → (fits_i64 z ≡ true) × (word ≡ signed_decimal z)
unfolding int_of
int-only word z is =
    let value = signed_digits_value 10 word in
    let parts = cond_some (fits_i64 value && bytes_eq (signed_decimal value) word) value z is in
    let both = and_parts (fits_i64 value) (bytes_eq (signed_decimal value) word) parts.0 in
    let same : signed_decimal value ≡ word = (bytes_eq-Decides (signed_decimal value) word).0 both.1 in
    (subst (λ v. fits_i64 v ≡ true) parts.1 both.0, sym same ∙ ap signed_decimal parts.1)

none-from : (word : List ℕ) → ((z : ℤ) → fits_i64 z ≡ true → word ≡ signed_decimal z → ⊥) → (found : Option ℤ) → int_of word ≡ found → found ≡ None
none-from word never None is = refl
none-from word never (Some z) is = let parts = int-only word z is in absurd (never z parts.0 parts.1)

int-none : (word : List ℕ) → ((z : ℤ) → fits_i64 z ≡ true → word ≡ signed_decimal z → ⊥) → None ≡ int_of word
int-none word never = sym (none-from word never (int_of word) refl)

-- the test of the range
pub fits-from : (z : ℤ) → FitsSigned w64 z → fits_i64 z ≡ true
fits-from (pos n) fits = lt-ltb n (2 ^ 63) (omega (arith, ints, fits))
fits-from (negsuc n) fits = lt-ltb n (2 ^ 63) (omega (arith, ints, fits))

fits-to : (z : ℤ) → fits_i64 z ≡ true → FitsSigned w64 z
fits-to (pos n) fits = let small = ltb-true n (2 ^ 63) fits in omega (arith, ints)
fits-to (negsuc n) fits = let small = ltb-true n (2 ^ 63) fits in omega (arith, ints)

-- the clauses of a call, from its value
pub int-only_found : (word : List ℕ) (found : Option ℤ) → found ≡ int_of word → IfSome found (λ z. word ≡ signed_decimal z)
int-only_found word None is = tt
int-only_found word (Some z) is = (int-only word z (sym is)).1

pub int-every_found : (word : List ℕ) (found : Option ℤ) → found ≡ int_of word → (z : ℤ) → FitsSigned w64 z → word ≡ signed_decimal z → found ≡ Some z
int-every_found word found is z fits same = is ∙ int-every word z (fits-from z fits) same

-- a word that begins with `-` is that of a negative number or of none
minus-digits : (digits : List ℕ) (z : ℤ) → fits_i64 z ≡ true → 45 ∷ digits ≡ signed_decimal z → (n : ℕ) × (z ≡ negsuc n) × (num_of digits ≡ Some (suc n))
minus-digits digits (pos n) fits is =
    let small = ltb-true n (2 ^ 63) fits in
    let first = first-digit n (omega arith) in
    absurd (omega (arith, ap (λ bytes. get_or bytes 0 0) is))
minus-digits digits (negsuc n) fits is =
    let small = ltb-true n (2 ^ 63) fits in
    let same : digits ≡ decimal (suc n) = cc in
    (n, refl, num-every digits (suc n) (omega arith) same)

pub int-no_digits : (word digits : List ℕ) → word ≡ 45 ∷ digits → None ≡ num_of digits → None ≡ int_of word
int-no_digits word digits is none =
    int-none word (λ z fits same. let at = minus-digits digits z fits (sym is ∙ same) in cc)

pub int-minus_zero : (word digits : List ℕ) (size : ℕ) → word ≡ 45 ∷ digits → Some size ≡ num_of digits → size ≡ 0 → None ≡ int_of word
int-minus_zero word digits size is number none =
    int-none word (λ z fits same.
    let at = minus-digits digits z fits (sym is ∙ same) in
    let size_is : size ≡ suc at.0 = some_same (number ∙ at.2) in
    omega (arith, size_is, none))

-- the number below 0 of a size
minus-is : (size : ℕ) → size ≢ 0 → (n : ℕ) × (size ≡ suc n) × (pos 0 -ℤ pos size ≡ negsuc n)
minus-is zero other = absurd (other refl)
minus-is (suc n) other =
    let one_less : suc n - suc 0 ≡ n = omega arith in
    (n, refl, ap (λ below. cond below (negsuc (suc n - suc 0)) (pos (0 - suc n))) (lt-ltb 0 (suc n) (omega arith)) ∙ ap negsuc one_less)

pub int-minus : (word digits : List ℕ) (size : ℕ) (found : Option ℤ) → word ≡ 45 ∷ digits → Some size ≡ num_of digits → size ≢ 0 → SomeIff found (FitsSigned w64 (pos 0 -ℤ pos size)) (pos 0 -ℤ pos size) → found ≡ int_of word
int-minus word digits size (Some z) is number other answer =
    let minus = minus-is size other in
    let fits : fits_i64 (negsuc minus.0) ≡ true = fits-from (negsuc minus.0) (subst (FitsSigned w64) minus.2 answer.0) in
    let digits_are : digits ≡ decimal (suc minus.0) = (num-only digits size (sym number)).1 ∙ ap decimal minus.1 in
    ap Some (answer.1 ∙ minus.2) ∙ sym (int-every word (negsuc minus.0) fits (is ∙ ap (λ bytes. 45 ∷ bytes) digits_are))
int-minus word digits size None is number other answer =
    int-none word (λ z fits same.
    let at = minus-digits digits z fits (sym is ∙ same) in
    let minus = minus-is size other in
    let size_is : size ≡ suc at.0 = some_same (number ∙ at.2) in
    let n_is : minus.0 ≡ at.0 = omega (arith, size_is, minus.1) in
    let z_is : z ≡ pos 0 -ℤ pos size = at.1 ∙ ap negsuc (sym n_is) ∙ sym minus.2 in
    answer (subst (FitsSigned w64) z_is (fits-to z fits)))

-- a word that does not begin with `-` is that of a number from 0 on or of none
plus-digits : (word : List ℕ) (z : ℤ) → ((rest : List ℕ) → word ≢ 45 ∷ rest) → fits_i64 z ≡ true → word ≡ signed_decimal z → (n : ℕ) × (z ≡ pos n) × (num_of word ≡ Some n)
plus-digits word (pos n) other fits is =
    let small = ltb-true n (2 ^ 63) fits in
    (n, refl, num-every word n (omega arith) is)
plus-digits word (negsuc n) other fits is = absurd (other (decimal (suc n)) is)

pub int-no_number : (word : List ℕ) → ((rest : List ℕ) → word ≢ 45 ∷ rest) → None ≡ num_of word → None ≡ int_of word
int-no_number word other none =
    int-none word (λ z fits same. let at = plus-digits word z other fits same in cc)

pub int-plus : (word : List ℕ) (size : ℕ) (found : Option ℤ) → ((rest : List ℕ) → word ≢ 45 ∷ rest) → Some size ≡ num_of word → SomeIff found (FitsSigned w64 (pos 0 +ℤ pos size)) (pos 0 +ℤ pos size) → found ≡ int_of word
int-plus word size (Some z) other number answer =
    let is : pos 0 +ℤ pos size ≡ pos size = ap pos (zero-add size) in
    let fits : fits_i64 (pos size) ≡ true = fits-from (pos size) (subst (FitsSigned w64) is answer.0) in
    ap Some (answer.1 ∙ is) ∙ sym (int-every word (pos size) fits (num-only word size (sym number)).1)
int-plus word size None other number answer =
    int-none word (λ z fits same.
    let at = plus-digits word z other fits same in
    let size_is : at.0 ≡ size = some_same (sym (number ∙ at.2)) in
    let z_is : z ≡ pos 0 +ℤ pos size = at.1 ∙ ap pos (size_is ∙ sym (zero-add size)) in
    answer (subst (FitsSigned w64) z_is (fits-to z fits)))

-- whether a word begins with `-`, as `strip_prefix` tells it
pub minus-after : (word rest : List ℕ) → bytes_eq (take 1 word) (45 ∷ []) ≡ true → rest ≡ drop 1 word → word ≡ 45 ∷ rest
minus-after word rest test is =
    let front : take 1 word ≡ 45 ∷ [] = (bytes_eq-Decides (take 1 word) (45 ∷ [])).0 test in
    sym (take-append-drop 1 word) ∙ ap (λ bytes. bytes ++ drop 1 word) front ∙ ap (λ bytes. 45 ∷ bytes) (sym is)

pub minus-none : (word : List ℕ) → bytes_eq (take 1 word) (45 ∷ []) ≡ false → (rest : List ℕ) → word ≢ 45 ∷ rest
minus-none word test rest is = absurd (true≢false (ap (λ bytes. bytes_eq (take 1 bytes) (45 ∷ [])) (sym is) ∙ test))
