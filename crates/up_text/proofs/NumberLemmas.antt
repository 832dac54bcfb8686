-- A word is a number exactly where it is the decimal digits of that number.
use Rattle.std.proofs.Common.{◌≡◌, ◌≢◌, ◌==◌, ◌&&◌, ◌^◌, ℕ, ◌<◌, ◌≤◌, Bool, true, false, nat_lt, nat_le, List, [], ◌∷◌, length, get_or, Option, None, Some, IfSome, Result, Ok, Err, decimal, bytes_eq, cond, refl, sym, subst, ◌∙◌, ap, arith, ⊎_elim}
use Rattle.std.specs.Char.{is_ascii_digit}
use Rattle.std.specs.Result.{result_ok, OkIff}
use Rattle.std.specs.Str.{IsUtf8}
use Rattle.std.specs.Str.Parse.{AllDigits, digits_value, ParsesUnsigned}
use Rattle.std.proofs.lemmas.Bool.{cases_eq, ltb-true, lt-ltb, leb-true, le-leb, eqb-true, eqb-false, ne_eqb, and_from, and_parts, true≢false}
use Rattle.std.proofs.lemmas.Fmt.{decimal_digit, decimal_nonempty, decimal-digits_value, digits_decimal, digits_value-decimal, first_decimal, IsAscii-decimal}
use Rattle.std.proofs.lemmas.Option.{cond_some}
use Rattle.std.proofs.lemmas.Slice.Eq.{bytes_eq-Decides}
use Rattle.std.proofs.lemmas.Str.{IsUtf8-from_ascii}
use Rattle.std.proofs.lemmas.Str.Parse.{IsNumeralModel, numerals_by_value, tells_digits, digit_at, parse_plain}
use Rattle.up_text.specs.Numbers.{begins_number, num_of}

-- the value of decimal digits
pub own : IsNumeralModel (AllDigits 10) (digits_value 10)
own = numerals_by_value (AllDigits 10) tells_digits

pub num-every : (word : List ℕ) (n : ℕ) → n < 2 ^ 64 → word ≡ decimal n → num_of word ≡ Some n
unfolding num_of
num-every word n small is =
    let value : digits_value 10 word ≡ n = ap (digits_value 10) is ∙ digits_value-decimal own n small in
    ap (λ v. cond (nat_lt v (2 ^ 64) && bytes_eq (decimal v) word) (Some v) None) value
    ∙ ap (λ test. cond test (Some n) None) (and_from (nat_lt n (2 ^ 64)) (bytes_eq (decimal n) word) (lt-ltb n (2 ^ 64) small) ((bytes_eq-Decides (decimal n) word).1 (sym is)))

pub num-only : (word : List ℕ) (n : ℕ) → num_of word ≡ Some n → (n < 2 ^ 64) × (word ≡ decimal n)
unfolding num_of
num-only word n is =
    let value = digits_value 10 word in
    let parts = cond_some (nat_lt value (2 ^ 64) && bytes_eq (decimal value) word) value n is in
    let both = and_parts (nat_lt value (2 ^ 64)) (bytes_eq (decimal value) word) parts.0 in
    let small : value < 2 ^ 64 = ltb-true value (2 ^ 64) both.0 in
    let same : decimal value ≡ word = (bytes_eq-Decides (decimal value) word).0 both.1 in
    (subst (λ v. v < 2 ^ 64) parts.1 small, sym same ∙ ap decimal parts.1)

none-from : (word : List ℕ) → ((n : ℕ) → n < 2 ^ 64 → word ≡ decimal n → ⊥) → (found : Option ℕ) → num_of word ≡ found → found ≡ None
none-from word never None is = refl
none-from word never (Some n) is = let parts = num-only word n is in absurd (never n parts.0 parts.1)

pub num-none : (word : List ℕ) → ((n : ℕ) → n < 2 ^ 64 → word ≡ decimal n → ⊥) → num_of word ≡ None
num-none word never = none-from word never (num_of word) refl

-- how the digits of a number begin
begins-from : (digits : List ℕ) → 0 < length digits → 48 < get_or digits 0 0 → get_or digits 0 0 ≤ 57 → begins_number digits ≡ true
begins-from [] some low high = absurd (omega arith)
begins-from (first ∷ rest) some low high =
    ap (λ zero. cond zero (length rest == 0) (is_ascii_digit first)) (ne_eqb first 48 (λ is. omega (arith, is)))
    ∙ and_from (nat_le 48 first) (nat_le first 57) (le-leb 48 first (omega arith)) (le-leb first 57 high)

pub begins-decimal : (n : ℕ) → n < 2 ^ 64 → begins_number (decimal n) ≡ true
begins-decimal n small =
    let some = decimal_nonempty n small in
    let range = digit_at (decimal n) 0 (digits_decimal own n small) some in
    ⊎_elim (λ zero. ap (λ m. begins_number (decimal m)) zero ∙ ap begins_number (decimal_digit 0 (omega arith)))
    (λ other. begins-from (decimal n) some (first_decimal n (omega arith) small) (omega (arith, range))) (cases_eq n 0)

-- digits are text
pub utf8-decimal : (word : List ℕ) (n : ℕ) → n < 2 ^ 64 → word ≡ decimal n → IsUtf8 word
utf8-decimal word n small is = subst IsUtf8 (sym is) (IsUtf8-from_ascii (decimal n) (IsAscii-decimal n small))

-- what a word begins with that begins as a number
pub record Begins (word : List ℕ) : Type 0 where
  pub some : 0 < length word
  pub digit : 48 ≤ get_or word 0 0
  pub alone : get_or word 0 0 ≡ 48 → length word ≡ 1

begins-by : (first : ℕ) (rest : List ℕ) (zero : Bool) → (first == 48) ≡ zero → cond zero (length rest == 0) (is_ascii_digit first) ≡ true → Begins (first ∷ rest)
begins-by first rest true is begins =
    let zero : first ≡ 48 = eqb-true first 48 is in
    let none : length rest ≡ 0 = eqb-true (length rest) 0 begins in
    record { some = omega arith; digit = omega (arith, zero); alone = λ _. omega (arith, none) }
begins-by first rest false is begins =
    let parts = and_parts (nat_le 48 first) (nat_le first 57) begins in
    record { some = omega arith; digit = leb-true 48 first parts.0; alone = λ zero. absurd (eqb-false first 48 is zero) }

pub begins-parts : (word : List ℕ) → begins_number word ≡ true → Begins word
begins-parts [] begins = absurd (true≢false (sym begins))
begins-parts (first ∷ rest) begins = begins-by first rest (first == 48) refl begins

num-parsed_by : {E : Type 0} (word : List ℕ) (parsed : Result ℕ E) → Begins word → OkIff parsed (AllDigits 10 word × (0 < length word) × (digits_value 10 word < 2 ^ 64)) (digits_value 10 word) → result_ok parsed ≡ num_of word
num-parsed_by word (Ok n) begins parses =
    let value = digits_value 10 word in
    let digits = parses.0 in
    let same : decimal value ≡ word = decimal-digits_value own word digits.0 digits.1 begins.alone digits.2 in
    ap Some parses.1 ∙ sym (num-every word value digits.2 (sym same))
num-parsed_by word (Err e) begins parses =
    sym (num-none word (λ n small is.
    let value : digits_value 10 word ≡ n = ap (digits_value 10) is ∙ digits_value-decimal own n small in
    parses (subst (AllDigits 10) (sym is) (digits_decimal own n small), begins.some, subst (λ v. v < 2 ^ 64) (sym value) small)))

-- what `parse` gives of such a word
pub num-parsed : {E : Type 0} (word : List ℕ) (parsed : Result ℕ E) → begins_number word ≡ true → ParsesUnsigned 64 10 word parsed → result_ok parsed ≡ num_of word
num-parsed word parsed begins parses =
    let parts = begins-parts word begins in
    let plain : get_or word 0 0 ≢ 43 = λ plus. omega (arith, plus, parts.digit) in
    num-parsed_by word parsed parts (parse_plain own 64 word parsed parses plain)

-- the clauses of a call, from its value
pub num-only_found : (word : List ℕ) (found : Option ℕ) → found ≡ num_of word → IfSome found (λ n. word ≡ decimal n)
num-only_found word None is = tt
num-only_found word (Some n) is = (num-only word n (sym is)).1

pub num-every_found : (word : List ℕ) (found : Option ℕ) → found ≡ num_of word → (n : ℕ) → n < 2 ^ 64 → word ≡ decimal n → found ≡ Some n
num-every_found word found is n small same = is ∙ num-every word n small same

pub num-not_begun : (word : List ℕ) → begins_number word ≡ false → None ≡ num_of word
num-not_begun word other =
    sym (num-none word (λ n small is. absurd (true≢false (sym (begins-decimal n small) ∙ ap begins_number (sym is) ∙ other))))

pub num-no_text : (word : List ℕ) → ¬ IsUtf8 word → None ≡ num_of word
num-no_text word other = sym (num-none word (λ n small is. other (utf8-decimal word n small is)))
