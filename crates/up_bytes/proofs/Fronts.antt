-- The bytes of a num at the front of others.
use Rattle.std.proofs.Common.{◌≡◌, ℕ, zero, suc, ◌+◌, ◌*◌, ◌%◌, ◌<◌, ◌≤◌, Bool, true, false, ◌||◌, ltb, eqb, List, [], ◌∷◌, ◌++◌, length, get_or, drop, refl, sym, ap, ◌∙◌, arith, inl, inr}
use Rattle.std.specs.List.{list_any}
use Rattle.std.proofs.lemmas.Bool.{cases_lt, ltb-true, ltb-false, lt-ltb, le-ltb, ne_eqb, eqb-false, or_parts, or_cases, or_from, or_left, or_right, false≢true}
use Rattle.std.proofs.lemmas.List.{length-append, get_or_append_left, get_or_past, get_or_at}
use Rattle.up_bytes.specs.Num.{IsLeb128, IsNum, num_bytes, is_ended, is_misspelled, number}
use Rattle.up_bytes.specs.Forms.{IsBytes}
use Rattle.up_bytes.proofs.Numbers.{IsLeb128-more}

abbrev low : ℕ → Bool
low b = ltb b 128

abbrev pub null : ℕ → Bool
null b = eqb b 0

-- ---- one byte

pub num_bytes-last : (b : ℕ) (bytes : List ℕ) → b < 128 → num_bytes (b ∷ bytes) ≡ b ∷ []
num_bytes-last b bytes lt = rw (lt-ltb b 128 lt) refl

pub num_bytes-more : (b : ℕ) (bytes : List ℕ) → 128 ≤ b → num_bytes (b ∷ bytes) ≡ b ∷ num_bytes bytes
num_bytes-more b bytes le = rw (le-ltb b 128 le) refl

any-last : (b : ℕ) (bytes : List ℕ) → b < 128 → list_any low (b ∷ bytes) ≡ true
any-last b bytes lt = rw (lt-ltb b 128 lt) refl

any-more : (b : ℕ) (bytes : List ℕ) → 128 ≤ b → list_any low (b ∷ bytes) ≡ list_any low bytes
any-more b bytes le = rw (le-ltb b 128 le) refl

null-more : (b : ℕ) (bytes : List ℕ) → 0 < b → list_any null (b ∷ bytes) ≡ list_any null bytes
null-more b bytes lt = rw (ne_eqb b 0 (λ e. omega arith)) refl

-- ---- what the shortest form of a number tells

pub num_bytes-form : (bytes rest : List ℕ) (n : ℕ) → IsLeb128 bytes n → num_bytes (bytes ++ rest) ≡ bytes
num_bytes-form [] rest n form = absurd form
num_bytes-form (b ∷ []) rest n form = num_bytes-last b rest form.0
num_bytes-form (b ∷ c ∷ bytes) rest n form = num_bytes-more b (c ∷ bytes ++ rest) form.0 ∙ ap (λ (t : List ℕ). b ∷ t) (num_bytes-form (c ∷ bytes) rest form.2 form.5)

pub is_ended-form : (bytes : List ℕ) (n : ℕ) → IsLeb128 bytes n → is_ended bytes ≡ true
is_ended-form [] n form = absurd form
is_ended-form (b ∷ []) n form = any-last b [] form.0
is_ended-form (b ∷ c ∷ bytes) n form = any-more b (c ∷ bytes) form.0 ∙ is_ended-form (c ∷ bytes) form.2 form.5

pub number-form : (bytes : List ℕ) (n : ℕ) → IsLeb128 bytes n → number bytes ≡ n
number-form [] n form = absurd form
number-form (b ∷ []) n form = omega (arith, form.0, form.1)
number-form (b ∷ c ∷ bytes) n form = omega (arith, form.0, form.1, form.4, number-form (c ∷ bytes) form.2 form.5)

-- no byte 00 in the form of a number above 0
null-form : (bytes : List ℕ) (n : ℕ) → IsLeb128 bytes n → 0 < n → list_any null bytes ≡ false
null-form [] n form pos = absurd form
null-form (b ∷ []) n form pos = null-more b [] (omega (arith, form.1))
null-form (b ∷ c ∷ bytes) n form pos = null-more b (c ∷ bytes) (omega (arith, form.0)) ∙ null-form (c ∷ bytes) form.2 form.5 form.3

rest_null-form : (bytes : List ℕ) (n : ℕ) → IsLeb128 bytes n → list_any null (drop 1 bytes) ≡ false
rest_null-form [] n form = absurd form
rest_null-form (b ∷ []) n form = refl
rest_null-form (b ∷ c ∷ bytes) n form = null-form (c ∷ bytes) form.2 form.5 form.3

pub is_misspelled-num : (bytes : List ℕ) (n : ℕ) → IsNum bytes n → is_misspelled bytes ≡ false
is_misspelled-num bytes n spelled =
    or_from _ _ (or_from _ _ (le-ltb 10 (length bytes) spelled.ten) (le-ltb 1 (get_or bytes 9 0) spelled.tenth)) (rest_null-form bytes n spelled.form)

-- ---- the bytes of a num at the front of any bytes

-- either the last one is there, or all bytes are from 128 on
pub num_bytes-open : (bytes : List ℕ) → is_ended (num_bytes bytes) ≡ false → num_bytes bytes ≡ bytes
num_bytes-open [] open_end = refl
num_bytes-open (b ∷ bytes) open_end =
    elim (cases_lt b 128) [
      | inl lt ↦ absurd (false≢true (sym open_end ∙ ap is_ended (num_bytes-last b bytes lt) ∙ any-last b [] lt))
      | inr le ↦
          let e = num_bytes-more b bytes le in
          let rest : is_ended (num_bytes bytes) ≡ false = sym (any-more b (num_bytes bytes) le) ∙ ap is_ended (sym e) ∙ open_end in
          e ∙ ap (λ (t : List ℕ). b ∷ t) (num_bytes-open bytes rest)
    ]

pub num_bytes-prefix : (bytes : List ℕ) → num_bytes bytes ++ drop (length (num_bytes bytes)) bytes ≡ bytes
num_bytes-prefix [] = refl
num_bytes-prefix (b ∷ bytes) =
    elim (cases_lt b 128) [
      | inl lt ↦ rw (num_bytes-last b bytes lt) refl
      | inr le ↦ rw (num_bytes-more b bytes le) (ap (λ (t : List ℕ). b ∷ t) (num_bytes-prefix bytes))
    ]

-- with more bytes behind, at most more of them belong to the num
pub num_bytes-append : (bytes more : List ℕ) → (others : List ℕ) × (num_bytes (bytes ++ more) ≡ num_bytes bytes ++ others)
num_bytes-append [] more = (num_bytes more, refl)
num_bytes-append (b ∷ bytes) more =
    elim (cases_lt b 128) [
      | inl lt ↦ ([], num_bytes-last b (bytes ++ more) lt ∙ ap (λ (t : List ℕ). t ++ []) (sym (num_bytes-last b bytes lt)))
      | inr le ↦
          let found = num_bytes-append bytes more in
          (found.0, num_bytes-more b (bytes ++ more) le ∙ ap (λ (t : List ℕ). b ∷ t) found.1 ∙ ap (λ (t : List ℕ). t ++ found.0) (sym (num_bytes-more b bytes le)))
    ]

any-append : (p : ℕ → Bool) (xs ys : List ℕ) → list_any p xs ≡ true → list_any p (xs ++ ys) ≡ true
any-append p [] ys e = absurd (false≢true e)
any-append p (x ∷ xs) ys e =
    elim (or_cases (p x) (list_any p xs) e) [
      | inl here ↦ or_left _ _ here
      | inr there ↦ or_right _ _ (any-append p xs ys there)
    ]

any_rest-append : (p : ℕ → Bool) (xs ys : List ℕ) → list_any p (drop 1 xs) ≡ true → list_any p (drop 1 (xs ++ ys)) ≡ true
any_rest-append p [] ys e = absurd (false≢true e)
any_rest-append p (x ∷ xs) ys e = any-append p xs ys e

within : (xs : List ℕ) (i : ℕ) → 0 < get_or xs i 0 → i < length xs
within xs i pos = elim (cases_lt i (length xs)) [ inl lt ↦ lt | inr le ↦ absurd (omega (arith, get_or_past xs i 0 le)) ]

-- what no num begins with stays so however it goes on
pub is_misspelled-append : (bytes others : List ℕ) → is_misspelled bytes ≡ true → is_misspelled (bytes ++ others) ≡ true
is_misspelled-append bytes others e =
    let many = ltb 10 (length bytes) in
    let tenth = ltb 1 (get_or bytes 9 0) in
    elim (or_cases (many || tenth) (list_any null (drop 1 bytes)) e) [
      | inl lengths ↦ elim (or_cases many tenth lengths) [
        | inl long ↦ or_left _ _ (or_left _ _ (lt-ltb 10 (length (bytes ++ others)) (omega (arith, ltb-true 10 (length bytes) long, length-append bytes others))))
        | inr high ↦
            let above = ltb-true 1 (get_or bytes 9 0) high in
            let there = within bytes 9 (omega arith) in
            or_left _ _ (or_right _ _ (lt-ltb 1 (get_or (bytes ++ others) 9 0) (omega (arith, above, get_or_append_left bytes others 0 9 there))))
      ]
      | inr zeros ↦ or_right _ _ (any_rest-append null bytes others zeros)
    ]

-- ---- a whole num at the front

IsBytes-rest : (b : ℕ) (bytes : List ℕ) → IsBytes (b ∷ bytes) → IsBytes bytes
IsBytes-rest b bytes h i = h (suc i)

-- a num without a byte 00 stands for a number above 0
positive : (bytes : List ℕ) → is_ended (num_bytes bytes) ≡ true → list_any null (num_bytes bytes) ≡ false → 0 < number (num_bytes bytes)
positive [] ended none = absurd (false≢true ended)
positive (b ∷ bytes) ended none =
    elim (cases_lt b 128) [
      | inl lt ↦
          let e = num_bytes-last b bytes lt in
          let not_zero = eqb-false b 0 (or_parts _ _ (ap (list_any null) (sym e) ∙ none)).0 in
          rw e (omega (arith, not_zero))
      | inr le ↦
          let e = num_bytes-more b bytes le in
          let rest_ended : is_ended (num_bytes bytes) ≡ true = sym (any-more b (num_bytes bytes) le) ∙ ap is_ended (sym e) ∙ ended in
          let rest_none : list_any null (num_bytes bytes) ≡ false = (or_parts (null b) (list_any null (num_bytes bytes)) (ap (list_any null) (sym e) ∙ none)).1 in
          rw e (omega (arith, positive bytes rest_ended rest_none))
    ]

sums : (b high : ℕ) → 128 ≤ b → b < 256 → b % 128 + 128 * high + 128 ≡ b + 128 * high
sums b high le lt = omega arith

tail_none : (xs : List ℕ) → list_any null xs ≡ false → list_any null (drop 1 xs) ≡ false
tail_none [] e = refl
tail_none (x ∷ xs) e = (or_parts _ _ e).1

-- with its last byte, and no 00 after another byte, it is the shortest form of what it stands for
pub num_bytes-is_form : (bytes : List ℕ) → IsBytes bytes → is_ended (num_bytes bytes) ≡ true → list_any null (drop 1 (num_bytes bytes)) ≡ false → IsLeb128 (num_bytes bytes) (number (num_bytes bytes))
num_bytes-is_form [] fits ended none = absurd (false≢true ended)
num_bytes-is_form (b ∷ bytes) fits ended none =
    elim (cases_lt b 128) [
      | inl lt ↦
          let one : IsLeb128 (b ∷ []) (number (b ∷ [])) = (lt, omega arith) in
          rw (num_bytes-last b bytes lt) one
      | inr le ↦
          let e = num_bytes-more b bytes le in
          let rest = num_bytes bytes in
          let rest_ended : is_ended rest ≡ true = sym (any-more b rest le) ∙ ap is_ended (sym e) ∙ ended in
          let rest_none : list_any null rest ≡ false = ap (λ (t : List ℕ). list_any null (drop 1 t)) (sym e) ∙ none in
          let rest_form = num_bytes-is_form bytes (IsBytes-rest b bytes fits) rest_ended (tail_none rest rest_none) in
          rw e (IsLeb128-more b rest (number (b ∷ rest)) (number rest) le (fits 0) (positive bytes rest_ended rest_none) (sums b (number rest) le (fits 0)) rest_form)
    ]

-- ---- bytes from 128 on alone, which a last byte makes a num

pub high_at : (bytes : List ℕ) (i : ℕ) → is_ended bytes ≡ false → i < length bytes → 128 ≤ get_or bytes i 0
high_at [] i open_end lt = absurd (omega arith)
high_at (b ∷ bytes) zero open_end lt = ltb-false b 128 (or_parts _ _ open_end).0
high_at (b ∷ bytes) (suc i) open_end lt = high_at bytes i (or_parts _ _ open_end).1 (omega arith)

record Closed (bytes : List ℕ) : Type 0 where
  pub form : IsLeb128 bytes (number bytes)
  pub positive : 0 < number bytes

above_zero : (low high : ℕ) → 0 < high → 0 < low + 128 * high
above_zero low high lt = omega arith

closed : (bytes : List ℕ) → IsBytes bytes → is_ended bytes ≡ false → Closed (bytes ++ 1 ∷ [])
closed [] fits open_end = record { form = (omega arith, omega arith); positive = omega arith }
closed (b ∷ bytes) fits open_end =
    let le = ltb-false b 128 (or_parts _ _ open_end).0 in
    let rest : Closed (bytes ++ 1 ∷ []) = closed bytes (IsBytes-rest b bytes fits) (or_parts (ltb b 128) (is_ended bytes) open_end).1 in
    let value = number (bytes ++ 1 ∷ []) in
    record {
      form = IsLeb128-more b (bytes ++ 1 ∷ []) (b % 128 + 128 * value) value le (fits 0) rest.positive (sums b value le (fits 0)) rest.form;
      positive = above_zero (b % 128) value rest.positive;
    }

-- at most nine such bytes, with 01 behind, are a num
pub num-closed : (bytes : List ℕ) → IsBytes bytes → is_ended bytes ≡ false → get_or bytes 9 0 ≤ 1 → IsNum (bytes ++ 1 ∷ []) (number (bytes ++ 1 ∷ []))
num-closed bytes fits open_end tenth =
    let few : length bytes ≤ 9 = elim (cases_lt 9 (length bytes)) [ inl long ↦ absurd (omega (arith, high_at bytes 9 open_end long)) | inr le ↦ le ] in
    let len = length-append bytes (1 ∷ []) in
    record {
      form = (closed bytes fits open_end).form;
      ten = omega (arith, len);
      tenth = elim (cases_lt (length bytes) 9) [
        | inl lt ↦ omega (arith, get_or_past (bytes ++ 1 ∷ []) 9 0 (omega (arith, len)))
        | inr le ↦ omega (arith, get_or_at bytes 1 [] 0 9 (omega arith))
      ];
    }
