-- Reading a num byte by byte: what the bytes so far tell, all of them from 128 on.
use Rattle.std.proofs.Common.{◌≡◌, ℕ, suc, ◌+◌, ◌*◌, ◌-◌, ◌%◌, ◌^◌, ◌<◌, ◌≤◌, Bool, true, false, ◌||◌, ltb, List, [], ◌∷◌, ◌++◌, length, get_or, take, drop, Ok, Err, refl, sym, ap, subst, ◌∙◌, arith, inl, inr}
use Rattle.std.specs.List.{list_any}
use Rattle.std.proofs.Math.Nat.{pow-le-pow_right, mul-le-mul_left, mul_comm}
use Rattle.std.proofs.lemmas.Nat.{pow-add, shl_whole}
use Rattle.std.proofs.lemmas.Bool.{cases_lt, ltb-false, lt-ltb, le-ltb, ne_eqb, or_parts, or_from, or_left, or_right}
use Rattle.std.proofs.lemmas.List.{append-nil, length-append, length-take-le, get_or_past, get_or_at, take-append-drop, take_more, drop_more, take_all}
use Rattle.up_bytes.specs.declared.fault.FieldFault.TheVariants.{Short, Spelling}
use Rattle.up_bytes.specs.Num.{num_bytes, is_ended, is_misspelled, number}
use Rattle.up_bytes.specs.Input.{Input, place, past}
use Rattle.up_bytes.specs.Reading.{num_at}
use Rattle.up_bytes.proofs.Fronts.{null, num_bytes-last, num_bytes-more}

num_bytes-high : (high bytes : List ℕ) → is_ended high ≡ false → num_bytes (high ++ bytes) ≡ high ++ num_bytes bytes
num_bytes-high [] bytes e = refl
num_bytes-high (b ∷ high) bytes e =
    let parts = or_parts _ _ e in
    num_bytes-more b (high ++ bytes) (ltb-false b 128 parts.0) ∙ ap (λ (t : List ℕ). b ∷ t) (num_bytes-high high bytes parts.1)

null-high : (high : List ℕ) → is_ended high ≡ false → list_any null high ≡ false
null-high [] e = refl
null-high (b ∷ high) e =
    let parts = or_parts _ _ e in
    let le = ltb-false b 128 parts.0 in
    or_from _ _ (ne_eqb b 0 (λ z. omega arith)) (null-high high parts.1)

any-push : (p : ℕ → Bool) (xs : List ℕ) (b : ℕ) → list_any p xs ≡ false → list_any p (xs ++ b ∷ []) ≡ p b
any-push p [] b e = elim (p b) as (λ t. (t || false) ≡ t) [ true ↦ refl | false ↦ refl ]
any-push p (x ∷ xs) b e = let parts = or_parts (p x) (list_any p xs) e in ap (λ (t : Bool). t || list_any p (xs ++ b ∷ [])) parts.0 ∙ any-push p xs b parts.1

pub is_ended-push : (high : List ℕ) (b : ℕ) → is_ended high ≡ false → 128 ≤ b → is_ended (high ++ b ∷ []) ≡ false
is_ended-push high b e le = any-push (λ c. ltb c 128) high b e ∙ le-ltb b 128 le

shift : (k : ℕ) → 2 ^ (7 * suc k) ≡ 128 * 2 ^ (7 * k)
shift k = ap (λ (e : ℕ). 2 ^ e) (regroup k) ∙ pow-add 2 7 (7 * k)
  where
    regroup : (k : ℕ) → 7 * suc k ≡ 7 + 7 * k
    regroup k = omega arith

pub number-push : (xs : List ℕ) (b : ℕ) → number (xs ++ b ∷ []) ≡ number xs + 2 ^ (7 * length xs) * (b % 128)
number-push [] b = omega arith
number-push (x ∷ xs) b = rw (number-push xs b, shift (length xs)) (omega arith)

-- ---- seven bits more fit

-- below the tenth byte, seven bits more are below 2 ^ 63
pub small-push : (i value bits : ℕ) → value < 2 ^ (7 * i) → bits < 128 → value + 2 ^ (7 * i) * bits < 2 ^ (7 * suc i)
small-push i value bits lt low = omega (arith, shift i, mul-le-mul_left {m = bits} {n = 127} (2 ^ (7 * i)) (omega arith))

pub fits : (i value bits : ℕ) → i ≤ 9 → value < 2 ^ (7 * i) → bits < 128 → (i ≡ 9 → bits ≤ 1) → value + 2 ^ (7 * i) * bits < 2 ^ 64
fits i value bits nine lt low top =
    elim (cases_lt i 9) [
      | inl fewer ↦
          let most : 2 ^ (7 * suc i) ≤ 2 ^ 63 = pow-le-pow_right {n = 2} (omega arith) {i = 7 * suc i} {j = 63} (omega arith) in
          omega (arith, small-push i value bits lt low, most)
      | inr all ↦
          let last : 2 ^ (7 * i) ≡ 2 ^ 63 = ap (λ (k : ℕ). 2 ^ (7 * k)) (same i nine all) in
          let bit = top (same i nine all) in
          omega (arith, last, mul-le-mul_left {m = bits} {n = 1} (2 ^ (7 * i)) bit)
    ]
  where
    same : (i : ℕ) → i ≤ 9 → 9 ≤ i → i ≡ 9
    same i a b = omega arith

pub shl : (i bits : ℕ) → i ≤ 9 → bits < 128 → (i ≡ 9 → bits ≤ 1) → (bits * 2 ^ (7 * i)) % 2 ^ 64 ≡ 2 ^ (7 * i) * bits
shl i bits nine low top =
    elim (cases_lt i 9) [
      | inl fewer ↦ shl_whole bits 7 (7 * i) 64 (omega arith) (omega arith) ∙ mul_comm bits (2 ^ (7 * i))
      | inr all ↦ shl_whole bits 1 (7 * i) 64 (omega (arith, top (omega arith))) (omega arith) ∙ mul_comm bits (2 ^ (7 * i))
    ]

-- ---- the ways out of the loop

-- the bytes before place i, and the one there
parts_at : (left : List ℕ) (i : ℕ) → i < length left → left ≡ take i left ++ get_or left i 0 ∷ drop (i + 1) left
parts_at left i lt = sym (take-append-drop i left) ∙ ap (λ (t : List ℕ). take i left ++ t) (drop_more left i 0 lt)

front-high : (left : List ℕ) (i : ℕ) → i < length left → is_ended (take i left) ≡ false → num_bytes left ≡ take i left ++ num_bytes (get_or left i 0 ∷ drop (i + 1) left)
front-high left i lt high = ap num_bytes (parts_at left i lt) ∙ num_bytes-high (take i left) (get_or left i 0 ∷ drop (i + 1) left) high

begins : (b : ℕ) (bytes : List ℕ) → (t : List ℕ) × (num_bytes (b ∷ bytes) ≡ b ∷ t)
begins b bytes = elim (cases_lt b 128) [ inl lt ↦ ([], num_bytes-last b bytes lt) | inr le ↦ (num_bytes bytes, num_bytes-more b bytes le) ]

wrong : (input : Input) (i : ℕ) → i < length input.left → is_ended (take i input.left) ≡ false → ((t : List ℕ) → is_misspelled (take i input.left ++ get_or input.left i 0 ∷ t) ≡ true) → num_at input ≡ Err (Spelling (place input))
unfolding num_at
wrong input i lt high h =
    let start = begins (get_or input.left i 0) (drop (i + 1) input.left) in
    let front : num_bytes input.left ≡ take i input.left ++ get_or input.left i 0 ∷ start.0 = front-high input.left i lt high ∙ ap (λ (t : List ℕ). take i input.left ++ t) start.1 in
    rw (front, h start.0) refl

-- a tenth byte above 01
pub wrong_tenth : (input : Input) (i : ℕ) → i < length input.left → is_ended (take i input.left) ≡ false → i ≡ 9 → 1 < get_or input.left i 0 → num_at input ≡ Err (Spelling (place input))
wrong_tenth input i lt high nine above =
    wrong input i lt high (λ t.
    let at : get_or (take i input.left ++ get_or input.left i 0 ∷ t) 9 0 ≡ get_or input.left i 0 = get_or_at (take i input.left) (get_or input.left i 0) t 0 9 (length-take-le i input.left (omega arith) ∙ nine) in
    or_left _ _ (or_right _ _ (lt-ltb 1 (get_or (take i input.left ++ get_or input.left i 0 ∷ t) 9 0) (omega (arith, at)))))

zero_behind : (xs t : List ℕ) → 0 < length xs → list_any null (drop 1 (xs ++ 0 ∷ t)) ≡ true
zero_behind [] t lt = absurd (omega arith)
zero_behind (x ∷ xs) t lt = there xs
  where
    there : (xs : List ℕ) → list_any null (xs ++ 0 ∷ t) ≡ true
    there [] = refl
    there (y ∷ ys) = or_right _ _ (there ys)

-- a last byte 00 behind another byte
pub wrong_zero : (input : Input) (i : ℕ) → i < length input.left → is_ended (take i input.left) ≡ false → 0 < i → get_or input.left i 0 ≡ 0 → num_at input ≡ Err (Spelling (place input))
wrong_zero input i lt high pos nothing =
    wrong input i lt high (λ t.
    or_right _ _ (ap (λ (b : ℕ). list_any null (drop 1 (take i input.left ++ b ∷ t))) nothing ∙ zero_behind (take i input.left) t (omega (arith, length-take-le i input.left (omega arith)))))

no_zero : (xs : List ℕ) (b : ℕ) → list_any null xs ≡ false → (0 < length xs → 0 < b) → list_any null (drop 1 (xs ++ b ∷ [])) ≡ false
no_zero [] b e h = refl
no_zero (x ∷ xs) b e h = any-push null xs b (or_parts _ _ e).1 ∙ ne_eqb b 0 (λ z. omega (arith, h (omega arith)))

-- the last byte: the value is whole
pub right : (input : Input) (i value : ℕ) → i < length input.left → is_ended (take i input.left) ≡ false → i ≤ 9 → get_or input.left i 0 < 128 → (i ≡ 9 → get_or input.left i 0 ≤ 1) → (0 < i → 0 < get_or input.left i 0) → value ≡ number (take i input.left) → num_at input ≡ Ok (value + 2 ^ (7 * i) * get_or input.left i 0, past (i + 1) input)
unfolding num_at
right input i value lt high nine small tenth nonzero sofar =
    let xs = take i input.left in
    let b = get_or input.left i 0 in
    let len : length xs ≡ i = length-take-le i input.left (omega arith) in
    let front : num_bytes input.left ≡ xs ++ b ∷ [] = front-high input.left i lt high ∙ ap (λ (t : List ℕ). xs ++ t) (num_bytes-last b (drop (i + 1) input.left) small) in
    let count : length (xs ++ b ∷ []) ≡ i + 1 = length-append xs (b ∷ []) ∙ omega arith in
    let last : get_or (xs ++ b ∷ []) 9 0 ≤ 1 = elim (cases_lt i 9) [
      | inl fewer ↦ omega (arith, get_or_past (xs ++ b ∷ []) 9 0 (omega arith))
      | inr all ↦ omega (arith, get_or_at xs b [] 0 9 (omega arith), tenth (omega arith))
    ] in
    let fine : is_misspelled (xs ++ b ∷ []) ≡ false =
    or_from _ _ (or_from _ _ (le-ltb 10 (length (xs ++ b ∷ [])) (omega arith)) (le-ltb 1 (get_or (xs ++ b ∷ []) 9 0) last))
    (no_zero xs b (null-high xs high) (λ some. nonzero (omega arith))) in
    let ended : is_ended (xs ++ b ∷ []) ≡ true = any-push (λ c. ltb c 128) xs b high ∙ lt-ltb b 128 small in
    let value-is : number (xs ++ b ∷ []) ≡ value + 2 ^ (7 * i) * b = number-push xs b ∙ rw (len, sofar, low_part b small) refl in
    rw (front, fine, ended, value-is, count) refl
  where
    low_part : (b : ℕ) → b < 128 → b % 128 ≡ b
    low_part b lt = omega arith

-- the input ends: all bytes are from 128 on, and fewer than ten
pub ends : (input : Input) (i : ℕ) → is_ended (take i input.left) ≡ false → i ≤ 9 → length input.left ≤ i → num_at input ≡ Err Short
unfolding num_at
ends input i high nine done =
    let whole : take i input.left ≡ input.left = take_all i input.left done in
    let open_end : is_ended input.left ≡ false = ap is_ended (sym whole) ∙ high in
    let front : num_bytes input.left ≡ input.left = ap num_bytes (sym (append-nil input.left)) ∙ num_bytes-high input.left [] open_end ∙ append-nil input.left in
    let fine : is_misspelled input.left ≡ false =
    or_from _ _ (or_from _ _ (le-ltb 10 (length input.left) (omega arith)) (le-ltb 1 (get_or input.left 9 0) (omega (arith, get_or_past input.left 9 0 (omega arith)))))
    (rest_fine input.left (null-high input.left open_end)) in
    rw (front, fine, open_end) refl
  where
    rest_fine : (xs : List ℕ) → list_any null xs ≡ false → list_any null (drop 1 xs) ≡ false
    rest_fine [] e = refl
    rest_fine (x ∷ xs) e = (or_parts _ _ e).1

-- ---- the loop

-- after i bytes, all of them from 128 on, the value is what they stand for
pub record Sofar (bytes : List ℕ) (i value : ℕ) : Type 0 where
  pub few : i ≤ 9
  pub high : is_ended (take i bytes) ≡ false
  pub stands : value ≡ number (take i bytes)
  pub small : value < 2 ^ (7 * i)

pub Sofar-more : (bytes : List ℕ) (i value added : ℕ) → Sofar bytes i value → i < length bytes → get_or bytes i 0 < 256 → 128 ≤ get_or bytes i 0
    → (i ≡ 9 → get_or bytes i 0 ≤ 1) → added ≡ 2 ^ (7 * i) * (get_or bytes i 0 - 128) → Sofar bytes (i + 1) (value + added)
Sofar-more bytes i value added sofar lt wide le top is =
    let b = get_or bytes i 0 in
    let one : take (i + 1) bytes ≡ take i bytes ++ b ∷ [] = take_more bytes i 0 lt in
    let len : length (take i bytes) ≡ i = length-take-le i bytes (omega arith) in
    let low : b % 128 ≡ b - 128 = omega arith in
    let sum : number (take (i + 1) bytes) ≡ value + added = ap number one ∙ number-push (take i bytes) b ∙ rw (len, low, sofar.stands, is) refl in
    record {
      few = not_last i sofar.few (λ nine. omega (arith, top nine));
      high = ap is_ended one ∙ is_ended-push (take i bytes) b sofar.high le;
      stands = sym sum;
      small = rw is (subst (λ (k : ℕ). value + 2 ^ (7 * i) * (b - 128) < 2 ^ (7 * k)) (next i) (small-push i value (b - 128) sofar.small (omega arith)));
    }
  where
    not_last : (i : ℕ) → i ≤ 9 → (i ≡ 9 → ⊥) → i + 1 ≤ 9
    not_last i le ne = omega arith

    next : (i : ℕ) → suc i ≡ i + 1
    next i = omega arith
