-- Nums: the one spelling of each number below 2 ^ 64, and its bytes at the front of others.
use Rattle.std.proofs.Common.{◌≡◌, ℕ, zero, suc, ◌+◌, ◌*◌, ◌/◌, ◌%◌, ◌^◌, ◌<◌, ◌≤◌, List, [], ◌∷◌, ◌++◌, length, get_or, refl, sym, ap, subst, ◌∙◌, append_assoc, arith, inl, inr}
use Rattle.std.proofs.Math.Nat.{pow-suc, one-le-pow}
use Rattle.std.proofs.lemmas.Nat.{div_below}
use Rattle.std.proofs.lemmas.Bool.{cases_lt, lt-ltb, le-ltb}
use Rattle.up_bytes.specs.Num.{IsLeb128, IsNum, leb128, num}

-- ---- the spelling, one byte at a time

pub leb128-small : (k n : ℕ) → n < 128 → leb128 (suc k) n ≡ n ∷ []
leb128-small k n lt = rw (lt-ltb n 128 lt) refl

pub leb128-large : (k n : ℕ) → 128 ≤ n → leb128 (suc k) n ≡ (128 + n % 128) ∷ leb128 k (n / 128)
leb128-large k n le = rw (le-ltb n 128 le) refl

below : (k n : ℕ) → n < 128 ^ suc k → n / 128 < 128 ^ k
below k n lt = div_below n 128 (128 ^ k) (omega arith) (subst (λ (m : ℕ). n < m) (pow-suc 128 k) lt)

-- a byte more than a number needs changes nothing
enough : (k n : ℕ) → n < 128 ^ suc k → leb128 (suc (suc k)) n ≡ leb128 (suc k) n
enough zero n lt =
    let small : n < 128 = lt in
    leb128-small 1 n small ∙ sym (leb128-small 0 n small)
enough (suc k) n lt =
    elim (cases_lt n 128) [
      | inl small ↦ leb128-small (suc (suc k)) n small ∙ sym (leb128-small (suc k) n small)
      | inr large ↦ leb128-large (suc (suc k)) n large ∙ ap (λ (bytes : List ℕ). (128 + n % 128) ∷ bytes) (enough k (n / 128) (below (suc k) n lt)) ∙ sym (leb128-large (suc k) n large)
    ]

pub num_small : (n : ℕ) → n < 128 → num n ≡ n ∷ []
unfolding num
num_small n lt = leb128-small 9 n lt

pub num_more : (n : ℕ) → 128 ≤ n → n < 2 ^ 64 → num n ≡ (128 + n % 128) ∷ num (n / 128)
unfolding num
num_more n large lt =
    let fewer : n / 128 < 128 ^ 9 = omega arith in
    leb128-large 9 n large ∙ ap (λ (bytes : List ℕ). (128 + n % 128) ∷ bytes) (sym (enough 8 (n / 128) fewer))

length-leb128 : (k n : ℕ) → length (leb128 k n) ≤ k
length-leb128 zero n = omega arith
length-leb128 (suc k) n =
    elim (cases_lt n 128) [
      | inl small ↦ rw (leb128-small k n small) (omega arith)
      | inr large ↦ rw (leb128-large k n large) (omega (arith, length-leb128 k (n / 128)))
    ]

pub length-num : (n : ℕ) → length (num n) ≤ 10
unfolding num
length-num n = length-leb128 10 n

-- a byte pushed, and the spelling of what is left of the number
pub num_pushed : (front : List ℕ) (n : ℕ) → 128 ≤ n → n < 2 ^ 64 → (front ++ (128 + n % 128) ∷ []) ++ num (n / 128) ≡ front ++ num n
num_pushed front n large lt = append_assoc front ((128 + n % 128) ∷ []) (num (n / 128)) ∙ ap (λ (t : List ℕ). front ++ t) (sym (num_more n large lt))

-- ---- the grammar

-- a byte from 128 on before the shortest form of the rest
pub IsLeb128-more : (b : ℕ) (bytes : List ℕ) (n high : ℕ) → 128 ≤ b → b < 256 → 0 < high → n + 128 ≡ b + 128 * high → IsLeb128 bytes high → IsLeb128 (b ∷ bytes) n
IsLeb128-more b [] n high le lt pos sums form = absurd form
IsLeb128-more b (c ∷ bytes) n high le lt pos sums form = (le, lt, high, pos, sums, form)

-- the limit for a tenth byte of at most 01, one byte further
limit : (k : ℕ) → 2 * 128 ^ suc k ≡ 128 * (2 * 128 ^ k)
limit k = rw (pow-suc 128 k) (omega arith)

record Spells (k : ℕ) (bytes : List ℕ) (n : ℕ) : Type 0 where
  pub form : IsLeb128 bytes n
  pub count : length bytes ≤ suc k
  pub last : get_or bytes k 0 ≤ 1

spells : (k n : ℕ) → n < 2 * 128 ^ k → Spells k (leb128 (suc k) n) n
spells zero n lt =
    let small : n < 128 = omega arith in
    rw (leb128-small 0 n small) (record { form = (small, refl); count = omega arith; last = omega arith })
spells (suc k) n lt =
    elim (cases_lt n 128) [
      | inl small ↦ rw (leb128-small (suc k) n small) (record { form = (small, refl); count = omega arith; last = omega arith })
      | inr large ↦
          let high = n / 128 in
          let fewer : high < 2 * 128 ^ k = omega (arith, limit k) in
          let rest = spells k high fewer in
          rw (leb128-large (suc k) n large) (record {
            form = IsLeb128-more (128 + n % 128) (leb128 (suc k) high) n high (omega arith) (omega arith) (omega arith) (omega arith) rest.form;
            count = omega (arith, rest.count);
            last = rest.last;
          })
    ]

pub num_spells : (n : ℕ) → n < 2 ^ 64 → IsNum (num n) n
unfolding num
num_spells n lt = let s = spells 9 n lt in record { form = s.form; ten = s.count; tenth = s.last }

only_leb128 : (k : ℕ) (bytes : List ℕ) (n : ℕ) → IsLeb128 bytes n → length bytes ≤ suc k → get_or bytes k 0 ≤ 1 → (n < 2 * 128 ^ k) × (bytes ≡ leb128 (suc k) n)
only_leb128 k [] n form count last = absurd form
only_leb128 zero (b ∷ []) n form count last = (omega (arith, form.0, form.1), rw (leb128-small 0 n (omega (arith, form.0, form.1)), form.1) refl)
only_leb128 (suc k) (b ∷ []) n form count last =
    let small : n < 128 = omega (arith, form.0, form.1) in
    (omega (arith, limit k, small, one-le-pow k 128 (omega arith)), rw (leb128-small (suc k) n small, form.1) refl)
only_leb128 zero (b ∷ c ∷ bytes) n form count last = absurd (omega arith)
only_leb128 (suc k) (b ∷ c ∷ bytes) n form count last =
    let high = form.2 in
    let rest = only_leb128 k (c ∷ bytes) high form.5 (omega arith) last in
    let large : 128 ≤ n = omega (arith, form.0, form.3, form.4) in
    let quotient : n / 128 ≡ high = omega (arith, form.0, form.1, form.4) in
    let low : 128 + n % 128 ≡ b = omega (arith, form.0, form.1, form.4) in
    (omega (arith, form.1, form.4, rest.0, limit k), rw (leb128-large (suc k) n large, quotient, low) (ap (λ (t : List ℕ). b ∷ t) rest.1))

-- one spelling: the bytes that spell a number as a num are those of num
pub num_only : (bytes : List ℕ) (n : ℕ) → IsNum bytes n → (n < 2 ^ 64) × (bytes ≡ num n)
unfolding num
num_only bytes n spelled = let found = only_leb128 9 bytes n spelled.form spelled.ten spelled.tenth in (found.0, found.1)

-- what writing a num needs
pub ruleset nums = (num_small, num_more, num_pushed, length-num)
