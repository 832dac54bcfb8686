-- Numbers in bytes: unsigned LEB128 in its shortest form, for numbers below 2 ^ 64.
use Rattle.std.specs.Prelude.{◌≡◌, ℕ, zero, suc, ◌+◌, ◌*◌, ◌/◌, ◌%◌, ◌<◌, ◌≤◌, Bool, ◌||◌}
use Rattle.std.specs.Prelude.{List, [], ◌∷◌, length, drop, nat_lt, ◌==◌, slice_index, if◌then◌else◌}
use Rattle.std.specs.List.{list_any}

-- LEB128: a byte below 128 is the last and stands for itself. One from 128 on has the low seven bits, and the
-- bytes after it stand for the rest, which is not 0: so each number has one shortest form.
abbrev pub IsLeb128 : List ℕ → ℕ → Type 0
IsLeb128 [] n = ⊥
IsLeb128 (b ∷ []) n = (b < 128) × (n ≡ b)
IsLeb128 (b ∷ c ∷ bytes) n = (128 ≤ b) × (b < 256) × (high : ℕ) × (0 < high) × (n + 128 ≡ b + 128 * high) × IsLeb128 (c ∷ bytes) high

-- this project's num: the shortest form in at most ten bytes, of which the tenth, where there is one, is at most 01
pub record IsNum (bytes : List ℕ) (n : ℕ) : Type 0 where
  pub form : IsLeb128 bytes n
  pub ten : length bytes ≤ 10
  pub tenth : slice_index bytes 9 ≤ 1

-- the first bytes of the shortest form of a number, at most so many
abbrev pub leb128 : ℕ → ℕ → List ℕ
leb128 zero n = []
leb128 (suc most) n = if nat_lt n 128 then n ∷ [] else (128 + n % 128) ∷ leb128 most (n / 128)

-- the spelling of a number as a num
unfoldable pub num : ℕ → List ℕ
num n = leb128 10 n

-- the bytes of a num at the front: those from 128 on, and the first below 128, which is the last
abbrev pub num_bytes : List ℕ → List ℕ
num_bytes [] = []
num_bytes (b ∷ bytes) = if nat_lt b 128 then b ∷ [] else b ∷ num_bytes bytes

-- whether the last byte of a num is there
abbrev pub is_ended : List ℕ → Bool
is_ended bytes = list_any (λ b. nat_lt b 128) bytes

-- no num, however it goes on: an eleventh byte, a tenth byte above 01, or a byte 00 after another byte
abbrev pub is_misspelled : List ℕ → Bool
is_misspelled bytes = nat_lt 10 (length bytes) || nat_lt 1 (slice_index bytes 9) || list_any (λ b. b == 0) (drop 1 bytes)

-- the number that the bytes of a num stand for: the low seven bits of each, the lowest first
abbrev pub number : List ℕ → ℕ
number [] = 0
number (b ∷ bytes) = b % 128 + 128 * number bytes
