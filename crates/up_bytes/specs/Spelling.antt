-- The one spelling of each value of a field, which is this project's own: a byte, a number (num, in Num), a signed
-- number (int), a text, and bytes of a fixed count, which stand as they are.
use Rattle.std.specs.Prelude.{◌≡◌, ℕ, ◌<◌, ◌^◌, ◌+◌, ◌*◌, ◌/◌, ◌%◌, ℤ, pos, negsuc, List, [], ◌∷◌, ◌++◌, length}
use Rattle.std.specs.Prelude.{◌==◌, if◌then◌else◌, FitsSigned}
use Rattle.std.specs.Int.{w64}
use Rattle.std.specs.List.{flat_map, AllByRecursion}
use Rattle.up_bytes.specs.Num.{num}

-- a signed number as an unsigned one: n at or above 0 as 2n, and below 0 as -2n - 1; negsuc n is -(n + 1)
abbrev pub zigzag : ℤ → ℕ
zigzag (pos n) = 2 * n
zigzag (negsuc n) = 2 * n + 1

-- the signed number of an unsigned one
abbrev pub from_zigzag : ℕ → ℤ
from_zigzag n = if n % 2 == 0 then pos (n / 2) else negsuc (n / 2)

-- a signed number: its zigzag number as a num
abbrev pub int : ℤ → List ℕ
int z = num (zigzag z)

-- a text: its length as a num, and then its bytes
abbrev pub text : List ℕ → List ℕ
text bytes = num (length bytes) ++ bytes

-- a byte
abbrev pub byte : ℕ → List ℕ
byte b = b ∷ []

-- the values that each form is for
abbrev pub IsByte : ℕ → Type 0
IsByte b = b < 256

-- a number below 2^64
abbrev pub IsU64 : ℕ → Type 0
IsU64 n = n < 2 ^ 64

-- a signed number of 64 bits
abbrev pub IsI64 : ℤ → Type 0
IsI64 z = FitsSigned w64 z

-- a text has fewer than 2^64 bytes
abbrev pub IsText : List ℕ → Type 0
IsText bytes = length bytes < 2 ^ 64

-- these are n bytes
abbrev pub HasLength : ℕ → List ℕ → Type 0
HasLength n bytes = length bytes ≡ n

-- bytes as they stand
abbrev pub raw : List ℕ → List ℕ
raw bytes = bytes

-- a list: the number of its values, and then each
abbrev pub list : {A : Type 0} → (A → List ℕ) → List A → List ℕ
list spelling xs = num (length xs) ++ flat_map spelling xs

-- fewer than 2 ^ 64 values, each of which fits
abbrev pub IsList : {A : Type 0} → (A → Type 0) → List A → Type 0
IsList Fits xs = IsU64 (length xs) × AllByRecursion Fits xs
