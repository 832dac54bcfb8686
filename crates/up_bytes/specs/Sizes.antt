-- How many bytes a spelling has, as a number of 64 bits: this project's own.
use Rattle.std.specs.Prelude.{ℕ, ◌-◌, ◌^◌, min, List, length}

-- the number, or 2 ^ 64 - 1 where it is more
abbrev pub capped : ℕ → ℕ
capped n = min n (2 ^ 64 - 1)

-- the number of bytes, or 2 ^ 64 - 1 where there are more
abbrev pub size_of : List ℕ → ℕ
size_of bytes = capped (length bytes)
