-- What a reader sees of its input.
use Rattle.std.specs.Prelude.{ℕ, ◌-◌, List, length, drop}

-- how many bytes the whole input has, and the bytes that are left of it
pub record Input : Type 0 where
  pub size : ℕ
  pub left : List ℕ

-- how many bytes were read so far
abbrev pub place : Input → ℕ
place input = input.size - length input.left

-- what is left after the next n bytes
abbrev pub past : ℕ → Input → Input
past n input = record { size = input.size; left = drop n input.left }
