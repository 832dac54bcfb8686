-- How long what is left of a line is.
use Rattle.std.proofs.Common.{ℕ, ◌+◌, List, length, Option, Some, None}

abbrev pub left_size : Option (List ℕ) → ℕ
left_size None = 0
left_size (Some left) = length left + 1
