-- The nonces of a list. This project's own.
use Rattle.std.specs.Prelude.{ℕ, List, replicate}
use Rattle.up_ends.specs.Telling.{Coming}

-- the nonces that are left, and zeros for good
abbrev pub nonces_of : List (List ℕ) → Coming (List ℕ)
nonces_of first = record { first = first; after = replicate 32 0 }
