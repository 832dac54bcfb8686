-- The requests of a storm, from numbers. This project's own.
use Rattle.std.specs.Prelude.{ℕ, ◌+◌, ◌*◌, ◌/◌, ◌%◌, ◌^◌, nat_lt, ◌==◌, if◌then◌else◌}
use Rattle.up_storm.specs.declared.generator.Draw.{Draw}
use Rattle.up_storm.specs.declared.generator.Wish.{Wish}
use Rattle.up_storm.specs.declared.generator.Wish.TheVariants.{Delete, Glob, Lookup, LookElsewhere, Put}

-- the number with which session k of a storm begins
abbrev pub first_number : ℕ → ℕ → ℕ
first_number seed k = (seed + k) % 2 ^ 64

-- the number behind this one
abbrev pub next_number : ℕ → ℕ
next_number x = (x * 6364136223846793005 + 1442695040888963407) % 2 ^ 64

-- kinds 0 to 3 put, and each other one asks something else
abbrev pub wish_of : ℕ → Wish
wish_of kind =
    if nat_lt kind 4 then Put else if kind == 4 then Delete else if kind == 5 then Lookup else if kind == 6 then LookElsewhere else Glob

-- what a number draws: its first three bits are the kind, and the next four the number of the file
abbrev pub drawn_of : ℕ → Draw
drawn_of x = record { wish = wish_of (x / 2 ^ 61); file = x / 2 ^ 57 % 16 }
