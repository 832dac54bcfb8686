-- The limits of a connection. This project's own.
use Rattle.std.specs.Prelude.{ℕ, ◌^◌}

-- how many bytes the payload of a client's frame may have
abbrev pub longest : ℕ
longest = 2097152

-- how many reads that give a byte are made
abbrev pub most_turns : ℕ
most_turns = 2 ^ 40
