-- Moments, as a clock gives them: whole seconds since the first of 1970, in the time of Greenwich.
use Rattle.std.specs.Prelude.{◌<◌, ℕ, Bool, nat_lt}

-- a moment that every calendar of four digits can write: it is before the year 10000 in every time zone
abbrev pub IsMoment : ℕ → Type 0
IsMoment time = time < 253402207200

-- whether it is one
abbrev pub is_moment : ℕ → Bool
is_moment time = nat_lt time 253402207200
