-- What a machine's clock reads as a moment. This project's own.
use Rattle.std.specs.Prelude.{◌≡◌, ℕ, ◌/◌, min, Option, Some, None}
use Rattle.std.specs.Duration.{as_nanos}
use Rattle.std.specs.declared.time.Duration.{Duration}

-- the last moment, one second before the end of moments
abbrev pub last_moment : ℕ
last_moment = 253402207199

-- the whole seconds since 1970, or the nearest moment: the first where the clock stands before 1970 or cannot be read
abbrev pub moment_of : Option Duration → ℕ
moment_of (Some time) = min (as_nanos time / 1_000_000_000) last_moment
moment_of None = 0

-- a clock was read once, and the moment is that of what it read
pub record ReadsOnce {C : Type 0} (reads : C → Option Duration → C → Type 0) (old : C) (moment : ℕ) (new : C) : Type 0 where
  pub reading : Option Duration
  pub read : reads old reading new
  pub nearest : moment ≡ moment_of reading
