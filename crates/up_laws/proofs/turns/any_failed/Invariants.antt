use Rattle.std.proofs.Common.{◌≡◌, drop}
use Rattle.up_laws.specs.Turns.{any_failed}
use Rattle.up_laws.proofs.turns.any_failed.Given as goal

-- none so far failed
abbrev pub invariant-loop-location : goal.invariant-loop-location
invariant-loop-location l = any_failed l.fetched (drop l.location-index l.locations) ≡ any_failed l.fetched l.locations
