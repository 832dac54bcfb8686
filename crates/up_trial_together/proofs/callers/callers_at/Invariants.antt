use Rattle.std.specs.Prelude.{All}
use Rattle.up_shared.specs.Sharing.{AreSeats}
use Rattle.up_trial_together.proofs.callers.callers_at.Given as goal

-- the seats are those of the host, and so are each caller's
abbrev pub invariant-loop-made : goal.invariant-loop-made
invariant-loop-made g l = record {
  sits : AreSeats l.shared l.seats;
  each : All (λ caller. AreSeats l.shared caller.seats) l.callers.items;
}
