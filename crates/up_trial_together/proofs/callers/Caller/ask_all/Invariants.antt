use Rattle.up_shared.specs.Sharing.{AreSeats}
use Rattle.up_trial_together.proofs.callers.Caller.ask_all.Given as goal

-- the seats are those of the host
abbrev pub invariant-loop-request : goal.invariant-loop-request
invariant-loop-request g l = AreSeats l.shared l.self.seats
