use Rattle.std.proofs.Common.{◌≤◌}
use Rattle.up_shared.specs.Sharing.{AreSeats, SeatsLater}
use Rattle.up_storm.proofs.Running.{IsRunning}
use Rattle.up_storm.specs.Telling.{total}
use Rattle.up_storm.proofs.session.Worker.run.Given as goal

-- so many requests were asked, and the seats are those of the host
abbrev pub invariant-loop-call : goal.invariant-loop-call
invariant-loop-call g l = record {
  running : IsRunning g.L.Loader l.shared l.full l.k l.requests l.fn.self l.call l.self;
  few : total l.self.tally ≤ l.call;
  sits : AreSeats l.shared l.self.seats;
  later : SeatsLater l.fn.self.seats l.self.seats;
}
