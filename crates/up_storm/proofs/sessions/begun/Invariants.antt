use Rattle.std.proofs.Common.{◌≡◌, length, []}
use Rattle.std.specs.Prelude.{All}
use Rattle.up_shared.specs.Sharing.{AreSeats}
use Rattle.up_storm.proofs.Beginning.{IsBeginning}
use Rattle.up_storm.specs.Telling.{none_counted}
use Rattle.up_storm.proofs.sessions.begun.Given as goal

-- so many sessions have begun
abbrev pub invariant-loop-k : goal.invariant-loop-k
invariant-loop-k g l = record {
  begun : IsBeginning [] l.plan.seed l.fn.seats l.k l.seats l.workers.items;
  number : length l.workers.items ≡ l.k;
  sits : AreSeats l.shared l.seats;
  each : All (λ worker. AreSeats l.shared worker.seats) l.workers.items;
  fresh : All (λ worker. worker.tally ≡ none_counted) l.workers.items;
}
