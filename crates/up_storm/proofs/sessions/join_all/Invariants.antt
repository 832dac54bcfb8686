use Rattle.std.proofs.Common.{◌≡◌, ◌≤◌, ◌+◌, ◌++◌, length}
use Rattle.std.specs.Prelude.{All, map, vec_capacity, vec_len}
use Rattle.up_shared.specs.Sharing.{AreSeats}
use Rattle.up_storm.proofs.Beginning.{IsJoining}
use Rattle.up_storm.specs.Sessions.{said_of}
use Rattle.up_storm.proofs.sessions.join_all.Given as goal

-- some are joined, and there is room for what the others say
abbrev pub invariant-loop-worker : goal.invariant-loop-worker
invariant-loop-worker g l = record {
  joining : IsJoining l.fn.seats l.fn.workers.items l.seats l.left.items;
  said : l.said.items ++ map (λ worker. said_of worker) l.left.items ≡ map (λ worker. said_of worker) l.fn.workers.items;
  room : vec_len l.said + length l.left.items ≤ vec_capacity l.said;
  sits : AreSeats l.shared l.seats;
  each : All (λ worker. AreSeats l.shared worker.seats) l.left.items;
}

abbrev pub decreases-loop-worker : goal.decreases-loop-worker
decreases-loop-worker g l = length l.left.items
