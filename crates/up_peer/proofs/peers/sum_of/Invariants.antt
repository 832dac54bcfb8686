use Rattle.std.proofs.Common.{◌≡◌, ◌≤◌, ◌*◌, ◌^◌, ◌-◌, sum_by, take}
use Rattle.up_peer.specs.Asking.{KeptPeer}
use Rattle.up_peer.proofs.peers.sum_of.Given as goal

abbrev pub invariant-loop-row : goal.invariant-loop-row
invariant-loop-row g l = record {
  sum : l.sum ≡ sum_by (λ (kept : KeptPeer g.row.P.Denot). g.P.Peer.fault_count kept.peer) (take l.row-index l.rows);
  bound : l.sum ≤ l.row-index * (2 ^ 64 - 1);
}
