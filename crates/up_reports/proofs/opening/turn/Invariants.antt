use Rattle.std.proofs.Common.{◌≡◌, ◌++◌, drop, length, take}
use Rattle.up_reports.proofs.opening.turn.Given as goal

abbrev pub invariant-loop-turn : goal.invariant-loop-turn
invariant-loop-turn g l = record {
  disks : l.disks.disks ≡ drop l._turn l.fn.disks.disks ++ take l._turn l.fn.disks.disks;
  many : length l.disks.disks ≡ length l.fn.disks.disks;
  spare : l.disks.spare ≡ l.fn.disks.spare;
}
