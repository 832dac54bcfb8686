use Rattle.std.proofs.Common.{◌≡◌, ◌++◌, drop, length, take}
use Rattle.up_host.proofs.opening.turn.Given as goal

abbrev pub invariant-loop-turn : goal.invariant-loop-turn
invariant-loop-turn g l = record {
  disks : l.room.disks ≡ drop l._turn l.fn.room.disks ++ take l._turn l.fn.room.disks;
  many : length l.room.disks ≡ length l.fn.room.disks;
  spare : l.room.spare ≡ l.fn.room.spare;
}
