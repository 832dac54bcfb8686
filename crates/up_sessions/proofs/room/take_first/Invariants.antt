use Rattle.std.proofs.Common.{◌≡◌, ◌+◌, drop, take}
use Rattle.up_sessions.proofs.room.take_first.Given as goal

abbrev pub invariant-loop-taken : goal.invariant-loop-taken
invariant-loop-taken g l = record {
  given : l.given.disks ≡ take l._taken l.fn.free.disks;
  left : l.free.disks ≡ drop l._taken l.fn.free.disks;
  spare : l.free.spare ≡ l.fn.free.spare + l._taken;
}
