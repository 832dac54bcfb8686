use Rattle.std.proofs.Common.{◌≡◌, ◌+◌, ◌++◌, length}
use Rattle.up_sessions.proofs.room.put_all.Given as goal

abbrev pub invariant-loop-disk : goal.invariant-loop-disk
invariant-loop-disk g l = record {
  disks : l.disks.disks ++ l.left.disks ≡ l.fn.disks.disks ++ l.fn.more.disks;
  spare : l.disks.spare + length l.fn.more.disks ≡ l.fn.disks.spare + length l.left.disks;
}

abbrev pub decreases-loop-disk : goal.decreases-loop-disk
decreases-loop-disk g l = length l.left.disks
