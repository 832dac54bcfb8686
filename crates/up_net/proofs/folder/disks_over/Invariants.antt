use Rattle.std.proofs.Common.{◌≡◌, length}
use Rattle.up_net.proofs.folder.disks_over.Given as goal

-- a disk for each log so far
abbrev pub invariant-loop-log : goal.invariant-loop-log
invariant-loop-log l = length l.disks.disks ≡ length l.yielded
