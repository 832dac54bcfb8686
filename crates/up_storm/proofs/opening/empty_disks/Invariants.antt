use Rattle.std.proofs.Common.{◌≡◌, length}
use Rattle.std.specs.List.{AllByRecursion}
use Rattle.up_disk.specs.contracts.memory.MemDiskDisk.TheImpl as memory
use Rattle.up_disk.specs.Leaving.{IsBlank}
use Rattle.up_storm.proofs.opening.empty_disks.Given as goal

-- so many disks, each of them blank
abbrev pub invariant-loop-made : goal.invariant-loop-made
invariant-loop-made l = record {
  count : length l.disks.disks ≡ l.made;
  blank : AllByRecursion (IsBlank memory.ghosts) l.disks.disks;
}
