use Rattle.std.proofs.Common.{◌≡◌, ◌+◌, ◌++◌, length, map}
use Rattle.std.specs.List.{AllByRecursion}
use Rattle.up_host.specs.Opens.{LeavesTree, disk_of}
use Rattle.up_host.proofs.opening.put_trees.Given as goal

abbrev pub invariant-loop-held : goal.invariant-loop-held
invariant-loop-held g l = record {
  disks : l.room.disks ++ map disk_of l.left.items ≡ l.fn.room.disks ++ map disk_of l.fn.trees.items;
  safe : AllByRecursion (LeavesTree g.D.Disk) l.left.items → AllByRecursion (LeavesTree g.D.Disk) l.fn.trees.items;
  spare : l.room.spare + length l.fn.trees.items ≡ l.fn.room.spare + length l.left.items;
}

abbrev pub decreases-loop-held : goal.decreases-loop-held
decreases-loop-held g l = length l.left.items
