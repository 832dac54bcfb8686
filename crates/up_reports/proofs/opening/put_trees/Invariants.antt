use Rattle.std.proofs.Common.{◌≡◌, ◌+◌, ◌++◌, length, map}
use Rattle.std.specs.List.{AllByRecursion}
use Rattle.up_reports.proofs.opening.put_trees.Given as goal
use Rattle.up_reports.specs.Opens.{LeavesTree, disk_of}

abbrev pub invariant-loop-state : goal.invariant-loop-state
invariant-loop-state g l = record {
  disks : l.disks.disks ++ map disk_of l.left.items ≡ l.fn.disks.disks ++ map disk_of l.fn.trees.items;
  safe : AllByRecursion (LeavesTree g.D.Disk) l.left.items → AllByRecursion (LeavesTree g.D.Disk) l.fn.trees.items;
  spare : l.disks.spare + length l.fn.trees.items ≡ l.fn.disks.spare + length l.left.items;
}

abbrev pub decreases-loop-state : goal.decreases-loop-state
decreases-loop-state g l = length l.left.items
