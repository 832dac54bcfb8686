use Rattle.std.proofs.Common.{◌≡◌, ◌≤◌, ◌+◌, false, length}
use Rattle.std.specs.List.{AllByRecursion}
use Rattle.std.specs.Prelude.{vec_capacity, vec_len}
use Rattle.up_host.proofs.OpeningLemmas.{SoFar}
use Rattle.up_host.proofs.opening.open_trees.Given as goal
use Rattle.up_policy.specs.Trees.{owns_snapshots}

abbrev pub invariant-loop-owner : goal.invariant-loop-owner
invariant-loop-owner g l = record {
  so_far : SoFar g.D.Disk l.fn.limits l.fn.owners l.fn.room.disks l.room.disks l.left.items l.trees.items;
  plain : AllByRecursion (λ owner. owns_snapshots owner ≡ false) l.left.items;
  room : vec_len l.trees + length l.left.items ≤ vec_capacity l.trees;
  disks : length l.left.items ≤ length l.room.disks;
  spare : l.room.spare + length l.room.disks ≡ l.fn.room.spare + length l.fn.room.disks;
}

abbrev pub decreases-loop-owner : goal.decreases-loop-owner
decreases-loop-owner g l = length l.left.items
