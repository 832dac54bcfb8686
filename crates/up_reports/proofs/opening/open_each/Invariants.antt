use Rattle.std.proofs.Common.{◌≡◌, ◌≤◌, ◌+◌, false, length}
use Rattle.std.specs.List.{AllByRecursion}
use Rattle.std.specs.Prelude.{vec_capacity, vec_len}
use Rattle.up_policy.specs.Trees.{owns_snapshots}
use Rattle.up_reports.proofs.OpeningLemmas.{SoFar}
use Rattle.up_reports.proofs.opening.open_each.Given as goal

abbrev pub invariant-loop-owner : goal.invariant-loop-owner
invariant-loop-owner g l = record {
  so_far : SoFar g.D.Disk l.fn.limits l.fn.owners l.fn.disks.disks l.disks.disks l.left.items l.trees.items;
  plain : AllByRecursion (λ owner. owns_snapshots owner ≡ false) l.left.items;
  room : vec_len l.trees + length l.left.items ≤ vec_capacity l.trees;
  disks : length l.left.items ≤ length l.disks.disks;
  spare : l.disks.spare + length l.disks.disks ≡ l.fn.disks.spare + length l.fn.disks.disks;
}

abbrev pub decreases-loop-owner : goal.decreases-loop-owner
decreases-loop-owner g l = length l.left.items
