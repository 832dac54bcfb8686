-- The records of the first texts are added, and these texts are left.
use Rattle.std.proofs.Common.{length}
use Rattle.up_lists.specs.Counts.{HasCause, StaysUnless}
use Rattle.up_follow.proofs.TakingLemmas.{Grows, Taking}
use Rattle.up_follow.proofs.taking.add_all.Given as goal

abbrev pub invariant-loop-text : goal.invariant-loop-text
invariant-loop-text g l = record {
  taking : Taking g.D.Disk l.fn.batch l.left l.fn.tree l.tree;
  cause : HasCause (g.D.Disk.faults l.fn.tree.disk) (g.D.Disk.faults l.tree.disk) ⊥;
  quiet : StaysUnless (g.D.Disk.faults l.fn.tree.disk) (g.D.Disk.faults l.tree.disk) ⊥;
  grows : Grows g.D.Disk l.fn.tree l.tree;
}

abbrev pub decreases-loop-text : goal.decreases-loop-text
decreases-loop-text g l = length l.left
