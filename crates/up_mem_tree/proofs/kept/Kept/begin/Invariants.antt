use Rattle.std.proofs.Common.{◌≤◌, length}
use Rattle.up_mem_tree.proofs.kept.Kept.begin.Given as goal

abbrev pub invariant-loop-n : goal.invariant-loop-n
invariant-loop-n l = l.n ≤ length l.path.elements

abbrev pub decreases-loop-n : goal.decreases-loop-n
decreases-loop-n l = l.n
