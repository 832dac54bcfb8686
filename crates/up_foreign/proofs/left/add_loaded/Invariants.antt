use Rattle.up_foreign.specs.Reaching.{KeepsLeft}
use Rattle.up_foreign.proofs.LeftLemmas.{HaveReadOnes}
use Rattle.up_foreign.proofs.left.add_loaded.Given as goal

-- those that the first loaded texts name were added
abbrev pub invariant-loop-i : goal.invariant-loop-i
invariant-loop-i l = KeepsLeft l.fn.groups.entries l.groups.entries × HaveReadOnes l.owner l.loaded l.groups.entries l.i
