use Rattle.up_foreign.proofs.LeftLemmas.{AreSoon}
use Rattle.up_foreign.proofs.left.soonest.Given as goal

-- of the first groups
abbrev pub invariant-loop-i : goal.invariant-loop-i
invariant-loop-i l = AreSoon l.groups.entries l.i l.soon
