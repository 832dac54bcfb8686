use Rattle.std.proofs.Common.{◌≡◌, take}
use Rattle.up_tree.proofs.old.enter_first.Given as goal

abbrev pub invariant-loop-i : goal.invariant-loop-i
invariant-loop-i l = (l.old.owner ≡ l.tree.owner) × (l.old.log ≡ take l.i l.tree.log)
