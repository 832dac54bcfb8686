use Rattle.up_shared.proofs.Halves.{Joining}
use Rattle.up_shared.proofs.splitting.join_trees.Given as goal

-- so many were joined
abbrev pub invariant-loop-i : goal.invariant-loop-i
invariant-loop-i g l = Joining l.i l.fn.seats.items l.fn.others.items l.left.items l.seats.items
