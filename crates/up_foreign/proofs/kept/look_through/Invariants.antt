use Rattle.up_foreign.proofs.KeptLemmas.{Looking}
use Rattle.up_foreign.proofs.kept.look_through.Given as goal

-- the groups from the first place up to the next were looked at
abbrev pub invariant-loop : goal.invariant-loop
invariant-loop g l = Looking (g.F.Facts.tree l.facts) l.loaded l.from l.fn.met l.fn.names l.next l.met l.names
