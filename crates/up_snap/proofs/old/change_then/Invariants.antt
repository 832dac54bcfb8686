use Rattle.up_snap.proofs.OldLemmas.{IsBack}
use Rattle.up_snap.proofs.old.change_then.Given as goal

-- the change at hand is the last among so many records
abbrev pub invariant-loop-step : goal.invariant-loop-step
invariant-loop-step l = IsBack l.tree.log l.path l.n l.last
