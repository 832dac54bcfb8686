use Rattle.up_storm.proofs.PreparingLemmas.{IsAdding}
use Rattle.up_storm.proofs.preparing.add_sessions.Given as goal

-- so many sessions are prepared
abbrev pub invariant-loop-k : goal.invariant-loop-k
invariant-loop-k l = IsAdding l.sessions l.fn.calls.items l.k l.calls.items
