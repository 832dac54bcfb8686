use Rattle.std.proofs.Common.{◌≡◌, ◌++◌, drop}
use Rattle.up_storm.specs.Telling.{sessions_text}
use Rattle.up_storm.proofs.telling.say_sessions.Given as goal

-- what is said and what is left make the whole
abbrev pub invariant-loop-k : goal.invariant-loop-k
invariant-loop-k l = l.out.items ++ sessions_text l.k (drop l.k l.said) ≡ l.fn.out.items ++ sessions_text 0 l.said
