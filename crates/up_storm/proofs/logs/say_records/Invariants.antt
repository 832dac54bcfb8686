use Rattle.std.proofs.Common.{◌≡◌, ◌++◌, drop}
use Rattle.up_storm.specs.Telling.{records_text}
use Rattle.up_storm.proofs.logs.say_records.Given as goal

-- what is said and what is left make the whole
abbrev pub invariant-loop-n : goal.invariant-loop-n
invariant-loop-n g l = l.out.items ++ records_text l.n (drop l.n l.state.log) ≡ l.fn.out.items ++ records_text 0 l.state.log
