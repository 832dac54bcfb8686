use Rattle.std.proofs.Common.{◌≡◌, drop}
use Rattle.up_share.proofs.LoopLemmas.{with_starts}
use Rattle.up_share.proofs.search.meet_granted.Given as goal

-- the groups of the rules that are left give what those of all rules give
abbrev pub invariant-loop-rule : goal.invariant-loop-rule
invariant-loop-rule l = with_starts l.met (drop l.rule-index l.rules) ≡ with_starts l.fn.met l.rules
