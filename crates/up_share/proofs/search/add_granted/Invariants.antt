use Rattle.std.proofs.Common.{◌≡◌, drop}
use Rattle.up_share.proofs.LoopLemmas.{with_granted}
use Rattle.up_share.proofs.search.add_granted.Given as goal

-- the rules that are left give what all give
abbrev pub invariant-loop-rule : goal.invariant-loop-rule
invariant-loop-rule l = with_granted l.readers.entries (drop l.rule-index l.rules) ≡ with_granted l.fn.readers.entries l.rules
