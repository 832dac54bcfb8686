use Rattle.std.proofs.Common.{arith}
use Rattle.up_share.proofs.LoopLemmas.{starts_step}
use Rattle.up_share.proofs.search.meet_granted.Goals as goal

pub loop-rule-preserved : goal.loop-rule-preserved
loop-rule-preserved c = starts_step c.loop-rule.met c.meet_granted_by.new.met _ c.args.rules.now c.loop-rule.rule-index c.rule-item.result (omega arith) c.rule-item.is c.in_ok-meet_granted_by.ensures c.loop-rule.invariant
