use Rattle.std.proofs.Common.{arith}
use Rattle.up_policy.proofs.MetLemmas.{granted_step}
use Rattle.up_policy.proofs.met.Met.add_granted.Goals as goal

pub loop-rule-preserved : goal.loop-rule-preserved
loop-rule-preserved c = granted_step c.loop-rule.self c.add_granted_by.new.self _ c.args.right c.args.rules.now c.loop-rule.rule-index c.rule-item.result (omega arith) c.rule-item.is c.in_ok-add_granted_by.ensures c.loop-rule.invariant
