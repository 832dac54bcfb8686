use Rattle.std.proofs.Common.{arith, subst}
use Rattle.up_policy.specs.Members.{groups_in}
use Rattle.up_mem_tree.specs.Others.{HasOthers, is_foreign, named_by}
use Rattle.up_mem_tree.proofs.Othered.{none_tested, rules_all, rules_next}
use Rattle.up_mem_tree.proofs.Held.{grows_all, grows_then}
use Rattle.up_mem_tree.proofs.others.add_rules.Goals as goal

pub loop-rule-init : goal.loop-rule-init
loop-rule-init c = (grows_all c.args.others.now, none_tested (is_foreign c.args.owner.now) (named_by c.args.others.now c.args.position))

-- one rule more
pub loop-rule-preserved : goal.loop-rule-preserved
loop-rule-preserved c = (
  grows_then c.args.others.now c.loop-rule.others c.add_items.new.others c.loop-rule.invariant.0 c.add_items.ensures.kept,
  rules_next (is_foreign c.args.owner.now) c.args.rules.now c.loop-rule.rule-index c.rule-item.result c.loop-rule-test.true c.rule-item.is (named_by c.loop-rule.others c.args.position) (named_by c.add_items.new.others c.args.position) (c.add_items.ensures.kept.by c.args.position)
      c.loop-rule.invariant.1
      (subst (λ xs. HasOthers c.args.owner.now (named_by c.add_items.new.others c.args.position) (groups_in xs)) c.as_slice.ensures c.in_ok-add_items.ensures.added),
)

pub returns-in_err-add_items-clause-kept : goal.returns-in_err-add_items-clause-kept
returns-in_err-add_items-clause-kept c = grows_then c.args.others.now c.loop-rule.others c.add_items.new.others c.loop-rule.invariant.0 c.add_items.ensures.kept

-- all of them
pub returns-clause-added : goal.returns-clause-added
returns-clause-added c = rules_all (is_foreign c.args.owner.now) c.args.rules.now c.loop-rule.rule-index (named_by c.loop-rule.others c.args.position) (omega (arith, c.loop-rule-test.false)) c.loop-rule.invariant.1
