use Rattle.std.proofs.Common.{Some}
use Rattle.up_mem_tree.proofs.Held.{releases_all, releases_then}
use Rattle.up_mem_tree.proofs.others.Others.release_rules.Goals as goal

pub loop-rule-init : goal.loop-rule-init
loop-rule-init c = releases_all (Some c.args.gone) c.args.position c.args.self.now

pub loop-rule-preserved : goal.loop-rule-preserved
loop-rule-preserved c =
    releases_then (Some c.args.gone) c.args.position c.args.self.now c.loop-rule.self c.release_items.new.self c.loop-rule.invariant c.release_items.ensures

pub returns : goal.returns
returns c = c.loop-rule.invariant
