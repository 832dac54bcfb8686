use Rattle.std.proofs.Common.{◌∙◌}
use Rattle.up_mem_tree.proofs.Grouped.{next_changed, next_same}
use Rattle.up_mem_tree.proofs.groups.next_group_change.Goals as goal

pub returns-then-changes_group : goal.returns-then-changes_group
returns-then-changes_group c =
    next_changed c.args.kept.now.log.items c.args.rec.now c.len-records.result (c.len-records.ensures ∙ c.args.kept.now.log.ok.0) c.changes_group.result c.changes_group.ensures c.if-changes_group.true

pub returns-else-changes_group : goal.returns-else-changes_group
returns-else-changes_group c =
    next_same c.args.kept.now.log.items c.args.rec.now c.len-records.result (c.len-records.ensures ∙ c.args.kept.now.log.ok.0) c.changes_group.result c.changes_group.ensures c.group_change_at.result c.group_change_at.ensures c.if-changes_group.false
