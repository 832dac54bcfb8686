use Rattle.up_mem_tree.proofs.Grouped.{grouped_at, grouped_zero}
use Rattle.up_mem_tree.proofs.groups.group_change_at.Goals as goal

pub returns-then-n-eq0 : goal.returns-then-n-eq0
returns-then-n-eq0 c = grouped_zero c.args.kept.now.log.items c.args.n c.if-n-eq0.true

pub returns : goal.returns
returns c = grouped_at c.args.kept.now.log.items c.args.groups.now c.args.n c.requires.groups c.if-n-eq0.false c.requires.within
