use Rattle.up_mem_tree.proofs.Grouped.{grouped_more}
use Rattle.up_mem_tree.proofs.groups.note_group.Goals as goal

pub returns : goal.returns
returns c =
    grouped_more c.args.kept.now.log.items c.args.groups.now.items c.push_reserved.new.self.items c.args.rec.now c.next_group_change-last.result c.requires.groups c.next_group_change-last.ensures c.push_reserved.ensures.items
