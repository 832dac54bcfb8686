use Rattle.up_mem_tree.proofs.Othered.{group_noted}
use Rattle.up_mem_tree.proofs.others.add_group.Goals as goal

pub returns-clause-added : goal.returns-clause-added
returns-clause-added c =
    group_noted c.args.owner.now c.note_at.result c.number_of.new.self c.note_at.new.self c.args.position c.args.group.now c.in_ok-id.id c.note_at.ensures.noted c.in_ok-id.ensures.number
