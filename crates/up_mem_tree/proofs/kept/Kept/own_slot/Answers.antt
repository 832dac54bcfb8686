use Rattle.up_mem_tree.proofs.kept.Kept.own_slot.Goals as goal

pub returns : goal.returns
returns c = c.slot_with.ensures c.args.path.now c.id_of.ensures
