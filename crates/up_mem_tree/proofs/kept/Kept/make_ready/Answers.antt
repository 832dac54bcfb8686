use Rattle.up_mem_tree.proofs.kept.Kept.make_ready.Goals as goal

pub make_room-requires-clause-of : goal.make_room-requires-clause-of
make_room-requires-clause-of c = (c.args.rec.now, c.in_ok-step.ensures)
