use Rattle.up_mem_tree.proofs.Started.{started}
use Rattle.up_mem_tree.proofs.Within.{same_stands}
use Rattle.up_mem_tree.proofs.mem_tree.made_ready.Goals as goal

pub make_room-requires-clause-stands : goal.make_room-requires-clause-stands
make_room-requires-clause-stands c = same_stands c.args.kept.now c.make_ready.new.self c.in-Ok.ensures.same c.requires.stands

pub make_room-requires-clause-start : goal.make_room-requires-clause-start
make_room-requires-clause-start c = started c.make_ready.new.self c.args.rec c.in-Ok.step c.start_of.result c.in-Ok.ensures.ready.is c.start_of.ensures
