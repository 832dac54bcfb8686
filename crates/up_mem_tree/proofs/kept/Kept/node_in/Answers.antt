use Rattle.up_mem_tree.proofs.Readings.{no_node}
use Rattle.up_mem_tree.proofs.kept.Kept.node_in.Goals as goal

pub returns-in-Some : goal.returns-in-Some
returns-in-Some c = λ path at. c.node_of_slot.ensures path (c.in-Some.ensures path at)

pub returns-in-None : goal.returns-in-None
returns-in-None c = λ path at. no_node c.args.self.now c.requires.stands path (c.in-None.ensures path at)
