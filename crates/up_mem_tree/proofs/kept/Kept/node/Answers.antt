use Rattle.up_mem_tree.proofs.Readings.{no_node}
use Rattle.up_mem_tree.proofs.kept.Kept.node.Goals as goal

pub returns-in-Some : goal.returns-in-Some
returns-in-Some c = c.node_of_slot.ensures c.args.path.now c.in-Some.ensures

pub returns-in-None : goal.returns-in-None
returns-in-None c = no_node c.args.self.now c.requires c.args.path.now c.in-None.ensures
