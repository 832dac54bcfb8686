use Rattle.up_mem_tree.proofs.Held.{unnumbered}
use Rattle.up_mem_tree.proofs.others.Others.number_of.Goals as goal

pub add-requires : goal.add-requires
add-requires c = unnumbered c.args.self.now c.args.group.now c.in_ok-copy-in-None.copy c.number.result c.in-None.is c.number.ensures c.in_ok-copy-in-None.ensures.cases
