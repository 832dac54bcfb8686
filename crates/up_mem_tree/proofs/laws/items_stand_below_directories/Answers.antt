use Rattle.up_mem_tree.proofs.LogLaws.{below}
use Rattle.up_mem_tree.proofs.laws.items_stand_below_directories.Goals as goal

pub returns : goal.returns
returns c = below
