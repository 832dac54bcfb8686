use Rattle.up_mem_tree.proofs.LogLaws.{sequences}
use Rattle.up_mem_tree.proofs.laws.sequences_are_positions.Goals as goal

pub returns : goal.returns
returns c = sequences
