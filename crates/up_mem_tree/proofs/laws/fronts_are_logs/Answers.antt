use Rattle.up_mem_tree.proofs.LogLaws.{front}
use Rattle.up_mem_tree.proofs.laws.fronts_are_logs.Goals as goal

pub returns : goal.returns
returns c = front
