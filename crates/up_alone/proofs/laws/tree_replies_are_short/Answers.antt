use Rattle.up_alone.proofs.CallLemmas.{tree_replies_are_short}
use Rattle.up_alone.proofs.laws.tree_replies_are_short.Goals as goal

pub returns : goal.returns
returns c = tree_replies_are_short
