use Rattle.up_explain_can.proofs.CanNumberLemmas.{ends_at_first}
use Rattle.up_explain_can.proofs.laws.can_ends_at_the_first.Goals as goal

pub returns : goal.returns
returns c = ends_at_first
