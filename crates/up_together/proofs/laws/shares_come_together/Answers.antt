use Rattle.up_together.proofs.HoldingLemmas.{come_together}
use Rattle.up_together.proofs.laws.shares_come_together.Goals as goal

pub returns : goal.returns
returns g c = come_together
