use Rattle.up_foreign.proofs.KeptLemmas.{needed_goes_on}
use Rattle.up_foreign.proofs.laws.needed_goes_on.Goals as goal

pub returns : goal.returns
returns c = needed_goes_on
