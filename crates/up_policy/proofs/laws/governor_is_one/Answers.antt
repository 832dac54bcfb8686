use Rattle.up_policy.proofs.GovernorLemmas.{governor_is_one}
use Rattle.up_policy.proofs.laws.governor_is_one.Goals as goal

pub returns : goal.returns
returns c = governor_is_one
