use Rattle.up_policy.proofs.ReachedLemmas.{reached_once}
use Rattle.up_policy.proofs.laws.reached_is_one.Goals as goal

pub returns : goal.returns
returns c = reached_once
