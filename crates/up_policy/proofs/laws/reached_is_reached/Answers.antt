use Rattle.up_policy.proofs.VerdictLemmas.{reached_whole_of}
use Rattle.up_policy.proofs.laws.reached_is_reached.Goals as goal

pub returns : goal.returns
returns c = reached_whole_of
