use Rattle.up_policy.proofs.MonotoneLemmas.{rights_are_monotone}
use Rattle.up_policy.proofs.laws.rights_are_monotone.Goals as goal

pub returns : goal.returns
returns c = rights_are_monotone
