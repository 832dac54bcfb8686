use Rattle.up_policy.proofs.VerdictLemmas.{test_is_right}
use Rattle.up_policy.proofs.laws.test_is_right.Goals as goal

pub returns : goal.returns
returns c = test_is_right
