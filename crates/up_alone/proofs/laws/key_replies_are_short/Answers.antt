use Rattle.up_alone.proofs.CallLemmas.{key_replies_are_short}
use Rattle.up_alone.proofs.laws.key_replies_are_short.Goals as goal

pub returns : goal.returns
returns c = key_replies_are_short
