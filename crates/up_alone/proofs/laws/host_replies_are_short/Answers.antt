use Rattle.up_alone.proofs.CallLemmas.{host_replies_are_short}
use Rattle.up_alone.proofs.laws.host_replies_are_short.Goals as goal

pub returns : goal.returns
returns c = host_replies_are_short
