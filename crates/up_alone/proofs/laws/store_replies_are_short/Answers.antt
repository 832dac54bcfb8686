use Rattle.up_alone.proofs.CallLemmas.{store_replies_are_short}
use Rattle.up_alone.proofs.laws.store_replies_are_short.Goals as goal

pub returns : goal.returns
returns c = store_replies_are_short
