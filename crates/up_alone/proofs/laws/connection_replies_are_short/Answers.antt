use Rattle.up_alone.proofs.CallLemmas.{connection_replies_are_short}
use Rattle.up_alone.proofs.laws.connection_replies_are_short.Goals as goal

pub returns : goal.returns
returns g c = connection_replies_are_short g.D.Disk g.L.Loader
