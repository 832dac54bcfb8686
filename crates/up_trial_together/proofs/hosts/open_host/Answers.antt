use Rattle.up_trial_together.proofs.Names.{owners_differ}
use Rattle.up_trial_together.proofs.hosts.open_host.Goals as goal

pub open-requires-clause-owners : goal.open-requires-clause-owners
open-requires-clause-owners c = owners_differ c.in-Ok.owners c.in-Ok.ensures
