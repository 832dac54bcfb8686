use Rattle.up_journal.proofs.Kept.{kept_safe}
use Rattle.up_journal.proofs.journal.Journal.into_disk.Goals as goal

pub returns-clause-safe : goal.returns-clause-safe
returns-clause-safe g c =
    let j = c.self.inside in
    rw (← c.self.view_is) (kept_safe g.D.Disk j.disk j.limits j.spans.items j.gate j.head j.doubtful c.self.invariant (g.met.D.Disk.sized j.disk) (g.met.D.Disk.told j.disk))
