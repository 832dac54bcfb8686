use Rattle.up_journal.proofs.Logs.{keeps_doubtful, keeps_safe}
use Rattle.up_keys.specs.Records.{decoded, fits}
use Rattle.up_wire.specs.Keys.{logged}
use Rattle.up_keys.proofs.keys.Keys.position.Goals as goal

pub returns-clause-safe : goal.returns-clause-safe
returns-clause-safe g c =
    rw (← c.self.view_is) (keeps_safe g.D.Disk decoded fits logged c.self.inside.journal c.self.inside.records.items c.self.invariant.keeps)

pub returns-clause-doubtful : goal.returns-clause-doubtful
returns-clause-doubtful g c =
    rw (← c.self.view_is)
    (keeps_doubtful g.D.Disk decoded fits logged c.self.inside.journal c.self.inside.records.items c.self.invariant.keeps c.len.ensures.doubtful c.len.ensures.told)
