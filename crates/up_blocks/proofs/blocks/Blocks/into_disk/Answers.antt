use Rattle.up_blocks.proofs.Stored.{safe_at}
use Rattle.up_blocks.proofs.blocks.Blocks.into_disk.Goals as goal

pub returns-clause-safe : goal.returns-clause-safe
returns-clause-safe g c =
    rw (c.into_disk.ensures.disk, ← c.self.view_is) (safe_at g.D.Disk c.self.inside.journal c.self.inside.index.records.items c.self.inside.journal.log c.self.invariant.keeps)
