use Rattle.std.proofs.Common.{refl, subst}
use Rattle.std.specs.List.{AllByRecursion}
use Rattle.up_blocks.specs.Kept.{log_seen}
use Rattle.up_blocks.specs.Records.{IsTold}
use Rattle.up_blocks.proofs.Given.{all_told}
use Rattle.up_blocks.proofs.Stored.{doubtful_at, safe_at}
use Rattle.up_blocks.proofs.blocks.Blocks.position.Goals as goal

pub returns-clause-safe : goal.returns-clause-safe
returns-clause-safe g c =
    rw (← c.self.view_is) (safe_at g.D.Disk c.self.inside.journal c.self.inside.index.records.items c.self.inside.journal.log c.self.invariant.keeps)

pub returns-clause-told : goal.returns-clause-told
returns-clause-told g c =
    let j = c.self.inside.journal in
    let records = c.self.inside.index.records.items in
    rw (← c.self.view_is) (subst (λ t. AllByRecursion (IsTold t) (log_seen j.log records)) c.len.ensures.told (all_told j.log records))

pub returns-clause-doubtful : goal.returns-clause-doubtful
returns-clause-doubtful g c =
    rw (← c.self.view_is)
    (doubtful_at g.D.Disk c.self.inside.journal c.self.inside.journal.log c.self.invariant.keeps c.len.ensures.doubtful c.len.ensures.told refl)
