use Rattle.up_entry.specs.Spelling as spelling
use Rattle.up_journal.proofs.Logs.{keeps_safe}
use Rattle.up_log_tree.specs.Fits.{fits}
use Rattle.up_tree.specs.States.{record_in}
use Rattle.up_tree.proofs.state.TreeState.into_disk.Goals as goal

pub returns-clause-safe : goal.returns-clause-safe
returns-clause-safe g c =
    let i = c.self.inside in
    rw (c.into_disk.ensures.disk, ← c.self.view_is) (keeps_safe g.D.Disk record_in (fits i.tree.owner) spelling.rec i.journal i.tree.log c.self.invariant.keeps)
