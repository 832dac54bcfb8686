use Rattle.up_entry.specs.Spelling as spelling
use Rattle.up_journal.proofs.Logs.{keeps_doubtful, keeps_safe}
use Rattle.up_log_tree.specs.Fits.{fits}
use Rattle.up_tree.specs.States.{record_in}
use Rattle.up_tree.proofs.state.TreeState.recall.Goals as goal

pub returns-clause-safe : goal.returns-clause-safe
returns-clause-safe g c =
    let i = c.self.inside in
    rw (← c.self.view_is) (keeps_safe g.D.Disk record_in (fits i.tree.owner) spelling.rec i.journal i.tree.log c.self.invariant.keeps)

pub returns-clause-doubtful : goal.returns-clause-doubtful
returns-clause-doubtful g c =
    let i = c.self.inside in
    rw (← c.self.view_is) (keeps_doubtful g.D.Disk record_in (fits i.tree.owner) spelling.rec i.journal i.tree.log c.self.invariant.keeps c.len-records.ensures.doubtful c.len-records.ensures.told)
