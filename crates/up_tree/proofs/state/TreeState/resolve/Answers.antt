use Rattle.std.proofs.Common.{refl, sym, ◌∙◌}
use Rattle.up_entry.specs.Spelling as spelling
use Rattle.up_journal.specs.Logs.{KeepsLog, ResolvesLog, log_state}
use Rattle.up_journal.proofs.Logs.{resolves_log}
use Rattle.up_log_tree.specs.Fits.{fits}
use Rattle.up_tree.specs.States.{record_in, records_in}
use Rattle.up_tree.proofs.state.TreeState.resolve.Given.{Over}
use Rattle.up_tree.proofs.state.TreeState.resolve.Goals as goal

after : (g : Over) (c : goal.After-resolve g) → KeepsLog g.D.Disk record_in (fits c.self.inside.tree.owner) spelling.rec c.resolve.new.self c.self.inside.tree.log
    × ResolvesLog g.D.Disk (records_in c.self.inside.tree.owner) (log_state record_in c.self.inside.journal c.self.inside.tree.log) (log_state record_in c.resolve.new.self c.self.inside.tree.log) c.resolve.result
after g c =
    let e = c.resolve.ensures in
    let i = c.self.inside in
    resolves_log g.D.Disk record_in (fits i.tree.owner) spelling.rec c.resolve.result i.journal c.resolve.new.self i.tree.log c.self.invariant.keeps e.sizes e.log e.limits e.settled e.refused e.told e.crash

pub returns-clause-resolves : goal.returns-clause-resolves
returns-clause-resolves g c = rw (← c.self.view_is) (record { resolved = (after g c).1; owner = refl })

pub invariant_of-self : goal.invariant_of-self
invariant_of-self g c = record { keeps = (after g c).0; limits_are = c.self.invariant.limits_are ∙ sym c.resolve.ensures.limits }
