use Rattle.std.proofs.Common.{subst, sym, ◌≤◌}
use Rattle.up_journal.specs.Logs.{KeepsLog, ResolvesLog, log_state}
use Rattle.up_journal.specs.declared.limits.Limits.{Limits}
use Rattle.up_journal.proofs.Logs.{resolves_log}
use Rattle.up_keys.specs.Records.{decoded, fits, largest_room, records_in}
use Rattle.up_wire.specs.Keys.{logged}
use Rattle.up_keys.proofs.keys.Keys.resolve.Given.{Over}
use Rattle.up_keys.proofs.keys.Keys.resolve.Goals as goal

after : (g : Over) (c : goal.After-resolve g) → KeepsLog g.D.Disk decoded fits logged c.resolve.new.self c.self.inside.records.items
    × ResolvesLog g.D.Disk records_in (log_state decoded c.self.inside.journal c.self.inside.records.items) (log_state decoded c.resolve.new.self c.self.inside.records.items) c.resolve.result
after g c =
    let e = c.resolve.ensures in
    resolves_log g.D.Disk decoded fits logged c.resolve.result c.self.inside.journal c.resolve.new.self c.self.inside.records.items c.self.invariant.keeps e.sizes e.log e.limits e.settled e.refused e.told e.crash

pub returns-clause-resolves : goal.returns-clause-resolves
returns-clause-resolves g c = rw (← c.self.view_is) (after g c).1

pub invariant_of-self : goal.invariant_of-self
invariant_of-self g c = record {
  keeps = (after g c).0;
  fitting = c.self.invariant.fitting;
  last_are = c.self.invariant.last_are;
  room = subst (λ (l : Limits). largest_room ≤ l.largest) (sym c.resolve.ensures.limits) c.self.invariant.room;
}
