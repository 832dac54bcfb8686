use Rattle.std.proofs.Common.{subst, sym, ◌∙◌, ◌≤◌}
use Rattle.up_blocks.specs.Kept.{IsIndex, Keeps, log_seen, store_state}
use Rattle.up_blocks.specs.Records.{blocks_in, fits, largest_room}
use Rattle.up_blocks.proofs.Stored.{resolved_at}
use Rattle.up_journal.specs.Logs.{EachFits, ResolvesLog}
use Rattle.up_journal.specs.declared.limits.Limits.{Limits}
use Rattle.up_blocks.proofs.blocks.Blocks.resolve.Given.{Over}
use Rattle.up_blocks.proofs.blocks.Blocks.resolve.Goals as goal
use Rattle.std.proofs.Common.{refl}

after : (g : Over) (c : goal.After-resolve g) → Keeps g.D.Disk c.resolve.new.self c.resolve.new.self.log
    × ResolvesLog g.D.Disk blocks_in (store_state c.self.inside.journal c.self.inside.journal.log c.self.inside.index.records.items) (store_state c.resolve.new.self c.resolve.new.self.log c.self.inside.index.records.items) c.resolve.result
after g c =
    let e = c.resolve.ensures in
    resolved_at g.D.Disk c.resolve.result c.self.inside.journal c.resolve.new.self c.self.inside.index.records.items c.self.inside.journal.log c.resolve.new.self.log refl refl c.self.invariant.keeps e.sizes e.log e.limits e.settled e.refused e.told e.crash

pub returns-clause-resolves : goal.returns-clause-resolves
returns-clause-resolves g c = rw (← c.self.view_is) (after g c).1

pub invariant_of-self : goal.invariant_of-self
invariant_of-self g c = record {
  sizes = c.resolve.ensures.sizes ∙ c.self.invariant.sizes;
  keeps = (after g c).0;
  fitting = subst (λ l. EachFits fits (log_seen l c.self.inside.index.records.items)) (sym c.resolve.ensures.log) c.self.invariant.fitting;
  index = subst (λ l. IsIndex (log_seen l c.self.inside.index.records.items) c.self.inside.index.records.items c.self.inside.index.numbers.entries) (sym c.resolve.ensures.log) c.self.invariant.index;
  room = subst (λ (l : Limits). largest_room ≤ l.largest) (sym c.resolve.ensures.limits) c.self.invariant.room;
}
