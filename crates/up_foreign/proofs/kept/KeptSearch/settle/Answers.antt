use Rattle.std.proofs.Common.{refl, sym, ◌∙◌}
use Rattle.up_foreign.proofs.KeptLemmas.{goes_next, goes_self}
use Rattle.up_foreign.proofs.kept.KeptSearch.settle.Goals as goal

pub loop-init : goal.loop-init
loop-init g c = record {
  records = refl;
  path = refl;
  goes = goes_self (g.F.Facts.tree c.args.facts.now) c.args.loaded.now c.args.self.now.next c.args.self.now.met;
}

pub loop-preserved : goal.loop-preserved
loop-preserved g c = record {
  records = c.loop.invariant.records;
  path = c.loop.invariant.path;
  goes = goes_next (g.F.Facts.tree c.args.facts.now) c.args.loaded.now c.args.self.now.next c.args.self.now.met c.loop.self.next c.loop.self.met c.add_groups.new.self c.in-Some.group.now c.items_in-items.result.now
      c.loop.invariant.goes c.in-Some.ensures.group (sym c.is_wanted.ensures ∙ c.if-is_wanted.false) c.items_in-items.ensures c.in_ok-add_groups.ensures;
}
