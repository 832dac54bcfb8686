use Rattle.up_foreign.proofs.KeptLemmas.{looking_all, looking_next, looking_none}
use Rattle.up_foreign.proofs.kept.look_through.Goals as goal

pub loop-init : goal.loop-init
loop-init g c = looking_none (g.F.Facts.tree c.args.facts.now) c.args.loaded.now c.args.from c.args.met.now c.args.names.now

pub loop-preserved : goal.loop-preserved
loop-preserved g c =
    looking_next (g.F.Facts.tree c.args.facts.now) c.args.loaded.now c.args.from c.args.met.now c.args.names.now c.loop.next c.loop.met c.loop.names c.add_groups.new.self c.add_wanted.new.names c.in-Some.group.now c.items_in-items.result.now
    c.loop.invariant c.in-Some.ensures.group c.in_ok-add_wanted.ensures c.items_in-items.ensures c.in_ok-add_groups.ensures

pub returns-in_default-clause-added : goal.returns-in_default-clause-added
returns-in_default-clause-added g c = λ path h.
    looking_all (g.F.Facts.tree c.args.facts.now) c.args.loaded.now (g.F.Facts.group_paths c.args.facts.now) (g.met.F.Facts.groups_listed c.args.facts.now) c.args.from c.args.met.now c.args.names.now c.loop.next c.loop.met c.loop.names
    c.loop.invariant c.in_default.ensures.group path h
