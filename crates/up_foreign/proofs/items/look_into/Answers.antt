use Rattle.std.proofs.Common.{ap, sym, ◌∙◌}
use Rattle.std.specs.Map.{keys_of}
use Rattle.std.specs.Option.{option_copied}
use Rattle.up_log_tree.specs.Trees.{children, tree_of}
use Rattle.up_foreign.specs.Items.{wanted}
use Rattle.up_foreign.proofs.WalkLemmas.{found_next, places_next}
use Rattle.up_foreign.proofs.items.look_into.Goals as goal

-- one child more
pub loop-i-preserved : goal.loop-i-preserved
loop-i-preserved c =
    let there = sym (sym c.child.ensures ∙ ap option_copied c.in-Some.is) in
    let test = wanted c.args.looked_for.now in
    let kids = children (tree_of c.args.tree.now.log) c.args.dir.now in (
      found_next test kids c.loop-i.i c.in-Some.path.now (keys_of c.args.walk.now.found.entries) (keys_of c.loop-i.walk.found.entries) (keys_of c.meet.new.self.found.entries) there c.loop-i.invariant.0 c.in_ok-meet.ensures.found,
      places_next test kids c.loop-i.i c.in-Some.path.now c.args.walk.now.places.items c.loop-i.walk.places.items c.meet.new.self.places.items there c.loop-i.invariant.1 c.in_ok-meet.ensures.places,
    )
