use Rattle.std.specs.Map.{keys_of}
use Rattle.up_log_tree.specs.Trees.{tree_of}
use Rattle.up_foreign.proofs.WalkLemmas.{Walks}
use Rattle.up_foreign.proofs.items.items_from.Given as goal

abbrev pub invariant-loop : goal.invariant-loop
invariant-loop l = Walks (tree_of l.tree.log) l.looked_for l.start (keys_of l.walk.found.entries) l.walk.places.items
