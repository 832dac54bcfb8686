use Rattle.std.proofs.Common.{◌≡◌, ◌++◌, filter, take}
use Rattle.std.specs.Map.{keys_of}
use Rattle.up_log_tree.specs.Trees.{children, tree_of}
use Rattle.up_foreign.specs.Items.{wanted}
use Rattle.up_foreign.specs.Walks.{noted}
use Rattle.up_foreign.proofs.items.look_into.Given as goal

-- the first children are noted
abbrev pub invariant-loop-i : goal.invariant-loop-i
invariant-loop-i l =
    (keys_of l.walk.found.entries ≡ noted (keys_of l.fn.walk.found.entries) (filter (wanted l.looked_for) (take l.i (children (tree_of l.tree.log) l.dir))))
    × (l.walk.places.items ≡ l.fn.walk.places.items ++ filter (wanted l.looked_for) (take l.i (children (tree_of l.tree.log) l.dir)))
