use Rattle.std.proofs.Common.{◌≡◌, map, take}
use Rattle.std.specs.List.{flat_map}
use Rattle.std.specs.Map.{keys_of}
use Rattle.up_policy.specs.Reached.{with_paths}
use Rattle.up_log_tree.specs.Trees.{tree_of}
use Rattle.up_foreign.specs.Foreign.{in_tree, needed_in}
use Rattle.up_foreign.specs.Noted.{AreNoted}
use Rattle.up_foreign.proofs.needed.note_each.Given as goal

-- what is needed at the first paths is noted
abbrev pub invariant-loop-i : goal.invariant-loop-i
invariant-loop-i l =
    AreNoted l.tree l.loaded l.noted l.names
    × (l.names ≡ with_paths l.fn.names (flat_map (needed_in l.tree.owner l.loaded) (map (in_tree (tree_of l.tree.log)) (take l.i (keys_of l.paths.entries)))))
