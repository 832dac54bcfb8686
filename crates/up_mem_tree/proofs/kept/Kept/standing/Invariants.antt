use Rattle.std.proofs.Common.{◌≡◌, ◌≤◌, ◌-◌, Some, length}
use Rattle.up_names.specs.PathNames.{cut}
use Rattle.up_log_tree.specs.Trees.{tree_of}
use Rattle.up_mem_tree.specs.Kept.{slots_of}
use Rattle.up_mem_tree.specs.Slots.{path_in}
use Rattle.up_mem_tree.proofs.Standings.{NoneAbove}
use Rattle.up_mem_tree.proofs.kept.Kept.standing.Given as goal

abbrev pub invariant-loop-up : goal.invariant-loop-up
invariant-loop-up l =
    (l._up ≤ l.depth)
    × (l.depth ≤ length l.path.elements)
    × (path_in (slots_of l.self) l.id ≡ Some (cut (l.depth - l._up) l.path))
    × NoneAbove (tree_of l.self.log.items) l.path (l.depth - l._up)
