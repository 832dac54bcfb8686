use Rattle.std.proofs.Common.{◌≡◌, ◌≤◌, ◌-◌, ◌+◌, Some, length}
use Rattle.up_names.specs.PathNames.{cut}
use Rattle.up_mem_tree.specs.Kept.{slots_of}
use Rattle.up_mem_tree.specs.Slots.{path_in}
use Rattle.up_mem_tree.specs.ChangesBelow.{HasRoomFrom, noted_all}
use Rattle.up_mem_tree.proofs.changes_below.reserve_way.Given as goal

abbrev pub invariant-loop-up : goal.invariant-loop-up
invariant-loop-up l =
    (l._up ≤ l.depth)
    × (l.depth ≤ length l.path.elements)
    × (path_in (slots_of l.kept) l.id ≡ Some (cut (l.depth - l._up) l.path))
    × (noted_all l.changes_below.items ≡ noted_all l.initial.changes_below.items)
    × HasRoomFrom l.changes_below.items (slots_of l.kept) l.path (l.depth - l._up + 1)
