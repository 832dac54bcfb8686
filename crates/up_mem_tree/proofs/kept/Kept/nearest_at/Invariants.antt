use Rattle.std.proofs.Common.{◌≡◌, ◌≤◌, ◌<◌, ◌-◌, ℕ, Some, None, length}
use Rattle.up_names.specs.PathNames.{cut}
use Rattle.up_mem_tree.specs.Kept.{slots_of}
use Rattle.up_mem_tree.specs.Slots.{path_in}
use Rattle.up_log_tree.specs.Rights.{facts_of}
use Rattle.up_log_tree.specs.Trees.{tree_at}
use Rattle.up_mem_tree.proofs.kept.Kept.nearest_at.Given as goal

abbrev pub invariant-loop-up : goal.invariant-loop-up
invariant-loop-up l =
    (l.up ≤ l.depth)
    × (l.depth ≤ length l.path.elements)
    × (path_in (slots_of l.self) l.id ≡ Some (cut (l.depth - l.up) l.path))
    × ((m : ℕ) → l.depth - l.up < m → m ≤ length l.path.elements → (facts_of l.self.owner (tree_at l.self.log.items l.n)).access (cut m l.path) ≡ None)
