use Rattle.std.proofs.Common.{◌≡◌, ◌≤◌, length, Some}
use Rattle.up_names.specs.PathNames.{cut}
use Rattle.up_mem_tree.specs.Kept.{slots_of}
use Rattle.up_mem_tree.specs.Slots.{path_in}
use Rattle.up_mem_tree.proofs.kept.Kept.deepest.Given as goal

abbrev pub invariant-loop-n : goal.invariant-loop-n
invariant-loop-n l = (l.n ≤ length l.path.elements) × (path_in (slots_of l.self) l.id ≡ Some (cut l.n l.path))
