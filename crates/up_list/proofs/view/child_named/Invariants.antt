use Rattle.std.proofs.Common.{◌≡◌, None, length, take}
use Rattle.std.specs.Prelude.{find}
use Rattle.up_log_tree.specs.Trees.{tree_of}
use Rattle.up_list.specs.Entries.{entries_in}
use Rattle.up_list.specs.Seen.{has_name}
use Rattle.up_list.proofs.view.child_named.Given as goal

-- none of the first items has the name
abbrev pub invariant-loop-i : goal.invariant-loop-i
invariant-loop-i l = find (has_name (length l.dir.elements) l.name) (take l.i (entries_in (tree_of l.tree.log) l.dir)) ≡ None
