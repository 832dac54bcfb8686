use Rattle.std.proofs.Common.{◌≡◌, map, take}
use Rattle.up_log_tree.specs.Trees.{tree_of}
use Rattle.up_list.specs.Entries.{entries_in}
use Rattle.up_list.specs.Founds.{entry_found}
use Rattle.up_list.proofs.view.items_of.Given as goal

-- the first items are there
abbrev pub invariant-loop-i : goal.invariant-loop-i
invariant-loop-i l = map entry_found l.items.items ≡ take l.i (entries_in (tree_of l.tree.log) l.dir)
