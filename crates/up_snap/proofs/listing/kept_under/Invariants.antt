use Rattle.std.proofs.Common.{◌≡◌, filter, map, take}
use Rattle.std.specs.List.{filter_map}
use Rattle.up_list.specs.Founds.{entry_found}
use Rattle.up_mem_tree.specs.Slots.{named_paths}
use Rattle.up_log_tree.specs.Trees.{is_parent}
use Rattle.up_snap.specs.Listed.{kept_entry}
use Rattle.up_snap.proofs.listing.kept_under.Given as goal

-- what was made of the first paths
abbrev pub invariant-loop-i : goal.invariant-loop-i
invariant-loop-i l = map entry_found l.items.items ≡ filter_map (kept_entry l.tree.log l.dir l.n) (take l.i (filter (is_parent l.old) (named_paths l.tree.log)))
