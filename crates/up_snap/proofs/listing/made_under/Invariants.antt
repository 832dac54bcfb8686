use Rattle.std.proofs.Common.{◌≡◌, length, map, take}
use Rattle.std.specs.List.{filter_map}
use Rattle.std.specs.Map.{keys_of}
use Rattle.up_answers.specs.SnapshotTrees.{snapshots_to}
use Rattle.up_list.specs.Entries.{entry_at}
use Rattle.up_list.specs.Founds.{entry_found}
use Rattle.up_snap.proofs.listing.made_under.Given as goal

-- what stands at the first names
abbrev pub invariant-loop-i : goal.invariant-loop-i
invariant-loop-i l = map entry_found l.items.items ≡ filter_map (entry_at (snapshots_to l.tree.owner l.tree.log (length l.tree.log))) (take l.i (keys_of l.names.entries))
