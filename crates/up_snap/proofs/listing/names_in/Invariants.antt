use Rattle.std.proofs.Common.{take}
use Rattle.std.specs.Map.{keys_of}
use Rattle.up_log_tree.specs.Snapshots.{snapshots_of}
use Rattle.up_snap.specs.Listed.{IsNaming}
use Rattle.up_snap.proofs.listing.names_in.Given as goal

-- the names by the first moments
abbrev pub invariant-loop-i : goal.invariant-loop-i
invariant-loop-i l = IsNaming l.snap_user l.tree.log l.dir (take l.i (keys_of (snapshots_of l.tree.log))) l.names.entries
