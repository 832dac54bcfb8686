use Rattle.std.proofs.Common.{◌≡◌, take}
use Rattle.std.specs.Map.{keys_of}
use Rattle.up_log_tree.specs.Snapshots.{snapshots_of}
use Rattle.up_snap.specs.Firsts.{least_to}
use Rattle.up_snap.proofs.standing.first_above.Given as goal

-- the first among those that were looked at
abbrev pub invariant-loop-i : goal.invariant-loop-i
invariant-loop-i l = l.first ≡ least_to l.snap_user l.tree.log l.path (take l.i (keys_of (snapshots_of l.tree.log)))
