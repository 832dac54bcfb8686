use Rattle.std.proofs.Common.{◌-◌, length}
use Rattle.up_answers.specs.SnapshotTrees.{snapshots_to}
use Rattle.up_snap.proofs.LookLemmas.{IsWay}
use Rattle.up_snap.proofs.look.item_above.Given as goal

abbrev pub invariant-loop-low : goal.invariant-loop-low
invariant-loop-low l = IsWay (snapshots_to l.tree.owner l.tree.log (length l.tree.log)) l.path l.low l.high

abbrev pub decreases-loop-low : goal.decreases-loop-low
decreases-loop-low l = l.high - l.low
