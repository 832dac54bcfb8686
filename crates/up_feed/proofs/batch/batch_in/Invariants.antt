-- The batch so far is that of the records gone through.
use Rattle.std.proofs.Common.{◌≡◌, take, drop}
use Rattle.up_feed.proofs.batch.batch_in.Given as goal
use Rattle.up_feed.specs.Feeding.{texts_of}

abbrev pub invariant-loop-at : goal.invariant-loop-at
invariant-loop-at g l = l.batch ≡ take l.at (drop l.initial.from (texts_of l.initial.tree.log))
