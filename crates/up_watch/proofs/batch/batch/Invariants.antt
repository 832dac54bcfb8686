use Rattle.up_watch.specs.Decided.{Remembers}
use Rattle.up_watch.specs.Watching.{told}
use Rattle.up_watch.proofs.Batches.{Gathers}
use Rattle.up_watch.proofs.batch.batch.Given as goal

-- what is told of the first positions is there
abbrev pub invariant-loop-position : goal.invariant-loop-position
invariant-loop-position l = Gathers (told l.reader) l.positions l.position-index l.found.items × Remembers l.reader l.known
