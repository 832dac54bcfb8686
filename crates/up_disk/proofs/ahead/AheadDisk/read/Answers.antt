-- What is copied was read ahead.
use Rattle.up_disk.proofs.AheadLemmas.{ahead_read}
use Rattle.up_disk.proofs.ahead.AheadDisk.read.Goals as goal

pub returns-then-gives-clause-bytes : goal.returns-then-gives-clause-bytes
returns-then-gives-clause-bytes g c = rw (← c.self.view_is) (ahead_read _ _ _ _ _ _ c.self.invariant (c.gives.ensures c.if-gives.true))
