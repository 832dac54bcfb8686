use Rattle.std.proofs.Common.{◌≡◌, length}
use Rattle.up_ends.specs.Writing.{Going}
use Rattle.up_ends.proofs.whole.write_all.Given as goal

-- what was written so far, and no write has failed
abbrev pub invariant-loop-rest : goal.invariant-loop-rest
invariant-loop-rest g l =
    Going (g.K.Sink.held l.fn.sink) (g.K.Sink.held l.sink) l.rest l.fn.piece
    × (g.K.Sink.faults l.sink ≡ g.K.Sink.faults l.fn.sink)

abbrev pub decreases-loop-rest : goal.decreases-loop-rest
decreases-loop-rest g l = length l.rest
