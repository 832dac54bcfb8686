-- The pieces so far were printed, and no write failed.
use Rattle.std.proofs.Common.{◌≡◌, length}
use Rattle.up_cache.proofs.Printings.{Pieces}
use Rattle.up_cache.proofs.printing.print_pieces.Given as goal

abbrev pub invariant-loop-rest : goal.invariant-loop-rest
invariant-loop-rest g l = record {
  so : Pieces (g.K.Sink.held l.fn.sink) (g.K.Sink.held l.sink) l.bytes l.rest;
  written : g.K.Sink.faults l.sink ≡ g.K.Sink.faults l.fn.sink;
}

abbrev pub decreases-loop-rest : goal.decreases-loop-rest
decreases-loop-rest g l = length l.rest
