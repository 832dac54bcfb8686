-- what is held from here on is held from the start on
use Rattle.std.proofs.Common.{◌≡◌, ◌+◌, [], length}
use Rattle.up_client.specs.Putting.{pieces_of, storing}
use Rattle.up_client.proofs.Fetching.{GoesOn}
use Rattle.up_client.proofs.putting.store_all.Given as goal

abbrev pub invariant-loop-rest : goal.invariant-loop-rest
invariant-loop-rest g l = record {
  left : l.offset + length l.rest ≡ length l.bytes;
  on : GoesOn g.A.Ask (storing 0 (pieces_of l.bytes) []) l.fn.ask (storing l.offset (pieces_of l.rest) l.blocks.items) l.ask;
}

abbrev pub decreases-loop-rest : goal.decreases-loop-rest
decreases-loop-rest g l = length l.rest
