-- what is joined so far, and behind it the pieces that are left, are all of them
use Rattle.std.proofs.Common.{◌≡◌, ◌++◌}
use Rattle.std.specs.List.{concat}
use Rattle.up_client.proofs.blocks.join.Given as goal

abbrev pub invariant-loop-piece : goal.invariant-loop-piece
invariant-loop-piece l = l.joined.items ++ concat l.piece-iterator.rest.items ≡ concat l.fn.pieces
