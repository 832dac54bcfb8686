-- the copies so far are those of the blocks so far
use Rattle.std.proofs.Common.{◌≡◌, take}
use Rattle.up_client.proofs.putting.copies_of.Given as goal

abbrev pub invariant-loop-block : goal.invariant-loop-block
invariant-loop-block l = l.copies.items ≡ take l.block-index l.blocks
