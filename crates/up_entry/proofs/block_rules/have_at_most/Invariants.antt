-- what is left is what the blocks so far do not have
use Rattle.std.proofs.Common.{◌≡◌, ◌+◌, take}
use Rattle.std.specs.List.{sum_by}
use Rattle.up_entry.specs.declared.entries.Block.{Block}
use Rattle.up_entry.proofs.block_rules.have_at_most.Given as goal

abbrev pub invariant-loop-block : goal.invariant-loop-block
invariant-loop-block l = l.left + sum_by (λ (block : Block). block.size) (take l.block-index l.blocks) ≡ l.bytes
