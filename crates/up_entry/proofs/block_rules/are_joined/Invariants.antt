-- the blocks are joined exactly where those that are left are, from this end on
use Rattle.std.proofs.Common.{◌≡◌, drop}
use Rattle.up_entry.specs.Rules.{are_joined}
use Rattle.up_entry.proofs.block_rules.are_joined.Given as goal

abbrev pub invariant-loop-block : goal.invariant-loop-block
invariant-loop-block l = are_joined l.end (drop l.block-index l.blocks) ≡ are_joined 0 l.blocks
