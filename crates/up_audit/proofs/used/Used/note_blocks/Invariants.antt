-- The references of the blocks gone through were noted.
use Rattle.std.proofs.Common.{take}
use Rattle.up_audit.proofs.NoteLemmas.{block_references}
use Rattle.up_audit.proofs.used.Used.note_blocks.Given as goal
use Rattle.up_audit.specs.Marks.{Notes}

abbrev pub invariant-loop-block : goal.invariant-loop-block
invariant-loop-block l = Notes l.fn.self.noted.entries l.self.noted.entries (block_references (take l.block-index l.blocks))
