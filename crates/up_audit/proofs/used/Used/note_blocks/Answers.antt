use Rattle.std.proofs.Common.{arith}
use Rattle.up_audit.proofs.NoteLemmas.{blocks_all, blocks_next, notes_none}
use Rattle.up_audit.proofs.used.Used.note_blocks.Goals as goal

pub loop-block-init : goal.loop-block-init
loop-block-init c = notes_none c.args.self.now.noted.entries

pub loop-block-preserved : goal.loop-block-preserved
loop-block-preserved c = blocks_next c.args.blocks.now c.loop-block.block-index c.block-item.result (omega arith) c.block-item.is c.loop-block.invariant c.in_ok-note_block.ensures

pub returns : goal.returns
returns c = blocks_all c.args.blocks.now c.loop-block.block-index (omega arith) c.loop-block.invariant
