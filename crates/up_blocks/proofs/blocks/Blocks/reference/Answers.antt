use Rattle.std.proofs.Common.{ap, ◌∙◌, slice_get}
use Rattle.up_blocks.specs.Kept.{block_of, log_seen}
use Rattle.up_blocks.specs.Records.{blocks_of}
use Rattle.up_maps.proofs.Numbered.{numbers_keys}
use Rattle.up_blocks.proofs.blocks.Blocks.reference.Goals as goal

pub returns : goal.returns
returns g c =
    let i = c.self.inside in
    let log = log_seen i.journal.log i.index.records.items in
    rw (← c.self.view_is) (c.key_at.ensures ∙ ap (λ ks. slice_get ks c.args.i) (numbers_keys block_of log i.index.numbers.entries (blocks_of log) c.self.invariant.index.held))
