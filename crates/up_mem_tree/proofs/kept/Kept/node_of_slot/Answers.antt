use Rattle.std.proofs.Common.{◌∙◌, ap}
use Rattle.up_log_tree.specs.Changes.{record_at}
use Rattle.up_mem_tree.specs.Nodes.{put_by}
use Rattle.up_mem_tree.proofs.Readings.{node_told}
use Rattle.up_mem_tree.proofs.kept.Kept.node_of_slot.Goals as goal

pub returns : goal.returns
returns c = λ path own.
    c.put_by.ensures ∙ ap put_by (c.record_at.ensures ∙ ap (λ records. record_at records c.args.slot.now.last) c.as_slice.ensures.value)
    ∙ node_told c.args.self.now c.requires path c.args.slot.now own
