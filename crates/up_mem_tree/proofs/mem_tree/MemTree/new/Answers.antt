use Rattle.std.proofs.Common.{ap}
use Rattle.up_mem_tree.specs.Kept.{slots_of}
use Rattle.up_mem_tree.specs.ChangesBelow.{noted_all}
use Rattle.up_mem_tree.proofs.Grouped.{grouped_none}
use Rattle.up_mem_tree.proofs.Noted.{noted_empty}
use Rattle.up_mem_tree.proofs.Othered.{others_none}
use Rattle.up_mem_tree.proofs.Readied.{not_made}
use Rattle.up_mem_tree.proofs.mem_tree.MemTree.new.Goals as goal

pub invariant_of-result : goal.invariant_of-result
invariant_of-result c =
    let kept = c.new.result in
    not_made kept c.new-2.result.items c.new-3.result c.new-4.result c.new.ensures.stands (noted_empty kept.owner kept.log.items (slots_of kept) (noted_all c.new-2.result.items) c.new.ensures.stands.linked c.new.ensures.log (ap noted_all c.new-2.ensures.items))
    (grouped_none kept.log.items c.new-3.result.items c.new.ensures.log c.new-3.ensures.items) (others_none kept.owner kept.log.items c.new-4.result c.new.ensures.log)
