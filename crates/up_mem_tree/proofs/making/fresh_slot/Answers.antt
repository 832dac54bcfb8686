use Rattle.up_mem_tree.proofs.SlotLemmas.{known_fresh}
use Rattle.std.proofs.Common.{refl, ◌∙◌}
use Rattle.up_mem_tree.proofs.making.fresh_slot.Goals as goal

pub returns-clause-slot : goal.returns-clause-slot
returns-clause-slot c = known_fresh _ c.args.path.now c.args.parent c.in_ok-clone.ensures.cases refl refl c.new.ensures c.new-2.ensures c.new-3.ensures.items (c.reserve_change.ensures.items ∙ c.new-changes.ensures.items)
