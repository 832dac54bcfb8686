use Rattle.std.proofs.Common.{sym, ◌∙◌}
use Rattle.up_mem_tree.specs.Slots.{known_all}
use Rattle.up_mem_tree.proofs.Editions.{added, present}
use Rattle.up_mem_tree.proofs.making.addition.Goals as goal

pub returns-then-is_some : goal.returns-then-is_some
returns-then-is_some c dir paths siblings parent =
    present (known_all c.args.slots.now) dir c.args.ids.now.items paths siblings c.args.path.now parent c.last_element.result.now c.last_element.ensures
    c.find_among-place.result.0 c.find_among-place.result.1 (c.find_among-place.ensures dir paths siblings) (sym c.is_some.ensures ∙ c.if-is_some.true) c.args.id

pub returns-else-is_some : goal.returns-else-is_some
returns-else-is_some c dir paths siblings parent =
    added (known_all c.args.slots.now) dir c.args.ids.now.items paths siblings c.args.path.now parent c.last_element.result.now c.last_element.ensures
    c.find_among-place.result.0 c.find_among-place.result.1 (c.find_among-place.ensures dir paths siblings) (sym c.is_some.ensures ∙ c.if-is_some.false) c.args.id
