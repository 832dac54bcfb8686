use Rattle.std.proofs.Common.{Some, ap, sym, ◌∙◌, arith}
use Rattle.std.proofs.lemmas.Option.{slice_get-get_or}
use Rattle.up_foreign.proofs.LeftLemmas.{items_all_left, items_left, left_all, left_then, none_left}
use Rattle.up_foreign.proofs.left.add_items.Goals as goal

pub loop-item-init : goal.loop-item-init
loop-item-init c = (left_all c.args.groups.now.entries, none_left c.args.owner.now c.args.loaded.now c.args.groups.now.entries)

-- one item more
pub loop-item-preserved : goal.loop-item-preserved
loop-item-preserved c = (
  left_then c.args.groups.now.entries c.loop-item.groups.entries c.add_item.new.groups.entries c.loop-item.invariant.0 c.add_item.ensures.kept,
  items_left c.args.owner.now c.args.loaded.now c.args.items.now c.loop-item.item-index c.item-item.result (slice_get-get_or c.args.items.now c.loop-item.item-index c.item-item.result c.loop-item-test.true ∙ ap Some (sym c.item-item.is))
      c.loop-item.groups.entries c.add_item.new.groups.entries c.add_item.ensures.kept c.loop-item.invariant.1 c.in_ok-add_item.ensures.added,
)

pub returns-in_err-add_item-clause-kept : goal.returns-in_err-add_item-clause-kept
returns-in_err-add_item-clause-kept c = left_then c.args.groups.now.entries c.loop-item.groups.entries c.add_item.new.groups.entries c.loop-item.invariant.0 c.add_item.ensures.kept

-- all of them
pub returns-clause-added : goal.returns-clause-added
returns-clause-added c = items_all_left c.args.owner.now c.args.loaded.now c.args.items.now c.loop-item.item-index c.loop-item.groups.entries (omega (arith, c.loop-item-test.false)) c.loop-item.invariant.1
