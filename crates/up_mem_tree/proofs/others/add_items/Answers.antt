use Rattle.std.proofs.Common.{arith}
use Rattle.up_mem_tree.specs.Others.{is_foreign, named_by}
use Rattle.up_mem_tree.proofs.Othered.{items_all, items_next, none_tested}
use Rattle.up_mem_tree.proofs.Held.{grows_all, grows_then}
use Rattle.up_mem_tree.proofs.others.add_items.Goals as goal

pub loop-item-init : goal.loop-item-init
loop-item-init c = (grows_all c.args.others.now, none_tested (is_foreign c.args.owner.now) (named_by c.args.others.now c.args.position))

-- one item more
pub loop-item-preserved : goal.loop-item-preserved
loop-item-preserved c = (
  grows_then c.args.others.now c.loop-item.others c.add_item.new.others c.loop-item.invariant.0 c.add_item.ensures.kept,
  items_next (is_foreign c.args.owner.now) c.args.items.now c.loop-item.item-index c.item-item.result c.loop-item-test.true c.item-item.is (named_by c.loop-item.others c.args.position) (named_by c.add_item.new.others c.args.position) (c.add_item.ensures.kept.by c.args.position)
      c.loop-item.invariant.1 c.in_ok-add_item.ensures.added,
)

pub returns-in_err-add_item-clause-kept : goal.returns-in_err-add_item-clause-kept
returns-in_err-add_item-clause-kept c = grows_then c.args.others.now c.loop-item.others c.add_item.new.others c.loop-item.invariant.0 c.add_item.ensures.kept

-- all of them
pub returns-clause-added : goal.returns-clause-added
returns-clause-added c = items_all (is_foreign c.args.owner.now) c.args.items.now c.loop-item.item-index (named_by c.loop-item.others c.args.position) (omega (arith, c.loop-item-test.false)) c.loop-item.invariant.1
