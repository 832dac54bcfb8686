use Rattle.up_list.specs.Founds.{entry_found}
use Rattle.up_list.specs.Places.{IsOwned}
use Rattle.up_watch.specs.Watching.{now}
use Rattle.up_watch.proofs.ItemsFound.{all_at, told_next}
use Rattle.up_watch.proofs.items.items_told.Goals as goal

pub tell_item-requires-clause-owned : goal.tell_item-requires-clause-owned
tell_item-requires-clause-owned c = all_at (IsOwned (now c.args.reader.now)) entry_found c.args.found.now c.loop-item.item-index c.item-item.result c.requires.owned c.loop-item-test.true c.item-item.is

-- one item more
pub loop-item-preserved : goal.loop-item-preserved
loop-item-preserved c = (
  told_next (now c.args.reader.now) c.args.found.now c.loop-item.item-index c.item-item.result c.loop-item.events.items c.tell_item.new.events.items c.loop-item-test.true c.item-item.is
      c.loop-item.invariant.0 c.in_ok-tell_item.ensures.told,
  c.tell_item.ensures.known,
)
