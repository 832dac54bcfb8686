use Rattle.std.proofs.Common.{Some}
use Rattle.up_mem_tree.proofs.Held.{releases_all, releases_then}
use Rattle.up_mem_tree.proofs.others.Others.release_items.Goals as goal

pub loop-item-init : goal.loop-item-init
loop-item-init c = releases_all (Some c.args.gone) c.args.position c.args.self.now

pub loop-item-preserved : goal.loop-item-preserved
loop-item-preserved c =
    releases_then (Some c.args.gone) c.args.position c.args.self.now c.loop-item.self c.release_item.new.self c.loop-item.invariant c.release_item.ensures

pub returns : goal.returns
returns c = c.loop-item.invariant
