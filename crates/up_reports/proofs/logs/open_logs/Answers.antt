-- The store is over the last disk.
use Rattle.std.proofs.Common.{◌≡◌, [], arith}
use Rattle.up_reports.proofs.OpeningLemmas.{logs_opened, none_left, store_left, store_refused, trees_refused}
use Rattle.up_reports.proofs.logs.open_logs.Goals as goal

pub open_store-requires-clause-some : goal.open_store-requires-clause-some
open_store-requires-clause-some g c =
    let one = store_left g.D.Disk c.args.limits c.args.owners c.args.disks.now.disks c.open_trees.new.disks.disks c.in-Ok.trees.items c.in-Ok.ensures.opens c.requires.disks in
    omega (arith, one)

pub returns-in-Err-clause-refuses : goal.returns-in-Err-clause-refuses
returns-in-Err-clause-refuses g c = trees_refused g.D.Disk c.args.limits c.args.owners c.args.disks.now.disks c.open_trees.new.disks.disks c.in-Err.refused c.in-Err.ensures.refuses

pub returns-in-Ok-open_store-clause-none : goal.returns-in-Ok-open_store-clause-none
returns-in-Ok-open_store-clause-none g c =
    none_left g.D.Disk c.args.limits _ _ c.open_trees.new.disks.disks c.open_store.new.disks.disks c.open_store.result c.open_store.ensures.takes
    (store_left g.D.Disk c.args.limits c.args.owners c.args.disks.now.disks c.open_trees.new.disks.disks c.in-Ok.trees.items c.in-Ok.ensures.opens c.requires.disks)

pub returns-in-Ok-open_store-clause-opens : goal.returns-in-Ok-open_store-clause-opens
returns-in-Ok-open_store-clause-opens g c =
    let none : c.open_store.new.disks.disks ≡ [] = none_left g.D.Disk c.args.limits _ _ c.open_trees.new.disks.disks c.open_store.new.disks.disks c.open_store.result c.open_store.ensures.takes
    (store_left g.D.Disk c.args.limits c.args.owners c.args.disks.now.disks c.open_trees.new.disks.disks c.in-Ok.trees.items c.in-Ok.ensures.opens c.requires.disks) in
    logs_opened g.D.Disk c.args.limits c.args.owners c.args.disks.now.disks c.open_trees.new.disks.disks c.open_store.new.disks.disks c.in-Ok.trees.items c.in-Ok-open_store.store c.in-Ok.ensures.opens c.in-Ok-open_store.ensures.takes none

pub returns-in-Err-open_store-clause-refuses : goal.returns-in-Err-open_store-clause-refuses
returns-in-Err-open_store-clause-refuses g c =
    store_refused g.D.Disk c.args.limits c.args.owners c.args.disks.now.disks c.open_trees.new.disks.disks c.open_store.new.disks.disks c.give_back.new.disks.disks c.in-Ok.trees.items c.in-Err-open_store.fault c.give_back.result
    c.in-Ok.ensures.opens c.in-Err-open_store.ensures.takes c.give_back.ensures.disks c.give_back.ensures.refused
