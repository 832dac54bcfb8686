use Rattle.std.proofs.Common.{ap, arith}
use Rattle.up_host.proofs.HandingLemmas.{last_is_none, one_left, stops_spare, takes_spare, two_left}
use Rattle.std.proofs.lemmas.Grind.{common_steps}
use Rattle.up_host.proofs.OpeningLemmas.{keys_refused, logs_opened, store_refused, tree_refused}
use Rattle.up_host.proofs.opening.open_logs.Goals as goal

pub open_trees-requires-clause-room : goal.open_trees-requires-clause-room
open_trees-requires-clause-room g c = grind (arith, common_steps)

pub refusal-requires : goal.refusal-requires
refusal-requires g c =
    let room = stops_spare g.D.Disk c.args.limits c.args.owners c.args.disks.disks c.open_trees.new.room.disks c.open_trees.new.trees.items c.in-Err.refused c.args.disks.spare c.open_trees.new.room.spare c.in-Err.ensures.stops c.in-Err.ensures.spare in
    omega (arith, room)

pub returns-in-Err-clause-refuses : goal.returns-in-Err-clause-refuses
returns-in-Err-clause-refuses g c =
    tree_refused g.D.Disk c.args.limits c.args.owners c.args.disks.disks c.open_trees.new.room.disks c.open_trees.new.trees.items c.in-Err.refused c.refusal.result c.in-Err.ensures.stops c.refusal.ensures.disks c.refusal.ensures.which c.refusal.ensures.why

pub returns-in-Err-clause-spare : goal.returns-in-Err-clause-spare
returns-in-Err-clause-spare g c =
    let room = stops_spare g.D.Disk c.args.limits c.args.owners c.args.disks.disks c.open_trees.new.room.disks c.open_trees.new.trees.items c.in-Err.refused c.args.disks.spare c.open_trees.new.room.spare c.in-Err.ensures.stops c.in-Err.ensures.spare in
    let back = c.refusal.ensures.spare in
    omega (arith, room, back)

pub refusal-requires-in-Err-open_store : goal.refusal-requires-in-Err-open_store
refusal-requires-in-Err-open_store g c =
    let room = takes_spare g.D.Disk c.args.limits c.args.owners c.args.disks.disks c.open_trees.new.room.disks c.open_trees.new.trees.items c.args.disks.spare c.open_trees.new.room.spare c.in_default.ensures.opens c.in_default.ensures.spare in
    let one = c.open_store.ensures.spare in
    omega (arith, room, one)

pub returns-in-Err-open_store-clause-refuses : goal.returns-in-Err-open_store-clause-refuses
returns-in-Err-open_store-clause-refuses g c =
    store_refused g.D.Disk c.args.limits c.args.owners c.args.disks.disks c.open_trees.new.room.disks c.open_store.new.room.disks c.open_trees.new.trees.items c.in-Err-open_store.refused c.refusal-in-Err-open_store.result
    c.in_default.ensures.opens c.in-Err-open_store.ensures.takes c.refusal-in-Err-open_store.ensures.disks c.refusal-in-Err-open_store.ensures.which c.refusal-in-Err-open_store.ensures.why

pub returns-in-Err-open_store-clause-spare : goal.returns-in-Err-open_store-clause-spare
returns-in-Err-open_store-clause-spare g c =
    let room = takes_spare g.D.Disk c.args.limits c.args.owners c.args.disks.disks c.open_trees.new.room.disks c.open_trees.new.trees.items c.args.disks.spare c.open_trees.new.room.spare c.in_default.ensures.opens c.in_default.ensures.spare in
    let one = c.open_store.ensures.spare in
    let back = c.refusal-in-Err-open_store.ensures.spare in
    omega (arith, room, one, back)

pub of-requires : goal.of-requires
of-requires g c =
    last_is_none g.D.Disk c.args.limits c.args.owners c.args.disks.disks c.open_trees.new.room.disks c.open_store.new.room.disks c.open_keys.new.room.disks c.open_trees.new.trees.items _ _ _ _ _ _
    c.in_default.ensures.opens c.open_store.ensures.takes c.open_keys.ensures.takes c.requires.disks

pub refusal_of_keys-requires-clause-spare : goal.refusal_of_keys-requires-clause-spare
refusal_of_keys-requires-clause-spare g c =
    let room = takes_spare g.D.Disk c.args.limits c.args.owners c.args.disks.disks c.open_trees.new.room.disks c.open_trees.new.trees.items c.args.disks.spare c.open_trees.new.room.spare c.in_default.ensures.opens c.in_default.ensures.spare in
    let one = c.open_store.ensures.spare in
    let two = c.open_keys.ensures.spare in
    omega (arith, room, one, two)

pub refusal_of_keys-requires-clause-none : goal.refusal_of_keys-requires-clause-none
refusal_of_keys-requires-clause-none g c =
    last_is_none g.D.Disk c.args.limits c.args.owners c.args.disks.disks c.open_trees.new.room.disks c.open_store.new.room.disks c.open_keys.new.room.disks c.open_trees.new.trees.items _ _ _ _ _ _
    c.in_default.ensures.opens c.open_store.ensures.takes c.open_keys.ensures.takes c.requires.disks

pub returns-in-Ok-open_keys-clause-opens : goal.returns-in-Ok-open_keys-clause-opens
returns-in-Ok-open_keys-clause-opens g c =
    let none = last_is_none g.D.Disk c.args.limits c.args.owners c.args.disks.disks c.open_trees.new.room.disks c.open_store.new.room.disks c.open_keys.new.room.disks c.open_trees.new.trees.items _ _ _ _ _ _
    c.in_default.ensures.opens c.open_store.ensures.takes c.open_keys.ensures.takes c.requires.disks in
    logs_opened g.D.Disk c.args.limits c.args.owners c.args.disks.disks c.open_trees.new.room.disks c.open_store.new.room.disks c.open_keys.new.room.disks c.open_trees.new.trees.items c.in-Ok.store c.in-Ok-open_keys.keys
    c.in_default.ensures.opens c.in-Ok.ensures.takes c.in-Ok-open_keys.ensures.takes none

pub returns-in-Ok-open_keys-clause-room : goal.returns-in-Ok-open_keys-clause-room
returns-in-Ok-open_keys-clause-room g c =
    let room = takes_spare g.D.Disk c.args.limits c.args.owners c.args.disks.disks c.open_trees.new.room.disks c.open_trees.new.trees.items c.args.disks.spare c.open_trees.new.room.spare c.in_default.ensures.opens c.in_default.ensures.spare in
    let one = c.open_store.ensures.spare in
    let two = c.open_keys.ensures.spare in
    let same = ap (λ r. r.spare) c.of.ensures in
    omega (arith, room, one, two, same)

pub returns-in-Err-open_keys-clause-refuses : goal.returns-in-Err-open_keys-clause-refuses
returns-in-Err-open_keys-clause-refuses g c =
    let none = last_is_none g.D.Disk c.args.limits c.args.owners c.args.disks.disks c.open_trees.new.room.disks c.open_store.new.room.disks c.open_keys.new.room.disks c.open_trees.new.trees.items _ _ _ _ _ _
    c.in_default.ensures.opens c.open_store.ensures.takes c.open_keys.ensures.takes c.requires.disks in
    keys_refused g.D.Disk c.args.limits c.args.owners c.args.disks.disks c.open_trees.new.room.disks c.open_store.new.room.disks c.open_keys.new.room.disks c.open_trees.new.trees.items c.in-Ok.store c.in-Err-open_keys.refused c.refusal_of_keys.result
    c.in_default.ensures.opens c.in-Ok.ensures.takes c.in-Err-open_keys.ensures.takes none c.refusal_of_keys.ensures.disks c.refusal_of_keys.ensures.which c.refusal_of_keys.ensures.why

pub returns-in-Err-open_keys-clause-spare : goal.returns-in-Err-open_keys-clause-spare
returns-in-Err-open_keys-clause-spare g c =
    let room = takes_spare g.D.Disk c.args.limits c.args.owners c.args.disks.disks c.open_trees.new.room.disks c.open_trees.new.trees.items c.args.disks.spare c.open_trees.new.room.spare c.in_default.ensures.opens c.in_default.ensures.spare in
    let one = c.open_store.ensures.spare in
    let two = c.open_keys.ensures.spare in
    let back = c.refusal_of_keys.ensures.spare in
    omega (arith, room, one, two, back)

pub open_store-requires-clause-some : goal.open_store-requires-clause-some
open_store-requires-clause-some g c =
    let two = two_left g.D.Disk c.args.limits c.args.owners c.args.disks.disks c.open_trees.new.room.disks c.open_trees.new.trees.items c.in_default.ensures.opens c.requires.disks in
    omega (arith, two)

pub open_keys-requires-clause-some : goal.open_keys-requires-clause-some
open_keys-requires-clause-some g c =
    let two = two_left g.D.Disk c.args.limits c.args.owners c.args.disks.disks c.open_trees.new.room.disks c.open_trees.new.trees.items c.in_default.ensures.opens c.requires.disks in
    let one = one_left g.D.Disk c.args.limits _ _ c.open_trees.new.room.disks c.open_store.new.room.disks c.open_store.result 1 c.open_store.ensures.takes two in
    omega (arith, one)
