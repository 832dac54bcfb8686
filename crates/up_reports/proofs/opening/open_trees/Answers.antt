use Rattle.std.proofs.Common.{arith}
use Rattle.std.proofs.lemmas.Grind.{common_steps}
use Rattle.up_reports.proofs.OpeningLemmas.{stops_spare, takes_spare, tree_refused}
use Rattle.up_reports.proofs.opening.open_trees.Goals as goal

pub open_each-requires-clause-room : goal.open_each-requires-clause-room
open_each-requires-clause-room g c = grind (arith, common_steps)

pub give_back-requires : goal.give_back-requires
give_back-requires g c =
    let room = stops_spare g.D.Disk c.args.limits c.args.owners c.args.disks.now.disks c.open_each.new.disks.disks c.open_each.new.trees.items c.in-Err.fault c.args.disks.now.spare c.open_each.new.disks.spare c.in-Err.ensures.stops c.in-Err.ensures.spare in
    omega (arith, room)

pub returns-in-Err-clause-refuses : goal.returns-in-Err-clause-refuses
returns-in-Err-clause-refuses g c =
    tree_refused g.D.Disk c.args.limits c.args.owners c.args.disks.now.disks c.open_each.new.disks.disks c.give_back.new.disks.disks c.open_each.new.trees.items c.in-Err.fault c.give_back.result c.in-Err.ensures.stops c.give_back.ensures.disks c.give_back.ensures.refused

pub returns-in-Err-clause-spare : goal.returns-in-Err-clause-spare
returns-in-Err-clause-spare g c =
    let room = stops_spare g.D.Disk c.args.limits c.args.owners c.args.disks.now.disks c.open_each.new.disks.disks c.open_each.new.trees.items c.in-Err.fault c.args.disks.now.spare c.open_each.new.disks.spare c.in-Err.ensures.stops c.in-Err.ensures.spare in
    let back = c.give_back.ensures.spare in
    omega (arith, room, back)

pub returns-in-Ok-clause-room : goal.returns-in-Ok-clause-room
returns-in-Ok-clause-room g c =
    takes_spare g.D.Disk c.args.limits c.args.owners c.args.disks.now.disks c.open_each.new.disks.disks c.open_each.new.trees.items c.args.disks.now.spare c.open_each.new.disks.spare c.in-Ok.ensures.opens c.open_each.ensures.spare
