-- The one tree was opened, and its report told.
use Rattle.std.proofs.Common.{subst}
use Rattle.up_reports.specs.Opens.{TakesTrees}
use Rattle.up_share.proofs.ShareLemmas.{tells}
use Rattle.up_share.proofs.share.share_tree.Goals as goal

pub returns-in-Ok-open_trees-clause-shares : goal.returns-in-Ok-open_trees-clause-shares
returns-in-Ok-open_trees-clause-shares g c =
    let trees = c.in-Ok-open_trees.trees.items in
    let opens = subst (λ owners. TakesTrees g.D.Disk c.args.limits owners c.args.disks.now.disks c.open_trees.new.disks.disks trees) c.in-Ok.ensures c.in-Ok-open_trees.ensures.opens in
    tells g.D.Disk c.args.limits c.args.owner c.args.disks.now.disks c.open_trees.new.disks.disks c.tell_trees.new.disks.disks trees (g.K.Sink.held c.args.sink.now) (g.K.Sink.held c.tell_trees.new.sink) c.tell_trees.result c.requires.one opens c.tell_trees.ensures.disks c.tell_trees.ensures.answers
