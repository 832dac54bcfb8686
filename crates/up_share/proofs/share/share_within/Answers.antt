-- What follows from what came of it.
use Rattle.up_share.proofs.ShareLemmas.{shared_causes, shared_codes, shared_complete}
use Rattle.up_share.proofs.share.share_within.Goals as goal

pub returns-clause-statuses : goal.returns-clause-statuses
returns-clause-statuses g c = shared_codes g.D.Disk c.args.limits c.args.owner c.args.disks.now.disks c.share_tree.new.disks.disks (g.K.Sink.held c.args.sink.now) (g.K.Sink.held c.share_tree.new.sink) c.share_tree.result c.share_tree.ensures.shares

pub returns-clause-causes : goal.returns-clause-causes
returns-clause-causes g c =
    shared_causes g.D.Disk c.args.limits c.args.owner c.args.disks.now.disks c.share_tree.new.disks.disks (g.K.Sink.held c.args.sink.now) (g.K.Sink.held c.share_tree.new.sink) c.share_tree.result
    (g.K.Sink.faults c.args.sink.now) (g.K.Sink.faults c.share_tree.new.sink) c.share_tree.ensures.cause c.share_tree.ensures.shares c.share_tree.ensures.later

pub returns-clause-complete : goal.returns-clause-complete
returns-clause-complete g c =
    shared_complete g.D.Disk c.args.limits c.args.owner c.args.disks.now.disks c.share_tree.new.disks.disks (g.K.Sink.held c.args.sink.now) (g.K.Sink.held c.share_tree.new.sink) c.share_tree.result
    (g.K.Sink.faults c.args.sink.now) (g.K.Sink.faults c.share_tree.new.sink) c.share_tree.ensures.cause c.share_tree.ensures.shares
