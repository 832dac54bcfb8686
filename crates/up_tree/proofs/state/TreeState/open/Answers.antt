use Rattle.up_journal.proofs.Logs.{refuses_opened}
use Rattle.up_log_tree.specs.Fits.{fits}
use Rattle.up_tree.specs.States.{record_in}
use Rattle.up_tree.proofs.Opening.{is_replayed, kept_by, opened_by, opens_by, refuses_by}
use Rattle.up_tree.proofs.state.TreeState.open.Goals as goal

pub returns-in-Err-clause-refuses : goal.returns-in-Err-clause-refuses
returns-in-Err-clause-refuses g c =
    let e = c.in-Err.ensures in
    refuses_opened g.D.Disk record_in (fits c.args.owner) c.args.disk c.args.limits c.in-Err.fault e.damaged e.synced

pub read_by-requires : goal.read_by-requires
read_by-requires g c =
    let e = c.in-Ok.ensures in
    let r = c.replay-replayed.ensures in
    kept_by g.D.Disk c.args.owner c.args.disk c.args.limits c.in-Ok.journal c.replay-replayed.new.journal e.log e.settled e.limits e.safe r.read c.replay-replayed.result
    (is_replayed c.args.owner c.in-Ok.journal c.replay-replayed.result r.owner r.log r.sizes)

pub returns-clause-opens : goal.returns-clause-opens
returns-clause-opens g c =
    let e = c.in-Ok.ensures in
    let r = c.replay-replayed.ensures in
    rw c.read_by.ensures (opens_by g.D.Disk c.args.owner c.args.disk c.args.limits c.in-Ok.journal c.replay-replayed.new.journal e.log e.settled e.limits e.safe r.read c.replay-replayed.result
    (is_replayed c.args.owner c.in-Ok.journal c.replay-replayed.result r.owner r.log r.sizes))

pub returns-clause-refuses : goal.returns-clause-refuses
returns-clause-refuses g c =
    let e = c.in-Ok.ensures in
    let r = c.replay-replayed.ensures in
    rw c.read_by.ensures (refuses_by g.D.Disk c.args.owner c.args.disk c.args.limits c.in-Ok.journal c.replay-replayed.new.journal e.log e.settled e.limits e.safe r.read c.replay-replayed.result r.damaged)

pub returns-clause-opened : goal.returns-clause-opened
returns-clause-opened g c =
    let e = c.in-Ok.ensures in
    let r = c.replay-replayed.ensures in
    rw c.read_by.ensures (opened_by g.D.Disk c.args.owner c.args.disk c.args.limits c.in-Ok.journal c.replay-replayed.new.journal e.log e.settled e.limits e.safe r.read c.replay-replayed.result e.opened)
