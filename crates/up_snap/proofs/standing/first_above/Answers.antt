use Rattle.std.proofs.Common.{sym, ◌∙◌}
use Rattle.std.specs.Map.{keys_of}
use Rattle.up_log_tree.specs.Snapshots.{snapshots_of}
use Rattle.up_snap.proofs.FirstLemmas.{least_all, least_is, least_next, least_none, moment_in}
use Rattle.up_snap.proofs.standing.first_above.Goals as goal

pub loop-i-init : goal.loop-i-init
loop-i-init c = least_none c.args.snap_user.now c.args.tree.now.log c.args.path.now

pub returns-in_default : goal.returns-in_default
returns-in_default c =
    let tree = c.args.tree.now in
    c.loop-i.invariant
    ∙ least_all c.args.snap_user.now tree.log c.args.path.now (keys_of (snapshots_of tree.log)) c.loop-i.i (sym c.snap_time.ensures ∙ c.in_default.is)
    ∙ least_is tree.owner c.args.snap_user.now tree.log c.recall.ensures.log c.args.path.now

pub sooner_to-requires : goal.sooner_to-requires
sooner_to-requires c =
    let tree = c.args.tree.now in
    moment_in tree.owner c.args.snap_user.now tree.log c.recall.ensures.log c.args.path.now c.loop-i.i c.in-Some.time (sym c.snap_time.ensures ∙ c.in-Some.is)

pub loop-i-preserved : goal.loop-i-preserved
loop-i-preserved c =
    let tree = c.args.tree.now in
    c.in_ok-first.ensures
    ∙ least_next c.args.snap_user.now tree.log c.args.path.now (keys_of (snapshots_of tree.log)) c.loop-i.i c.in-Some.time c.loop-i.first (sym c.snap_time.ensures ∙ c.in-Some.is) c.loop-i.invariant
