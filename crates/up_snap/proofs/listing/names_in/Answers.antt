use Rattle.std.proofs.Common.{[], subst, sym, take, ◌∙◌}
use Rattle.std.specs.Map.{keys_of}
use Rattle.up_log_tree.specs.Snapshots.{snapshots_of}
use Rattle.up_snap.specs.Listed.{IsNaming}
use Rattle.up_snap.proofs.FirstLemmas.{moment_in}
use Rattle.up_snap.proofs.MadeLemmas.{naming_all, naming_next, naming_none}
use Rattle.up_snap.proofs.listing.names_in.Goals as goal

pub loop-i-init : goal.loop-i-init
loop-i-init c =
    subst (IsNaming c.args.snap_user.now c.args.tree.now.log c.args.dir.now []) (sym c.new-names.ensures) (naming_none c.args.snap_user.now c.args.tree.now.log c.args.dir.now)

pub returns-in_default : goal.returns-in_default
returns-in_default c =
    let tree = c.args.tree.now in
    naming_all c.args.snap_user.now tree.log c.args.dir.now (keys_of (snapshots_of tree.log)) c.loop-i.i _ (sym c.snap_time.ensures ∙ c.in_default.is) c.loop-i.invariant

pub add_name-requires-clause-moment : goal.add_name-requires-clause-moment
add_name-requires-clause-moment c =
    let tree = c.args.tree.now in
    moment_in tree.owner c.args.snap_user.now tree.log c.recall.ensures.log c.args.dir.now c.loop-i.i c.in-Some.time (sym c.snap_time.ensures ∙ c.in-Some.is)

pub loop-i-preserved : goal.loop-i-preserved
loop-i-preserved c =
    let tree = c.args.tree.now in
    naming_next c.args.snap_user.now tree.log c.args.dir.now (keys_of (snapshots_of tree.log)) c.loop-i.i c.in-Some.time _ (sym c.snap_time.ensures ∙ c.in-Some.is)
    (c.in_ok-add_name.ensures (take c.loop-i.i (keys_of (snapshots_of tree.log))) c.loop-i.invariant)
