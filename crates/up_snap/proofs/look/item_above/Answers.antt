use Rattle.std.proofs.Common.{◌+◌, length, ap, sym, ◌∙◌, arith}
use Rattle.std.proofs.lemmas.Result.{IfOk-weaker}
use Rattle.up_list.specs.Entries.{entry_at}
use Rattle.up_log_tree.specs.Fits.{snapshot_user}
use Rattle.up_answers.specs.SnapshotTrees.{snapshots_to}
use Rattle.up_snap.proofs.LookLemmas.{way_down, way_from, way_none, way_some}
use Rattle.up_snap.proofs.PlacedLemmas.{shown_rooted}
use Rattle.up_snap.proofs.look.item_above.Goals as goal

pub loop-low-init : goal.loop-low-init
loop-low-init c =
    let tree = c.args.tree.now in
    way_from (snapshot_user tree.owner) (snapshots_to tree.owner tree.log (length tree.log)) (shown_rooted tree.owner tree.log c.recall.ensures.log) c.args.path.now c.len-high.result c.len-high.ensures c.requires.none

pub returns : goal.returns
returns c =
    let tree = c.args.tree.now in
    let all = snapshots_to tree.owner tree.log (length tree.log) in
    let end = c.loop-low-test.false in
    let more = c.if-low-eq0.false in
    let same =
    ap (entry_at all) c.in_ok-front.ensures
    ∙ way_some (snapshot_user tree.owner) all (shown_rooted tree.owner tree.log c.recall.ensures.log) c.args.path.now c.loop-low.low c.loop-low.high c.loop-low.invariant (omega (arith, end)) (omega (arith, more)) in
    IfOk-weaker c.item_at.result _ _ (λ found e. e ∙ same) c.item_at.ensures

pub returns-then-low-eq0 : goal.returns-then-low-eq0
returns-then-low-eq0 c =
    let tree = c.args.tree.now in
    let all = snapshots_to tree.owner tree.log (length tree.log) in
    let end = c.loop-low-test.false in
    way_none (snapshot_user tree.owner) all (shown_rooted tree.owner tree.log c.recall.ensures.log) c.args.path.now c.loop-low.low c.loop-low.high c.loop-low.invariant (omega (arith, end)) c.if-low-eq0.true

-- nothing stands at the prefix in the middle
pub loop-low-preserved : goal.loop-low-preserved
loop-low-preserved c =
    let tree = c.args.tree.now in
    let all = snapshots_to tree.owner tree.log (length tree.log) in
    let test = c.loop-low-test.true in
    let half = c.min.ensures in
    way_down (snapshot_user tree.owner) all (shown_rooted tree.owner tree.log c.recall.ensures.log) c.args.path.now c.loop-low.low c.loop-low.high (c.loop-low.low + c.min.result) c.loop-low.invariant
    (omega arith) (omega (arith, test, half)) (sym c.if-branch.false ∙ c.in_ok-stands_at.ensures)
