use Rattle.std.proofs.Common.{◌∙◌}
use Rattle.std.proofs.lemmas.Result.{IfOk-weaker}
use Rattle.up_snap.proofs.FirstLemmas.{read_none, read_some}
use Rattle.up_snap.proofs.standing.first_below.Goals as goal

pub returns-in-Some : goal.returns-in-Some
returns-in-Some c =
    let tree = c.args.tree.now in
    let same = read_some tree.owner c.args.snap_user.now tree.log c.recall.ensures.log c.args.path.now c.requires c.moment_of.result c.moment_of.ensures.read c.in-Some.time c.in-Some.is in
    IfOk-weaker c.sooner_to.result _ _ (λ found e. e ∙ same) c.sooner_to.ensures

pub returns-in-None : goal.returns-in-None
returns-in-None c =
    let tree = c.args.tree.now in
    read_none tree.owner c.args.snap_user.now tree.log c.recall.ensures.log c.args.path.now c.requires c.moment_of.result c.moment_of.ensures.read c.in-None.is
