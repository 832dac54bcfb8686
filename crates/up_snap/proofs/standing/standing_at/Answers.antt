use Rattle.std.proofs.Common.{sym, ◌∙◌}
use Rattle.std.proofs.lemmas.Result.{IfOk-weaker}
use Rattle.up_snap.proofs.StandingLemmas.{first_moment, first_position, told_none, told_some}
use Rattle.up_snap.proofs.standing.standing_at.Goals as goal

pub standing_by-requires-clause-calendar : goal.standing_by-requires-clause-calendar
standing_by-requires-clause-calendar c = first_moment c.args.tree.now.owner c.args.tree.now.log c.args.path.now c.args.snap_user.now c.recall.ensures.log c.in-Some.shown (sym c.in-Some.is ∙ c.in_ok-shown.ensures)

pub standing_by-requires-clause-position : goal.standing_by-requires-clause-position
standing_by-requires-clause-position c = first_position c.args.tree.now.owner c.args.tree.now.log c.args.path.now c.args.snap_user.now c.recall.ensures.log c.in-Some.shown (sym c.in-Some.is ∙ c.in_ok-shown.ensures)

pub returns-in-None-clause-found : goal.returns-in-None-clause-found
returns-in-None-clause-found c = told_none c.args.tree.now.owner c.args.tree.now.log c.args.path.now c.args.snap_user.now c.recall.ensures.log c.requires (sym c.in-None.is ∙ c.in_ok-shown.ensures)

pub returns-in-Some-clause-found : goal.returns-in-Some-clause-found
returns-in-Some-clause-found c =
    let tree = c.args.tree.now in
    let same = told_some tree.owner tree.log c.args.path.now c.args.snap_user.now c.recall.ensures.log c.in-Some.shown c.requires (sym c.in-Some.is ∙ c.in_ok-shown.ensures) in
    IfOk-weaker c.standing_by.result _ _ (λ found e. e ∙ same) c.standing_by.ensures.found
