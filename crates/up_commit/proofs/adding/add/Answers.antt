use Rattle.std.proofs.Common.{◌<◌, ◌≤◌, subst, sym, Ok}
use Rattle.up_log_tree.specs.Sizes.{size_of}
use Rattle.up_list.specs.Changes.{added_by, answer_of}
use Rattle.up_tree.specs.States.{log_of}
use Rattle.up_commit.specs.Steps.{Steps}
use Rattle.up_commit.proofs.StepLemmas.{above, not_above, steps_applied, steps_large, within}
use Rattle.up_commit.proofs.adding.add.Goals as goal

pub returns-then-size-largest-clause-steps : goal.returns-then-size-largest-clause-steps
returns-then-size-largest-clause-steps g c =
    steps_large g.D.Disk c.args.rec c.args.state.now c.too_large-refusal.result
    (above (size_of c.args.rec) c.rec_size-size.result c.args.state.now.limits.largest c.rec_size-size.ensures (subst (λ n. n < c.rec_size-size.result) c.largest.ensures c.if-size-largest.true))
    c.too_large-refusal.ensures

pub apply-requires-clause-size : goal.apply-requires-clause-size
apply-requires-clause-size g c =
    within (size_of c.args.rec) c.rec_size-size.result c.args.state.now.limits.largest c.rec_size-size.ensures (c.recall.ensures.limits).largest (subst (λ n. c.rec_size-size.result ≤ n) c.largest.ensures c.if-size-largest.false)

pub returns-clause-steps : goal.returns-clause-steps
returns-clause-steps g c =
    subst (λ answered. Steps g.D.Disk (answer_of (log_of c.args.state.now) (Ok c.args.rec)) (added_by (log_of c.args.state.now) (Ok c.args.rec)) c.args.state.now c.apply.new.self answered) (sym c.applied_reply.ensures)
    (steps_applied g.D.Disk c.args.rec c.args.state.now c.apply.new.self
    (not_above (size_of c.args.rec) c.args.state.now.limits.largest
    (within (size_of c.args.rec) c.rec_size-size.result c.args.state.now.limits.largest c.rec_size-size.ensures (c.recall.ensures.limits).largest (subst (λ n. c.rec_size-size.result ≤ n) c.largest.ensures c.if-size-largest.false)))
    c.apply.result c.apply.ensures.applies)
