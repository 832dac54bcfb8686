use Rattle.std.proofs.Common.{◌≡◌, subst}
use Rattle.std.specs.Prelude.{IfOk}
use Rattle.up_answers.specs.SnapshotReplies.{snapshot_outcome}
use Rattle.up_list.specs.Looks.{Look}
use Rattle.up_snap.specs.Outcomes.{log_with}
use Rattle.up_snap.proofs.step.asked_in_memory.Goals as goal

pub returns-clause-led : goal.returns-clause-led
returns-clause-led c = λ limits.
    subst (λ (look : Look). IfOk c.outcome_for.result (λ led. led ≡ snapshot_outcome (log_with c.args.tree.now.owner limits c.args.tree.now.log) look.user c.args.asked.now c.args.now)) c.new-look.ensures
    (c.outcome_for.ensures.led limits)
