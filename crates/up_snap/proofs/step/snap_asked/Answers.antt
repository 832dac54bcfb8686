use Rattle.std.proofs.Common.{◌≡◌, List, ℕ, subst}
use Rattle.std.specs.Prelude.{IfOk}
use Rattle.up_answers.specs.SnapshotReplies.{snapshot_outcome}
use Rattle.up_entry.specs.declared.records.Rec.{Rec}
use Rattle.up_tree.specs.States.{log_of}
use Rattle.up_snap.specs.Outcomes.{log_with}
use Rattle.up_snap.proofs.step.snap_asked.Goals as goal

pub returns-clause-steps : goal.returns-clause-steps
returns-clause-steps g c =
    c.change.ensures.steps (snapshot_outcome (log_of c.args.state.now) c.args.user.now c.args.asked.now c.args.now)
    (subst (λ (owner : List ℕ). IfOk c.asked_in_memory-led.result (λ led. led ≡ snapshot_outcome (log_with owner c.args.state.now.limits c.args.state.now.log) c.args.user.now c.args.asked.now c.args.now)) c.memory.ensures.owner
    (subst (λ (records : List Rec). IfOk c.asked_in_memory-led.result (λ led. led ≡ snapshot_outcome (log_with c.memory.result.now.owner c.args.state.now.limits records) c.args.user.now c.args.asked.now c.args.now)) c.memory.ensures.log
    (c.asked_in_memory-led.ensures.led c.args.state.now.limits)))
