use Rattle.std.proofs.Common.{◌≡◌, List, ℕ, subst}
use Rattle.std.specs.Prelude.{IfOk}
use Rattle.up_answers.specs.Answers.{tree_outcome}
use Rattle.up_entry.specs.declared.records.Rec.{Rec}
use Rattle.up_snap.specs.Outcomes.{log_with}
use Rattle.up_tree.specs.States.{log_of}
use Rattle.up_dir.proofs.answering.step_in_tree.Goals as goal

pub returns-clause-steps : goal.returns-clause-steps
returns-clause-steps g c =
    c.change.ensures.steps (tree_outcome (log_of c.args.state.now) c.args.loaded.now c.args.fetched.now c.args.user.now c.args.asked.now)
    (subst (λ (owner : List ℕ). IfOk c.led_in-led.result (λ led. led ≡ tree_outcome (log_with owner c.args.state.now.limits c.args.state.now.log) c.args.loaded.now c.args.fetched.now c.args.user.now c.args.asked.now)) c.memory.ensures.owner
    (subst (λ (records : List Rec). IfOk c.led_in-led.result (λ led. led ≡ tree_outcome (log_with c.memory.result.now.owner c.args.state.now.limits records) c.args.loaded.now c.args.fetched.now c.args.user.now c.args.asked.now)) c.memory.ensures.log
    (c.led_in-led.ensures.led c.args.state.now.limits)))
