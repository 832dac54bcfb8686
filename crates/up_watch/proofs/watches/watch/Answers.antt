use Rattle.std.proofs.Common.{◌≡◌, List, ℕ, ap, ◌∙◌}
use Rattle.up_answers.specs.Watches.{watch_reply}
use Rattle.up_entry.specs.declared.records.Rec.{Rec}
use Rattle.up_wire.specs.Bounds.{bounded}
use Rattle.up_watch.specs.Watching.{log_in}
use Rattle.up_watch.proofs.Sequences.{same_number}
use Rattle.up_watch.proofs.watches.watch.Goals as goal

pub returns-in-Ok : goal.returns-in-Ok
returns-in-Ok g c =
    let limits = c.args.state.now.limits in
    λ _. c.bounded.ensures ∙ ap bounded (c.in-Ok.ensures limits
    ∙ (ap (λ z. watch_reply (log_in c.memory.result.now limits) c.args.loaded.now c.args.user.now c.args.path.now z) (same_number c.args.sequence c.ranges.sequence)
    ∙ (ap (λ (owner : List ℕ). watch_reply (record { owner = owner; limits = limits; records = c.memory.result.now.log }) c.args.loaded.now c.args.user.now c.args.path.now c.args.sequence) c.memory.ensures.owner
    ∙ ap (λ (records : List Rec). watch_reply (record { owner = c.args.state.now.owner; limits = limits; records = records }) c.args.loaded.now c.args.user.now c.args.path.now c.args.sequence) c.memory.ensures.log)))
