use Rattle.std.proofs.Common.{◌≡◌, subst, Result}
use Rattle.std.specs.Prelude.{IfOk}
use Rattle.up_entry.specs.declared.records.Rec.{Rec}
use Rattle.up_wire.specs.declared.replies.Reply.{Reply}
use Rattle.up_snap.specs.Outcomes.{log_with}
use Rattle.up_snap.proofs.PutLemmas.{put_outcome}
use Rattle.up_snap.proofs.outcome.outcome_for.Goals as goal

pub returns-in-Put-clause-led : goal.returns-in-Put-clause-led
returns-in-Put-clause-led g c = λ limits.
    subst (λ (meant : Result Rec Reply). IfOk c.taken.result (λ led. led ≡ meant))
    (put_outcome (log_with c.args.tree.now.owner limits c.args.tree.now.log) (g.O.Onlooker.look c.args.look.now) c.in-Put.put c.args.asked.now c.args.now c.requires.seen c.in-Put.is)
    (c.taken.ensures.led limits)
