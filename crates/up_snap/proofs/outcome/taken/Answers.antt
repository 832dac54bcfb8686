use Rattle.std.proofs.Common.{◌≡◌, ◌∙◌, ap, sym, subst, Err, Result}
use Rattle.std.specs.Prelude.{IfOk}
use Rattle.up_entry.specs.declared.records.Rec.{Rec}
use Rattle.up_wire.specs.declared.replies.Reply.{Reply}
use Rattle.up_wire.specs.declared.replies.Reply.TheVariants as reply
use Rattle.up_rights.specs.declared.Right.{Right}
use Rattle.up_snap.specs.Outcomes.{log_with}
use Rattle.up_snap.proofs.PutLemmas.{put_refused, put_takes}
use Rattle.up_snap.proofs.outcome.taken.Goals as goal

pub returns-then-takes_snapshot-clause-led : goal.returns-then-takes_snapshot-clause-led
returns-then-takes_snapshot-clause-led g c = λ limits.
    subst (λ (meant : Result Rec Reply). IfOk c.snapshot_record.result (λ led. led ≡ meant))
    (put_takes (log_with c.args.tree.now.owner limits c.args.tree.now.log) (g.O.Onlooker.look c.args.look.now) c.args.entry.now c.args.now (sym c.in_default.is ∙ c.in_ok-refusal.ensures)
    (sym (c.takes_snapshot.ensures (log_with c.args.tree.now.owner limits c.args.tree.now.log) (c.requires.owned ∙ c.requires.snap_user.named)) ∙ c.if-takes_snapshot.true))
    (c.snapshot_record.ensures.led limits)

pub returns-clause-led : goal.returns-clause-led
returns-clause-led g c = λ limits.
    ap (λ (r : Right). Err (reply.Permission r)) c.in_ok-right.ensures
    ∙ put_refused (log_with c.args.tree.now.owner limits c.args.tree.now.log) (g.O.Onlooker.look c.args.look.now) c.args.entry.now c.args.now (sym c.in_default.is ∙ c.in_ok-refusal.ensures)
    (sym (c.takes_snapshot.ensures (log_with c.args.tree.now.owner limits c.args.tree.now.log) (c.requires.owned ∙ c.requires.snap_user.named)) ∙ c.if-takes_snapshot.false)
