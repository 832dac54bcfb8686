use Rattle.std.proofs.Common.{refl, sym, ◌∙◌, subst}
use Rattle.up_entry.specs.declared.what.What.TheVariants.{Reference}
use Rattle.up_rights.specs.declared.Right.TheVariants.{Delete}
use Rattle.up_store.specs.Answers.{DeletesBy, DeletesOf}
use Rattle.up_wire.specs.declared.replies.Reply.TheVariants as reply
use Rattle.up_store.proofs.step.delete.Goals as goal

pub returns-in_default-clause-deletes : goal.returns-in_default-clause-deletes
returns-in_default-clause-deletes g c =
    subst (λ r. DeletesOf g.D.Disk c.args.operator.now c.args.user.now r c.args.blocks.now c.args.blocks.now (reply.Invalid Reference)) (sym c.in_default.is ∙ c.parse.ensures.value) (refl, refl)

pub returns-then-not-is_operator-clause-deletes : goal.returns-then-not-is_operator-clause-deletes
returns-then-not-is_operator-clause-deletes g c =
    subst (λ r. DeletesOf g.D.Disk c.args.operator.now c.args.user.now r c.args.blocks.now c.args.blocks.now (reply.Permission Delete)) (sym c.in-Some.is ∙ c.parse.ensures.value)
    (subst (λ b. DeletesBy g.D.Disk b c.in-Some.reference c.args.blocks.now c.args.blocks.now (reply.Permission Delete)) (sym c.if-not-is_operator.true ∙ c.is_operator.ensures) (refl, refl))

pub returns-clause-deletes : goal.returns-clause-deletes
returns-clause-deletes g c =
    subst (λ r. DeletesOf g.D.Disk c.args.operator.now c.args.user.now r c.args.blocks.now c.delete.new.self c.deleted_reply.result) (sym c.in-Some.is ∙ c.parse.ensures.value)
    (subst (λ b. DeletesBy g.D.Disk b c.in-Some.reference c.args.blocks.now c.delete.new.self c.deleted_reply.result) (sym c.if-not-is_operator.false ∙ c.is_operator.ensures)
    (c.delete.result, c.deleted_reply.ensures, c.delete.ensures.deletes))
