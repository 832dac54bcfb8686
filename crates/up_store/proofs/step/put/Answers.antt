use Rattle.std.proofs.Common.{refl, sym, ◌∙◌, subst, length}
use Rattle.std.proofs.lemmas.Bool.{ltb-false}
use Rattle.up_blocks.specs.Records.{largest_block}
use Rattle.up_entry.specs.declared.what.What.TheVariants.{Block}
use Rattle.up_store.specs.Answers.{PutsOf}
use Rattle.up_wire.specs.declared.replies.Reply.TheVariants as reply
use Rattle.up_store.proofs.step.put.Goals as goal

pub returns-then-is_too_long-clause-puts : goal.returns-then-is_too_long-clause-puts
returns-then-is_too_long-clause-puts g c =
    subst (λ b. PutsOf g.D.Disk b c.args.bytes.now c.args.blocks.now c.args.blocks.now (reply.Invalid Block)) (sym c.if-is_too_long.true ∙ c.is_too_long.ensures) (refl, refl)

pub put-requires : goal.put-requires
put-requires g c = ltb-false largest_block (length c.args.bytes.now) (sym c.is_too_long.ensures ∙ c.if-is_too_long.false)

pub returns-clause-puts : goal.returns-clause-puts
returns-clause-puts g c =
    subst (λ b. PutsOf g.D.Disk b c.args.bytes.now c.args.blocks.now c.put.new.self c.put_reply.result) (sym c.if-is_too_long.false ∙ c.is_too_long.ensures) (c.put.result, c.put_reply.ensures, c.put.ensures.puts)
