use Rattle.std.proofs.Common.{◌≡◌, ◌≢◌, subst}
use Rattle.std.specs.Prelude.{IfOk}
use Rattle.up_calls.proofs.StateLemmas.{text_read}
use Rattle.up_calls.specs.Loads.{group_text_answer, load_of}
use Rattle.up_tree.specs.States.{log_of}
use Rattle.up_wire.specs.declared.replies.Reply.TheVariants as reply
use Rattle.up_calls.proofs.steps.read_text.Goals as goal

pub returns : goal.returns
returns g c =
    text_read c.args.name.now.owner (group_text_answer (log_of c.args.state.now) c.args.operator.now c.args.name.now) c.group_text_of-reply.result c.load_of.result c.group_text_of-reply.ensures
    (subst (λ owner. IfOk c.load_of.result (λ answer. (c.group_text_of-reply.result ≢ reply.OutOfMemory) × (answer ≡ load_of owner c.group_text_of-reply.result))) c.owner.ensures c.load_of.ensures)
