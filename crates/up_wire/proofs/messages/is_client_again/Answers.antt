use Rattle.std.proofs.Common.{arith}
use Rattle.up_wire.proofs.messages.is_client_again.Goals as goal

pub returns : goal.returns
returns c = λ fits same. (c.messages_have_one_spelling.ensures.client.exact c.args.bytes.now c.args.frame.now (λ i. omega (arith, c.type_inv.bytes i))).1 (fits, same)
