use Rattle.std.proofs.Common.{arith}
use Rattle.up_wire.proofs.messages.is_server_spelled.Goals as goal

pub returns : goal.returns
returns c = (c.messages_have_one_spelling.ensures.server.exact c.args.bytes.now c.args.frame.now (λ i. omega (arith, c.type_inv.bytes i))).0
