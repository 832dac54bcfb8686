use Rattle.std.proofs.Common.{arith}
use Rattle.up_wire.proofs.keys.is_spelled.Goals as goal

pub returns : goal.returns
returns c = (c.key_records_have_one_spelling.ensures.exact c.args.bytes.now c.args.known.now (λ i. omega (arith, c.type_inv.bytes i))).0
