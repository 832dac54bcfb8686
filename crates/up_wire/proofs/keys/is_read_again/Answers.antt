use Rattle.std.proofs.Common.{arith}
use Rattle.up_wire.proofs.keys.is_read_again.Goals as goal

pub returns : goal.returns
returns c = λ fits same. (c.key_records_have_one_spelling.ensures.exact c.args.bytes.now c.args.known.now (λ i. omega (arith, c.type_inv.bytes i))).1 (fits, same)
