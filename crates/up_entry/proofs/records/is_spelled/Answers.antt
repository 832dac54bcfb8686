use Rattle.std.proofs.Common.{arith}
use Rattle.up_entry.proofs.records.is_spelled.Goals as goal

pub returns : goal.returns
returns c = (c.records_have_one_spelling.ensures.whole.exact c.args.bytes.now c.args.rec.now (λ i. omega (arith, c.type_inv.bytes i))).0
