use Rattle.std.proofs.Common.{arith}
use Rattle.up_entry.proofs.records.is_read_again.Goals as goal

pub returns : goal.returns
returns c = λ fits same. (c.records_have_one_spelling.ensures.whole.exact c.args.bytes.now c.args.rec.now (λ i. omega (arith, c.type_inv.bytes i))).1 (fits, same)
