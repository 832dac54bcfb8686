use Rattle.up_bytes.proofs.Digits.{shl}
use Rattle.up_bytes.proofs.leb128.shifted.Goals as goal

pub returns : goal.returns
returns c = rw c.from.ensures (shl c.args.i c.args.bits c.requires.place c.requires.low c.requires.top)
