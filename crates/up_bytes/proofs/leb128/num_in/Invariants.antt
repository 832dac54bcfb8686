use Rattle.up_bytes.proofs.Digits.{Sofar}
use Rattle.up_bytes.proofs.leb128.num_in.Given as goal

abbrev pub invariant-loop-i : goal.invariant-loop-i
invariant-loop-i l = Sofar l.bytes l.i l.value
