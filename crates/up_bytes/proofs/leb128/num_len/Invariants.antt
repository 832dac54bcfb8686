use Rattle.std.proofs.Common.{◌≡◌, ◌+◌, length}
use Rattle.up_bytes.specs.Num.{num}
use Rattle.up_bytes.proofs.leb128.num_len.Given as goal

abbrev pub invariant-loop-rest : goal.invariant-loop-rest
invariant-loop-rest l = l.len + length (num l.rest) ≡ length (num l.n) + 1

abbrev pub decreases-loop-rest : goal.decreases-loop-rest
decreases-loop-rest l = l.rest
