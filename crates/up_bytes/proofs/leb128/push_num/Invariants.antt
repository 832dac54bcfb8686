use Rattle.std.proofs.Common.{◌≡◌, ◌+◌, ◌≤◌, ◌++◌, length, vec_len, vec_capacity}
use Rattle.up_bytes.specs.Num.{num}
use Rattle.up_bytes.proofs.leb128.push_num.Given as goal

-- what was pushed, and the spelling of the rest, for which there is room
abbrev pub invariant-loop-rest : goal.invariant-loop-rest
invariant-loop-rest l = record {
  items : l.out.items ++ num l.rest ≡ l.fn.out.items ++ num l.n;
  room : vec_len l.out + length (num l.rest) ≤ vec_capacity l.out;
  capacity : vec_capacity l.out ≡ vec_capacity l.fn.out;
}

abbrev pub decreases-loop-rest : goal.decreases-loop-rest
decreases-loop-rest l = l.rest
