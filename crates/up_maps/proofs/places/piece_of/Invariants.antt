use Rattle.std.proofs.Common.{ℕ, ◌-◌, ◌<◌, ◌≤◌, List, length, get_or}
use Rattle.up_maps.proofs.places.piece_of.Given as goal

pub record Narrowed (starts : List ℕ) (i low high : ℕ) : Type 0 where
  pub some : low < high
  pub bound : high ≤ length starts
  pub begun : get_or starts low 0 ≤ i
  pub last : high < length starts → i < get_or starts high 0

abbrev pub invariant-loop-high : goal.invariant-loop-high
invariant-loop-high l = Narrowed l.starts.items l.i l.low l.high

abbrev pub decreases-loop-high : goal.decreases-loop-high
decreases-loop-high l = l.high - l.low
