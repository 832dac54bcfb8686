use Rattle.std.proofs.Common.{◌≡◌, ℕ, ◌+◌, ◌<◌, ◌≤◌, List, length, get_or}
use Rattle.std.specs.Prelude.{vec_len, vec_capacity}
use Rattle.up_maps.proofs.places.lower.Given as goal

pub record Lowered (old new : List ℕ) (from next room rooms size_was size_is : ℕ) : Type 0 where
  pub same_room : rooms ≡ room
  pub same_len : size_is ≡ size_was
  pub size : length new ≡ length old
  pub low : (k : ℕ) → k < from → get_or new k 0 ≡ get_or old k 0
  pub done : (k : ℕ) → from ≤ k → k < next → get_or new k 0 + 1 ≡ get_or old k 0
  pub left : (k : ℕ) → next ≤ k → get_or new k 0 ≡ get_or old k 0

abbrev pub invariant-loop-k : goal.invariant-loop-k
invariant-loop-k l = Lowered l.initial.starts.items l.starts.items l.from l.k (vec_capacity l.initial.starts) (vec_capacity l.starts) (vec_len l.initial.starts) (vec_len l.starts)
