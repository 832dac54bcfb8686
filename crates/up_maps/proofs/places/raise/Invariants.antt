use Rattle.std.proofs.Common.{◌≡◌, ℕ, ◌+◌, ◌<◌, ◌≤◌, List, length, get_or}
use Rattle.up_maps.proofs.places.raise.Given as goal

pub record Raised (old new : List ℕ) (from next : ℕ) : Type 0 where
  pub size : length new ≡ length old
  pub low : (k : ℕ) → k < from → get_or new k 0 ≡ get_or old k 0
  pub done : (k : ℕ) → from ≤ k → k < next → get_or new k 0 ≡ get_or old k 0 + 1
  pub left : (k : ℕ) → next ≤ k → get_or new k 0 ≡ get_or old k 0

abbrev pub invariant-loop-k : goal.invariant-loop-k
invariant-loop-k l = Raised l.initial.starts.items l.starts.items l.from l.k
