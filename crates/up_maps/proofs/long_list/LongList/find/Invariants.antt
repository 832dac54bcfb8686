use Rattle.std.proofs.Common.{ℕ, Bool, true, false, ◌-◌, ◌<◌, ◌≤◌, List, length}
use Rattle.up_maps.specs.Joined.{IsAt}
use Rattle.up_maps.proofs.long_list.LongList.find.Given as goal

pub record Bisected {X : Type 0} (test : X → Bool) (xs : List X) (low high : ℕ) : Type 0 where
  pub order : low ≤ high
  pub bound : high ≤ length xs
  pub before : 0 < low → IsAt test true xs (low - 1)
  pub after : IsAt test false xs high

abbrev pub invariant-loop-low : goal.invariant-loop-low
invariant-loop-low g l = Bisected (g.K.Below.below l.key) l.self.items l.low l.high

abbrev pub decreases-loop-low : goal.decreases-loop-low
decreases-loop-low g l = l.high - l.low
