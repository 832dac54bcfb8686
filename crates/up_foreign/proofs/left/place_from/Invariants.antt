use Rattle.std.proofs.Common.{◌≡◌, ◌≤◌, ◌<◌, ◌-◌, ℕ, Some, length}
use Rattle.std.specs.Prelude.{slice_get}
use Rattle.up_foreign.proofs.left.place_from.Given as goal

-- those up to `low` are before, and it is not before the place
abbrev pub invariant-loop-low : goal.invariant-loop-low
invariant-loop-low l =
    (l.i ≤ l.low) × (l.low ≤ l.high) × (l.high ≤ length l.positions)
    × ((k n : ℕ) → k < l.low → l.i ≤ k → slice_get l.positions k ≡ Some n → n < l.soon)

abbrev pub decreases-loop-low : goal.decreases-loop-low
decreases-loop-low l = l.high - l.low
