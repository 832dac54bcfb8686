use Rattle.std.proofs.Common.{◌≡◌, ◌≤◌, ◌<◌, ◌-◌, ◌++◌, ℕ, List, length}
use Rattle.std.specs.List.{AllByRecursion}
use Rattle.up_mem_tree.proofs.changes_below.first_above.Given as goal

-- all those not above stand before `low` or from there to `high`
abbrev pub invariant-loop-low : goal.invariant-loop-low
invariant-loop-low l =
    (l.low ≤ l.high) × (l.high ≤ length l.positions)
    × ((front rest : List ℕ) → l.positions ≡ front ++ rest → AllByRecursion (λ position. position ≤ l.above) front → AllByRecursion (λ position. l.above < position) rest → (l.low ≤ length front) × (length front ≤ l.high))

abbrev pub decreases-loop-low : goal.decreases-loop-low
decreases-loop-low l = l.high - l.low
