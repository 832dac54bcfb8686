use Rattle.std.proofs.Common.{◌+◌, ◌-◌, ◌≡◌, ℕ, ◌<◌, ◌≤◌, length, get_or, List}
use Rattle.up_mem_tree.specs.declared.history.Change.{Change}
use Rattle.up_mem_tree.proofs.history.last_at.Given as goal

-- the change before `low` is not later than record n, that at `high` is
pub record Bisected {X : Type 0} (changes : List (Change X)) (n low high : ℕ) : Type 0 where
  pub order : low ≤ high
  pub bound : high ≤ length changes
  pub before : (i : ℕ) (d : Change X) → i + 1 ≡ low → (get_or changes i d).position ≤ n
  pub from : (d : Change X) → high < length changes → n < (get_or changes high d).position

abbrev pub invariant-loop-low : goal.invariant-loop-low
invariant-loop-low g l = Bisected l.changes l.n l.low l.high

abbrev pub decreases-loop-low : goal.decreases-loop-low
decreases-loop-low g l = l.high - l.low
