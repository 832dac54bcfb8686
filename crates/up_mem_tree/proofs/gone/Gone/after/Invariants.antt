use Rattle.std.proofs.Common.{◌≡◌, ◌≤◌, ◌<◌, ◌-◌, ℕ, Some, length}
use Rattle.std.specs.Prelude.{slice_get}
use Rattle.up_mem_tree.specs.declared.gone.Naming.{Naming}
use Rattle.up_mem_tree.proofs.gone.Gone.after.Given as goal

-- those up to `low` were replaced before
abbrev pub invariant-loop-low : goal.invariant-loop-low
invariant-loop-low l =
    (l.low ≤ l.high) × (l.high ≤ length l.self-inside.texts.items) × ((k : ℕ) (one : Naming) → k < l.low → slice_get l.self-inside.texts.items k ≡ Some one → one.until ≤ l.above)

abbrev pub decreases-loop-low : goal.decreases-loop-low
decreases-loop-low l = l.high - l.low
