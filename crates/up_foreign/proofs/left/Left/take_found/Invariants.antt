use Rattle.std.proofs.Common.{◌≡◌, ℕ}
use Rattle.up_mem_tree.specs.MemTrees.{TreeLog}
use Rattle.up_names.specs.PathNames.{PathName}
use Rattle.up_policy.specs.Loadings.{Loading}
use Rattle.up_foreign.specs.Reaching.{MayCover}
use Rattle.up_foreign.proofs.left.Left.take_found.Given as goal

-- what was covered is covered still
abbrev pub invariant-loop-i : goal.invariant-loop-i
invariant-loop-i l =
    (l.self.whole ≡ l.fn.self.whole)
    × ((tree : TreeLog) (loaded : Loading) (path : PathName) (above : ℕ) → MayCover tree loaded path above l.fn.self l.names → MayCover tree loaded path above l.self l.names)
