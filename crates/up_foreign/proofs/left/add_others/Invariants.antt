use Rattle.std.proofs.Common.{take}
use Rattle.std.specs.Map.{keys_of}
use Rattle.up_foreign.specs.Reaching.{AreLeftWhereMet, KeepsLeft}
use Rattle.up_foreign.proofs.left.add_others.Given as goal

-- the first groups were added
abbrev pub invariant-loop-i : goal.invariant-loop-i
invariant-loop-i l = KeepsLeft l.fn.groups.entries l.groups.entries × AreLeftWhereMet l.tree l.loaded l.range.path.now l.range.above l.groups.entries (take l.i (keys_of l.others.entries))
