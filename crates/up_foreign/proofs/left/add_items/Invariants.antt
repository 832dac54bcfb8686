use Rattle.std.proofs.Common.{take}
use Rattle.up_policy.specs.Members.{groups_in}
use Rattle.up_foreign.specs.Reaching.{AreLeft, KeepsLeft}
use Rattle.up_foreign.proofs.left.add_items.Given as goal

-- the groups among the first items were added
abbrev pub invariant-loop-item : goal.invariant-loop-item
invariant-loop-item l = KeepsLeft l.fn.groups.entries l.groups.entries × AreLeft l.owner l.loaded l.groups.entries (groups_in (take l.item-index l.items))
