use Rattle.std.proofs.Common.{take}
use Rattle.up_policy.specs.Members.{groups_in}
use Rattle.up_mem_tree.specs.Others.{Grows, HasOthers, named_by}
use Rattle.up_mem_tree.proofs.others.add_items.Given as goal

-- the groups among the first items were added
abbrev pub invariant-loop-item : goal.invariant-loop-item
invariant-loop-item l = Grows l.fn.others l.others × HasOthers l.owner (named_by l.others l.position) (groups_in (take l.item-index l.items))
