use Rattle.std.proofs.Common.{◌≡◌, ◌++◌, take, codes}
use Rattle.std.specs.List.{flat_map}
use Rattle.up_access.specs.Printing.{item_text}
use Rattle.up_share.proofs.known.push_further_items.Given as goal

-- the items so far, each behind a comma
abbrev pub invariant-loop-item : goal.invariant-loop-item
invariant-loop-item l = l.out.items ≡ l.fn.out.items ++ flat_map (λ item. codes "," ++ item_text item) (take l.item-index l.items)
