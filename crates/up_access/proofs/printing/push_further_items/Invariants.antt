-- The items so far are printed, a comma and a space before each.
use Rattle.std.proofs.Common.{◌≡◌, ◌++◌, take, codes}
use Rattle.std.specs.List.{flat_map}
use Rattle.up_access.specs.Printing.{item_text}
use Rattle.up_access.proofs.printing.push_further_items.Given as goal

abbrev pub invariant-loop-item : goal.invariant-loop-item
invariant-loop-item l = l.out.items ≡ l.fn.out.items ++ flat_map (λ item. codes ", " ++ item_text item) (take l.item-index l.items)
