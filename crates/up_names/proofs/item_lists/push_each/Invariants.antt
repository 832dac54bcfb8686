-- The items so far, before those of the words that are left, are the items of the line behind those that were there.
use Rattle.std.proofs.Common.{◌≡◌, ◌++◌, option_map, take, vec_len, length}
use Rattle.up_names.specs.ControlTexts.{words_in}
use Rattle.up_names.specs.ItemLists.{items_in}
use Rattle.up_names.proofs.item_lists.push_each.Given as goal

abbrev pub invariant-loop-word : goal.invariant-loop-word
invariant-loop-word l = record {
  found : option_map (λ found. l.items.items ++ found) (items_in l.owner (words_in l.rest)) ≡ option_map (λ found. l.fn.items.items ++ found) (items_in l.owner (words_in l.line));
  kept : take (vec_len l.fn.items) l.items.items ≡ l.fn.items.items;
}

abbrev pub decreases-loop-word : goal.decreases-loop-word
decreases-loop-word l = length l.rest
