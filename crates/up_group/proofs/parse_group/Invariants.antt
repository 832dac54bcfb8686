-- The items so far, before those of the lines that are left, are those of all lines.
use Rattle.std.proofs.Common.{length}
use Rattle.up_names.specs.ControlTexts.{words_in}
use Rattle.up_names.specs.ItemLists.{items_in}
use Rattle.up_names.proofs.TextMeaningLemmas.{Reads}
use Rattle.up_group.proofs.parse_group.Given as goal

abbrev pub invariant-loop-items : goal.invariant-loop-items
invariant-loop-items l = Reads (λ line. items_in l.owner (words_in line)) l.text l.rest l.number l.items.items

abbrev pub decreases-loop-items : goal.decreases-loop-items
decreases-loop-items l = length l.rest
