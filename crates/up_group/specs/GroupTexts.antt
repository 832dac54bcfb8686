-- Group texts (Upspin access control document).
use Rattle.std.specs.Prelude.{List, map, Result}
use Rattle.up_names.specs.Texts.{Text, UserName}
use Rattle.up_names.specs.declared.fault.TextFault.{TextFault}
use Rattle.up_names.specs.declared.items.Item.{Item}
use Rattle.up_names.specs.ControlTexts.{control_lines, words_in}
use Rattle.up_names.specs.ItemLists.{items_in}
use Rattle.up_names.specs.TextMeanings.{meaning_of}

-- What a Group text in this owner's tree stands for: each line says the items that its words name. So the text stands for
-- the items of all lines, in order, or, where a word names no item, for the number of its line, the first such from 1.
unfoldable pub group_of : UserName → Text → Result (List Item) TextFault
group_of owner text = meaning_of (map (λ line. items_in owner (words_in line)) (control_lines text))
