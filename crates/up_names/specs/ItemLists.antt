-- The names that stand together in a line of an Access or Group text (Upspin access control document).
use Rattle.std.specs.Prelude.{List, map, Option}
use Rattle.up_names.specs.Texts.{Text, UserName}
use Rattle.up_names.specs.declared.items.Item.{Item}
use Rattle.up_names.specs.ItemNames.{item_of}
use Rattle.up_names.specs.TextMeanings.{all_some}

-- the items that words name in a text of this owner, in order; none where one of them names no item
unfoldable pub items_in : UserName → List Text → Option (List Item)
items_in owner words = all_some (map (item_of owner) words)
