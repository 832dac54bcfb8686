-- How the rules of an Access text are printed: this project's own form of the Upspin access control document's.
use Rattle.std.specs.Prelude.{◌≡◌, Ok, List, [], ◌∷◌, ◌++◌, codes, filter}
use Rattle.std.specs.List.{flat_map, join_by}
use Rattle.up_names.specs.Texts.{Text, UserName}
use Rattle.up_names.specs.declared.items.Item.{Item}
use Rattle.up_names.specs.declared.items.Item.TheVariants.{Everyone, Domain, User, Group}
use Rattle.up_names.specs.PathNames.{canonical}
use Rattle.up_rights.specs.declared.Right.{Right}
use Rattle.up_rights.specs.declared.Right.TheVariants as right
use Rattle.up_rights.specs.RightSets.{Rights, has_right}
use Rattle.up_rights.specs.Words.{letter}
use Rattle.up_access.specs.declared.Rule.{Rule}
use Rattle.up_access.specs.AccessTexts.{access_of}

-- the five rights, in the order in which they are printed
abbrev pub five_rights : List Right
five_rights = right.Read ∷ right.Write ∷ right.List ∷ right.Create ∷ right.Delete ∷ []

-- the letters of the rights of a set, in their order, with a comma between two
unfoldable pub printed_rights : Rights → Text
printed_rights set = join_by letter (codes ",") (filter (has_right set) five_rights)

-- an item: everyone as `all`, a group by its full path
abbrev pub item_text : Item → Text
item_text Everyone = codes "all"
item_text (Domain domain) = codes "*@" ++ domain
item_text (User user) = user
item_text (Group path) = canonical path

-- items in their order, with a comma and a space between two
unfoldable pub printed_items : List Item → Text
printed_items items = join_by item_text (codes ", ") items

-- a rule is a line: its rights, a colon and a space, its items
unfoldable pub printed_rule : Rule → Text
printed_rule rule = printed_rights rule.rights ++ codes ": " ++ printed_items rule.items ++ 0x0A ∷ []

-- a text is the lines of its rules, one after the other
abbrev pub printed : List Rule → Text
printed rules = flat_map printed_rule rules

-- the printed text, read with any owner, stands for the rules that were printed
abbrev pub AreReadAgain : List Rule → Type 0
AreReadAgain rules = (owner : UserName) → access_of owner (printed rules) ≡ Ok rules
