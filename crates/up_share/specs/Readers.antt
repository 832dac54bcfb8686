-- Who may read at a path, by name: users, domains and everyone. This project's own, over the rights of the Upspin access control
-- document.
use Rattle.std.specs.Prelude.{◌≡◌, ◌≢◌, ◌⊎◌, ◌↔◌, ◌&&◌, Bool, true, false, not, is_none, List, [], ◌∷◌, ◌++◌, filter, Contains, Some, None}
use Rattle.std.specs.Prelude.{unwrap_or}
use Rattle.std.specs.List.{flat_map}
use Rattle.std.specs.List.Sorted.{IsStrictlySortedBy}
use Rattle.std.specs.Map.{keys_of}
use Rattle.std.specs.Str.{bytes_eq}
use Rattle.up_names.specs.declared.items.Item.{Item}
use Rattle.up_names.specs.declared.items.Item.TheVariants.{Everyone, Domain, User, Group}
use Rattle.up_names.specs.PathNames.{PathName}
use Rattle.up_names.specs.PathOrder.{path_cmp}
use Rattle.up_rights.specs.declared.Right.TheVariants.{Read}
use Rattle.up_access.specs.declared.Rule.{Rule}
use Rattle.up_policy.specs.Trees.{GroupTexts, TreeFacts}
use Rattle.up_policy.specs.Loadings.{Loading}
use Rattle.up_policy.specs.Governors.{IsGovernor, governor}
use Rattle.up_policy.specs.Members.{groups_in, items_in, names_in, text_of}
use Rattle.up_policy.specs.Reached.{reached}
use Rattle.up_policy.specs.Verdicts.{items_for}
use Rattle.up_share.specs.Orders.{in_order, item_cmp}

-- ---- what is meant

-- whether an item is a user, a domain or everyone, and no group
abbrev pub is_plain : Item → Bool
is_plain Everyone = true
is_plain (Domain domain) = true
is_plain (User user) = true
is_plain (Group path) = false

-- A list of groups, the first and those behind it, leads to the last of them: the text of each but the last names the next.
abbrev pub Leads : GroupTexts → PathName → List PathName → PathName → Type 0
Leads texts first [] last = first ≡ last
Leads texts first (next ∷ behind) last = Contains (names_in texts first) next × Leads texts next behind last

-- A group is met: a list of groups leads to it from one that stands in a rule that holds read.
abbrev pub IsMet : GroupTexts → List Rule → PathName → Type 0
IsMet texts rules group =
    (first : PathName) × (behind : List PathName) × Contains (items_for Read rules) (Group first) × Leads texts first behind group

-- An item stands in a rule that holds read, or in the text of a group that is met.
abbrev pub StandsIn : GroupTexts → List Rule → Item → Type 0
StandsIn texts rules item =
    Contains (items_for Read rules) item ⊎ ((group : PathName) × IsMet texts rules group × Contains (items_in texts group) item)

-- Who reads at a path: the owner; and where a text governs the path, each user, each domain and everyone that stands in a rule of it
-- that holds read, or in the text of a group that is met from there.
abbrev pub IsReader : TreeFacts → Loading → PathName → Item → Type 0
IsReader tree loaded path item =
    (item ≡ User tree.owner)
    ⊎ ((rules : List Rule) × IsGovernor tree path (Some rules) × (is_plain item ≡ true) × StandsIn (text_of tree loaded) rules item)

-- All who read at a path, and no others: everyone, then domains, then users, by their bytes, and none twice.
pub record AreReaders (tree : TreeFacts) (loaded : Loading) (path : PathName) (items : List Item) : Type 0 where
  pub members : (item : Item) → Contains items item ↔ IsReader tree loaded path item
  pub order : IsStrictlySortedBy item_cmp items

-- A group of another owner is met on the way to who reads at a path, and has no text.
abbrev pub IsUnread : TreeFacts → Loading → PathName → PathName → Type 0
IsUnread tree loaded path group =
    (rules : List Rule) × IsGovernor tree path (Some rules) × IsMet (text_of tree loaded) rules group
    × (group.owner ≢ tree.owner) × (text_of tree loaded group ≡ None)

-- All groups that are unread for a path, and no others, in order of paths and none twice.
pub record AreUnread (tree : TreeFacts) (loaded : Loading) (path : PathName) (groups : List PathName) : Type 0 where
  pub members : (group : PathName) → Contains groups group ↔ IsUnread tree loaded path group
  pub order : IsStrictlySortedBy path_cmp groups

-- ---- the same as values; `listed` has each path at which the tree has a Group text

-- the rules that govern a path; where no text does, there is none
abbrev pub governing_rules : TreeFacts → PathName → List Rule
governing_rules tree path = unwrap_or (governor tree path) []

-- the groups that are met from the rules of a text
unfoldable pub met_groups : TreeFacts → List PathName → Loading → List Rule → List PathName
met_groups tree listed loaded rules = reached (text_of tree loaded) (listed ++ keys_of loaded) (groups_in (items_for Read rules))

-- the items of the rules that hold read, and of the groups that are met
unfoldable pub standing : TreeFacts → List PathName → Loading → List Rule → List Item
standing tree listed loaded rules = items_for Read rules ++ flat_map (items_in (text_of tree loaded)) (met_groups tree listed loaded rules)

-- who reads by the rules of a text
unfoldable pub readers_by : TreeFacts → List PathName → Loading → List Rule → List Item
readers_by tree listed loaded rules = in_order item_cmp (User tree.owner ∷ filter is_plain (standing tree listed loaded rules))

-- whether a group is another owner's and has no text
abbrev pub lacks_text : TreeFacts → Loading → PathName → Bool
lacks_text tree loaded group = not (bytes_eq group.owner tree.owner) && is_none (text_of tree loaded group)

-- the groups met from the rules of a text that are unread
unfoldable pub lacking : TreeFacts → List PathName → Loading → List Rule → List PathName
lacking tree listed loaded rules = filter (lacks_text tree loaded) (met_groups tree listed loaded rules)

-- who reads at a path
abbrev pub readers : TreeFacts → List PathName → Loading → PathName → List Item
readers tree listed loaded path = readers_by tree listed loaded (governing_rules tree path)

-- the groups that are unread for a path, in order, each once
abbrev pub unread : TreeFacts → List PathName → Loading → PathName → List PathName
unread tree listed loaded path = in_order path_cmp (lacking tree listed loaded (governing_rules tree path))
