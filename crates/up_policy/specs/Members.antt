-- Who belongs to a group (Upspin access control document): by lists of groups, each of which names the next.
use Rattle.std.specs.Prelude.{Bool, true, false, IsTrue, if◌then◌else◌, List, [], ◌∷◌, Contains, Option, Some, None, unwrap_or}
use Rattle.std.specs.List.{list_any, filter_map}
use Rattle.std.specs.Str.{bytes_eq}
use Rattle.up_names.specs.Texts.{UserName}
use Rattle.up_names.specs.declared.items.Item.{Item}
use Rattle.up_names.specs.declared.items.Item.TheVariants.{Everyone, Domain, User, Group}
use Rattle.up_names.specs.UserNames.{domain_part}
use Rattle.up_names.specs.PathNames.{PathName}
use Rattle.up_policy.specs.Trees.{GroupTexts, TreeFacts}
use Rattle.up_policy.specs.Loadings.{Loading, loaded_text}

-- the text of a group: the tree's own for a group of the tree's owner, and for any other the text that was loaded
abbrev pub text_of : TreeFacts → Loading → PathName → Option (List Item)
text_of tree loaded group = if bytes_eq group.owner tree.owner then tree.group group else loaded_text loaded group

-- an item that is the user, the user's domain or everyone
abbrev pub is_user : UserName → Item → Bool
is_user user Everyone = true
is_user user (Domain domain) = bytes_eq domain (domain_part user)
is_user user (User name) = bytes_eq name user
is_user user (Group path) = false

-- the group that an item is
abbrev pub group_in : Item → Option PathName
group_in (Group path) = Some path
group_in Everyone = None
group_in (Domain domain) = None
group_in (User name) = None

-- the groups among items, in order
abbrev pub groups_in : List Item → List PathName
groups_in items = filter_map group_in items

-- the items of the text of a group; none where it has no text
abbrev pub items_in : GroupTexts → PathName → List Item
items_in texts group = unwrap_or (texts group) []

-- the groups that the text of a group names, in order
abbrev pub names_in : GroupTexts → PathName → List PathName
names_in texts group = groups_in (items_in texts group)

-- whether the text of a group names the user, the user's domain or everyone
abbrev pub has_user : GroupTexts → UserName → PathName → Bool
has_user texts user group = list_any (is_user user) (items_in texts group)

-- A list of groups, the first and those after it, that shows that the user belongs to the first: the text of each but
-- the last names the next, and the text of the last names the user, the user's domain or everyone.
abbrev pub Chain : GroupTexts → UserName → PathName → List PathName → Type 0
Chain texts user first [] = IsTrue (has_user texts user first)
Chain texts user first (next ∷ behind) = Contains (names_in texts first) next × Chain texts user next behind

-- The user belongs to the group: there is such a list that begins with it. A cycle of groups adds nobody.
abbrev pub IsMember : GroupTexts → UserName → PathName → Type 0
IsMember texts user group = (behind : List PathName) × Chain texts user group behind
