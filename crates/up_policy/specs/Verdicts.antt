-- Who has which right where (Upspin access control document). The rule of snapshot trees is this project's own.
use Rattle.std.specs.Prelude.{◌≡◌, Bool, true, false, ◌&&◌, ◌||◌, not, ⊤, IsTrue, MatchBool, MatchOption, if◌then◌else◌, [], ◌++◌, Any}
use Rattle.std.specs.Prelude.{Option, Some, None}
use Rattle.std.specs.Prelude as std
use Rattle.std.specs.List.{list_any, flat_map}
use Rattle.std.specs.Map.{keys_of}
use Rattle.std.specs.Str.{bytes_eq}
use Rattle.up_names.specs.Texts.{UserName}
use Rattle.up_names.specs.declared.items.Item.{Item}
use Rattle.up_names.specs.declared.items.Item.TheVariants as items
use Rattle.up_names.specs.declared.paths.Control.TheVariants as control
use Rattle.up_names.specs.UserNames.{base_of}
use Rattle.up_names.specs.PathNames.{PathName, control_of}
use Rattle.up_rights.specs.declared.Right.{Right}
use Rattle.up_rights.specs.declared.Right.TheVariants.{Read, Write, List as ListRight, Create, Delete}
use Rattle.up_rights.specs.RightSets.{Rights, has_right}
use Rattle.up_access.specs.declared.Rule.{Rule}
use Rattle.up_policy.specs.Trees.{GroupTexts, TreeFacts, owns_snapshots}
use Rattle.up_policy.specs.Loadings.{Loading}
use Rattle.up_policy.specs.Governors.{Governs, governor}
use Rattle.up_policy.specs.Members.{text_of, is_user, groups_in, has_user, IsMember}
use Rattle.up_policy.specs.Reached.{reached}

-- read and list leave a tree as it is
abbrev pub only_looks : Right → Bool
only_looks Read = true
only_looks ListRight = true
only_looks Write = false
only_looks Create = false
only_looks Delete = false

-- a path for an Access or a Group file
abbrev pub is_control : PathName → Bool
is_control path = elim (control_of path) [ control.Ordinary ↦ false | control.Access ↦ true | control.Group ↦ true ]

-- an item that is the user, the user's domain or everyone, or a group that the user belongs to
abbrev pub Means : GroupTexts → UserName → Item → Type 0
Means texts user (items.Group path) = IsMember texts user path
Means texts user items.Everyone = IsTrue (is_user user items.Everyone)
Means texts user (items.Domain domain) = IsTrue (is_user user (items.Domain domain))
Means texts user (items.User name) = IsTrue (is_user user (items.User name))

-- a rule holds the right, and an item that means the user
abbrev pub Grants : GroupTexts → std.List Rule → UserName → Right → Type 0
Grants texts rules user right = Any (λ (rule : Rule). IsTrue (has_right rule.rights right) × Any (Means texts user) rule.items) rules

-- Whether a user has a right on a path of a tree, by the first case that fits.
-- In a snapshot tree: exactly the base user has read and list, and nobody anything else.
-- 1. The owner has read and list.
-- 2. On an Access or a Group path exactly the owner has write, create and delete.
-- 3. Where no text governs the path, exactly the owner has the right.
-- 4. Otherwise exactly those whom a rule of the governing text grants it.
abbrev pub HasRight : TreeFacts → Loading → UserName → Right → PathName → Type 0
HasRight tree loaded user right path =
    MatchBool (owns_snapshots tree.owner) (IsTrue (only_looks right) × (user ≡ base_of tree.owner))
    (MatchBool (bytes_eq user tree.owner && only_looks right) ⊤
    (MatchBool (is_control path && not (only_looks right)) (user ≡ tree.owner)
    ((text : Option (std.List Rule)) × Governs tree.access path text
    × MatchOption text (user ≡ tree.owner) (λ rules. Grants (text_of tree loaded) rules user right))))

-- the items of a rule, where it holds the right
abbrev pub items_by : Right → Rule → std.List Item
items_by right rule = if has_right rule.rights right then rule.items else []

-- the items of the rules that hold a right, in order
abbrev pub items_for : Right → std.List Rule → std.List Item
items_for right rules = flat_map (items_by right) rules

-- whether an item is the user, or a reached group has a text that names the user
unfoldable pub grants : GroupTexts → std.List PathName → UserName → std.List Item → Bool
grants texts listed user items = list_any (is_user user) items || list_any (has_user texts user) (reached texts listed (groups_in items))

-- what is decided without the text that governs: the case of a snapshot tree, and the first two of the others
unfoldable pub without_text : UserName → UserName → Right → PathName → Option Bool
without_text owner user right path =
    if owns_snapshots owner then Some (only_looks right && bytes_eq user (base_of owner))
    else if bytes_eq user owner && only_looks right then Some true
    else if is_control path && not (only_looks right) then Some (bytes_eq user owner)
    else None

-- the last two cases, by the text that governs
unfoldable pub text_decides : TreeFacts → std.List PathName → Loading → UserName → Right → Option (std.List Rule) → Bool
text_decides tree listed loaded user right None = bytes_eq user tree.owner
text_decides tree listed loaded user right (Some rules) =
    grants (text_of tree loaded) (listed ++ keys_of loaded) user (items_for right rules)

-- Whether a user has a right on a path, as a test that computes. `listed` has each path at which the tree has a Group text.
unfoldable pub right_test : TreeFacts → std.List PathName → Loading → UserName → Right → PathName → Bool
right_test tree listed loaded user right path = elim (without_text tree.owner user right path) [
  | Some answer ↦ answer
  | None ↦ text_decides tree listed loaded user right (governor tree path)
]

-- the set of all rights that the user has on the path
unfoldable pub rights_held : TreeFacts → std.List PathName → Loading → UserName → PathName → Rights
rights_held tree listed loaded user path =
    let has = λ (right : Right). right_test tree listed loaded user right path in
    record { read = has Read; write = has Write; list = has ListRight; create = has Create; delete = has Delete }
