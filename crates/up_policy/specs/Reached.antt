-- Which groups are reached from the groups that a text names, in order of first mention; and which of them have to be
-- loaded (this project's own).
use Rattle.std.specs.Prelude.{◌≡◌, ℕ, zero, suc, ◌≤◌, Bool, ◌&&◌, not, if◌then◌else◌, List, [], ◌∷◌, ◌++◌, length, take, fold, filter}
use Rattle.std.specs.Prelude.{slice_get, Some, None, is_none}
use Rattle.std.specs.List.{list_any, flat_map}
use Rattle.std.specs.Map.{keys_of}
use Rattle.std.specs.Str.{bytes_eq}
use Rattle.up_names.specs.PathNames.{PathName}
use Rattle.up_names.specs.PathOrder.{path_eq}
use Rattle.up_access.specs.declared.Rule.{Rule}
use Rattle.up_policy.specs.Trees.{GroupTexts, TreeFacts}
use Rattle.up_policy.specs.Loadings.{Loading, answer_for}
use Rattle.up_policy.specs.Governors.{governor}
use Rattle.up_policy.specs.Members.{text_of, groups_in, names_in}

-- whether a path is among these
abbrev pub is_among : List PathName → PathName → Bool
is_among paths path = list_any (path_eq path) paths

-- the list with the path at its end, where it does not have it yet
abbrev pub with_path : List PathName → PathName → List PathName
with_path paths path = if is_among paths path then paths else paths ++ path ∷ []

-- the list with each of these at its end, in order and without repeats
abbrev pub with_paths : List PathName → List PathName → List PathName
with_paths paths more = fold with_path paths more

-- the list after a look at the group at place n: the groups that its text names are appended
abbrev pub after_look : GroupTexts → ℕ → List PathName → List PathName
after_look texts n met = elim (slice_get met n) [ None ↦ met | Some group ↦ with_paths met (names_in texts group) ]

-- The groups met from the first ones, after a look at the first n of them in turn.
abbrev pub met_after : GroupTexts → List PathName → ℕ → List PathName
met_after texts starts zero = with_paths [] starts
met_after texts starts (suc n) = after_look texts n (met_after texts starts n)

-- The reached list: the groups met from the first ones once each of them was looked at. It is one list, however many
-- looks found nothing more.
abbrev pub IsReached : GroupTexts → List PathName → List PathName → Type 0
IsReached texts starts met = (n : ℕ) × (met ≡ met_after texts starts n) × (length met ≤ n)

-- the groups that can be met: the first ones, and those that the texts of the listed groups name
abbrev pub nameable : GroupTexts → List PathName → List PathName → List PathName
nameable texts listed starts = starts ++ flat_map (names_in texts) listed

-- The reached list as a value, where each group that has a text is listed: no more than the groups that can be met
-- have to be looked at.
unfoldable pub reached : GroupTexts → List PathName → List PathName → List PathName
reached texts listed starts = met_after texts starts (length (nameable texts listed starts))

-- the groups that all rules of a text name, in order
abbrev pub groups_named : List Rule → List PathName
groups_named rules = flat_map (λ (rule : Rule). groups_in rule.items) rules

-- has to be loaded: a group of another owner that the loading has no answer for
abbrev pub is_wanted : TreeFacts → Loading → PathName → Bool
is_wanted tree loaded group = not (bytes_eq group.owner tree.owner) && is_none (answer_for loaded group)

-- The needed groups of a text: those to be loaded among the groups that are reached from those that its rules name.
-- `listed` has each path at which the tree has a Group text.
unfoldable pub needed_by : TreeFacts → List PathName → Loading → List Rule → List PathName
needed_by tree listed loaded rules =
    filter (is_wanted tree loaded) (reached (text_of tree loaded) (listed ++ keys_of loaded) (groups_named rules))

-- The needed groups of a path: those of the text that governs it.
unfoldable pub needed : TreeFacts → List PathName → Loading → PathName → List PathName
needed tree listed loaded path = elim (governor tree path) [ None ↦ [] | Some rules ↦ needed_by tree listed loaded rules ]

-- the first of these paths, perhaps not all, were added to the list
abbrev pub AddsPart : List PathName → List PathName → List PathName → Type 0
AddsPart old now paths = (n : ℕ) × (now ≡ with_paths old (take n paths))
