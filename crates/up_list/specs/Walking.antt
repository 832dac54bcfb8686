-- How the rows of a pattern are found by a walk, level by level, from the path of the literal elements in front: what is met in
-- each directory on the way. (That these are the rows is proved; nothing outside rests on these definitions.)
use Rattle.std.specs.Prelude.{ℕ, zero, suc, ◌-◌, ◌==◌, Bool, not, ◌&&◌, ◌||◌, if◌then◌else◌}
use Rattle.std.specs.Prelude.{List, [], ◌++◌, length, map, filter, slice_index_or, Option, Some, None}
use Rattle.std.specs.List.{filter_map, flat_map}
use Rattle.up_names.specs.PathNames.{PathName}
use Rattle.up_entry.specs.declared.entries.Entry.{Entry}
use Rattle.up_entry.specs.Rules.{is_directory}
use Rattle.up_pattern.specs.declared.terms.Term.{Term}
use Rattle.up_pattern.specs.Patterns.{PatternName}
use Rattle.up_entry.specs.Showing.{shown_as}
use Rattle.up_rights.specs.RightSets.{Rights, has_any}
use Rattle.up_wire.specs.declared.replies.Row.{Row}
use Rattle.up_log_tree.specs.Trees.{is_link}
use Rattle.up_list.specs.Entries.{entries_in}
use Rattle.up_list.specs.Globs.{is_literal, matches_name}
use Rattle.up_list.specs.Looks.{Look, rights}

-- the element of a pattern at a place, from 0
abbrev pub element_at : PatternName → ℕ → List Term
element_at pattern at = slice_index_or pattern.elements at []

-- the element of an item's path at a place, from 0
abbrev pub name_at : ℕ → Entry → List ℕ
name_at at entry = slice_index_or entry.name.elements at []

-- the element of the path at this place matches that of the pattern
abbrev pub is_match : PatternName → ℕ → Entry → Bool
is_match pattern at entry = matches_name (element_at pattern at) (name_at at entry)

-- the items in a directory of `at` elements that are met: those whose names match, where list holds on it or the element is literal
abbrev pub met_in : Look → PatternName → ℕ → PathName → List Entry
met_in look pattern at dir =
    if is_literal (element_at pattern at) || (rights look dir).list then filter (is_match pattern at) (entries_in look.tree dir) else []

-- the row of an item that is shown by these rights on it; where the element is literal, one of them has to be held
abbrev pub row_held : PatternName → ℕ → Rights → Entry → Option Row
row_held pattern at held entry =
    if not (is_literal (element_at pattern at)) || has_any held
    then Some (record { entry = shown_as held.read entry; rest = length pattern.elements - suc at }) else None

-- an item that matches the last element, or a link, may have a row
abbrev pub has_row : PatternName → ℕ → Entry → Bool
has_row pattern at entry = suc at == length pattern.elements || is_link entry.attr.kind

-- the row of an item that is met
abbrev pub row_met : Look → PatternName → ℕ → Entry → Option Row
row_met look pattern at entry =
    if has_row pattern at entry then row_held pattern at (rights look entry.name) entry else None

-- a directory that does not match the last element is walked into
abbrev pub goes_on : PatternName → ℕ → Entry → Bool
goes_on pattern at entry = is_directory entry.attr.kind && not (suc at == length pattern.elements)

-- the directories among these items that are walked into
abbrev pub further : PatternName → ℕ → List Entry → List PathName
further pattern at entries = map (λ (entry : Entry). entry.name) (filter (goes_on pattern at) entries)

-- what is met in several directories, one after the other
abbrev pub met_from : Look → PatternName → ℕ → List PathName → List Entry
met_from look pattern at dirs = flat_map (met_in look pattern at) dirs

-- the rows of n more levels from these directories of `at` elements on
abbrev pub walked : Look → PatternName → ℕ → ℕ → List PathName → List Row
walked look pattern zero at dirs = []
walked look pattern (suc n) at dirs =
    let met = met_from look pattern at dirs in
    filter_map (row_met look pattern at) met ++ walked look pattern n (suc at) (further pattern at met)
