-- The changes of a log by their paths and positions. This project's own.
use Rattle.std.specs.Prelude.{ℕ, zero, suc, ◌-◌, Bool, false, if◌then◌else◌, List, [], ◌∷◌, take, drop, Option, Some, None, slice_get}
use Rattle.std.specs.List.{last_or}
use Rattle.std.specs.Option.{option_and_then}
use Rattle.up_names.specs.PathNames.{PathName, is_under}
use Rattle.up_names.specs.PathOrder.{path_eq}
use Rattle.up_entry.specs.declared.records.Rec.{Rec}
use Rattle.up_entry.specs.declared.records.Rec.TheVariants.{Put, Delete, Snap}

-- the path that a record changes: that of the entry put, or of the item deleted; a Snap changes none
abbrev pub path_of_change : Rec → Option PathName
path_of_change (Put entry text) = Some entry.name
path_of_change (Delete path) = Some path
path_of_change (Snap time) = None

-- a record changes a path that passes a test
abbrev pub changes_some : (PathName → Bool) → Rec → Bool
changes_some test rec = elim (path_of_change rec) [ None ↦ false | Some path ↦ test path ]

-- the positions of the records that pass a test, in order, n records standing before these
abbrev pub positions_of : (Rec → Bool) → ℕ → List Rec → List ℕ
positions_of test n [] = []
positions_of test n (rec ∷ records) = if test rec then suc n ∷ positions_of test (suc n) records else positions_of test (suc n) records

-- the positions above `above` of the Put and Delete records on paths under a path, in order
unfoldable pub changes_under : List Rec → PathName → ℕ → List ℕ
changes_under records path above = positions_of (changes_some (λ name. is_under name path)) above (drop above records)

-- the position of the last change of a path
unfoldable pub last_change : List Rec → PathName → Option ℕ
last_change records path = last_or None (positions_of (changes_some (path_eq path)) 0 records)

-- the record at a position, from 1
abbrev pub record_at : List Rec → ℕ → Option Rec
record_at records zero = None
record_at records (suc n) = slice_get records n

-- the position of the last record before position n that changes the path which record n changes
unfoldable pub change_before : List Rec → ℕ → Option ℕ
change_before records n = option_and_then (last_change (take (n - 1) records)) (option_and_then path_of_change (record_at records n))
