-- The directories that a walk has still to look into.
use Rattle.std.specs.Prelude.{◌≡◌, ℕ, suc, Bool, List, ◌++◌, length, map, Some, Result, IfOk}
use Rattle.std.specs.declared.alloc.AllocError.{AllocError}
use Rattle.std.specs.List.{AllByRecursion, filter_map}
use Rattle.std.specs.Ordering.{is_lt}
use Rattle.up_names.specs.PathNames.{PathName, parent_of}
use Rattle.up_names.specs.PathOrder.{path_cmp}
use Rattle.up_entry.specs.declared.entries.Entry.{Entry}
use Rattle.up_list.specs.Deciding.{IsDecided}
use Rattle.up_list.specs.Entries.{entry_at}
use Rattle.up_list.specs.Looks.{Look, rights}
use Rattle.up_list.specs.Walking.{further, met_from, row_met}
use Rattle.up_rights.specs.RightSets.{Rights}
use Rattle.up_list.specs.declared.decided.Decided.{Decided}
use Rattle.up_list.specs.declared.walk.Place.{Place}
use Rattle.up_list.specs.declared.walk.Walk.{Walk}
use Rattle.up_pattern.specs.Patterns.{PatternName}
use Rattle.up_wire.specs.declared.replies.Row.{Row}

-- a row stands before another where its path does
abbrev pub is_before : Row → Row → Bool
is_before one two = is_lt (path_cmp one.entry.name two.entry.name)

-- the path of a place
abbrev pub path_in : Place → PathName
path_in place = place.path

-- a path of the owner with so many elements, and what was decided under the text that governs it
pub record IsPlace (look : Look) (at : ℕ) (place : Place) : Type 0 where
  pub owned : place.path.owner ≡ look.owner
  pub size : length place.path.elements ≡ at
  pub decided : IsDecided look place.path place.decided

-- all of these are such places
abbrev pub ArePlaces : Look → ℕ → List Place → Type 0
ArePlaces look at places = AllByRecursion (IsPlace look at) places

-- an entry is of the tree's owner
abbrev pub IsOwned : Look → Entry → Type 0
IsOwned look entry = entry.name.owner ≡ look.owner

-- an item that stands in a directory with so many elements
pub record IsIn (look : Look) (at : ℕ) (dir : PathName) (entry : Entry) : Type 0 where
  pub stands : entry_at look.tree entry.name ≡ Some entry
  pub parent : parent_of entry.name ≡ Some dir
  pub size : length dir.elements ≡ at

-- What is known of an item in a directory, once its rights were decided: its rights, what holds below it, and what holds in the
-- directory.
pub record IsBelow (look : Look) (dir : PathName) (entry : Entry) (now : Decided)
    (result : Result (Rights × Decided) AllocError) : Type 0 where
  pub held : IfOk result (λ found. found.0 ≡ rights look entry.name)
  pub below : IfOk result (λ found. IsDecided look entry.name found.1)
  pub kept : IsDecided look dir now

-- A walk has met these items more, in directories of `at` elements: their rows are found, and those that are walked into are places.
pub record Meets (look : Look) (pattern : PatternName) (at : ℕ) (old new : Walk) (entries : List Entry) : Type 0 where
  pub rows : new.rows.items ≡ old.rows.items ++ filter_map (row_met look pattern at) entries
  pub paths : map path_in new.places.items ≡ map path_in old.places.items ++ further pattern at entries
  pub places : ArePlaces look (suc at) old.places.items → ArePlaces look (suc at) new.places.items

-- A walk has looked into all its places, of `at` elements: the rows of what was met are found, and what is walked into is the next level.
pub record IsNextLevel (look : Look) (pattern : PatternName) (at : ℕ) (old new : Walk) : Type 0 where
  pub rows : new.rows.items
      ≡ old.rows.items ++ filter_map (row_met look pattern at) (met_from look pattern at (map path_in old.places.items))
  pub paths : map path_in new.places.items ≡ further pattern at (met_from look pattern at (map path_in old.places.items))
  pub places : ArePlaces look (suc at) new.places.items
