-- The changes at and below each path, kept by the numbers of the slots. This project's own.
use Rattle.std.specs.Prelude.{◌≡◌, ◌≢◌, ◌<◌, ◌≤◌, ℕ, false, List, [], ◌∷◌, ◌++◌, length, map, Some, IfSome, slice_get, unwrap_or}
use Rattle.std.specs.Vec.{vec_capacity, vec_len}
use Rattle.up_names.specs.PathNames.{PathName, cut, is_under}
use Rattle.up_entry.specs.declared.records.Rec.{Rec}
use Rattle.up_log_tree.specs.Changes.{changes_some, path_of_change, positions_of}
use Rattle.up_log_tree.specs.Orders.{has_path}
use Rattle.up_mem_tree.specs.Slots.{Known, path_in}
use Rattle.up_mem_tree.specs.declared.changes_below.Under.{Under}

-- the positions of the records that change a path or one below it, in order
abbrev pub unders_of : List Rec → PathName → List ℕ
unders_of records path = positions_of (changes_some (λ name. is_under name path)) 0 records

-- the positions that are kept, whatever room there is besides
abbrev pub noted_all : List Under → List (List ℕ)
noted_all changes_below = map (λ (under : Under). under.positions.items) changes_below

-- the positions that are kept at a number; after the last list there are none
abbrev pub noted_in : List (List ℕ) → ℕ → List ℕ
noted_in lists id = unwrap_or (slice_get lists id) []

-- there is room for one more position at a number
abbrev pub HasRoomAt : List Under → ℕ → Type 0
HasRoomAt changes_below id =
    (under : Under) × (slice_get changes_below id ≡ Some under) × (vec_len under.positions < vec_capacity under.positions)

-- Each slot has the changes at and below its path; a number without a slot has none.
pub record AreNoted (records : List Rec) (slots : List Known) (lists : List (List ℕ)) : Type 0 where
  pub told : (id : ℕ) (path : PathName) → path_in slots id ≡ Some path → noted_in lists id ≡ unders_of records path
  pub spare : (id : ℕ) → length slots ≤ id → noted_in lists id ≡ []
  pub enough : length slots ≤ length lists

-- ---- the way from a path up to its root

-- there is room at the slots of the first elements of a path, from so many on
abbrev pub HasRoomFrom : List Under → List Known → PathName → ℕ → Type 0
HasRoomFrom changes_below slots path low =
    (m id : ℕ) → low ≤ m → m ≤ length path.elements → path_in slots id ≡ Some (cut m path) → HasRoomAt changes_below id

-- a record that changes the path can be noted, without memory
pub record CanNote (changes_below : List Under) (slots : List Known) (path : PathName) : Type 0 where
  pub way : HasRoomFrom changes_below slots path 0
  pub spare : HasRoomAt changes_below (length slots)

-- a record that changes a path can be noted without memory
abbrev pub CanNoteRecord : List Under → List Known → Rec → Type 0
CanNoteRecord changes_below slots rec = IfSome (path_of_change rec) (CanNote changes_below slots)

-- the number is that of a slot of the first elements of a path, from so many on
abbrev pub IsOnWay : List Known → PathName → ℕ → ℕ → Type 0
IsOnWay slots path low id = (m : ℕ) × (low ≤ m) × (m ≤ length path.elements) × (path_in slots id ≡ Some (cut m path))

-- a position was noted at these slots, and all others are as before
pub record NotesWay (slots : List Known) (path : PathName) (low position : ℕ) (old new : List Under) : Type 0 where
  pub more : (id : ℕ) → IsOnWay slots path low id → noted_in (noted_all new) id ≡ noted_in (noted_all old) id ++ position ∷ []
  pub rest : (id : ℕ) → (IsOnWay slots path low id → ⊥) → slice_get new id ≡ slice_get old id
  pub size : length new ≡ length old

-- a position was noted at the slots on the way to a path, and at the next number, where the path has no slot yet
pub record Notes (slots : List Known) (paths : List PathName) (path : PathName) (position : ℕ) (old new : List Under) : Type 0 where
  pub way : (id : ℕ) → IsOnWay slots path 0 id → noted_in (noted_all new) id ≡ noted_in (noted_all old) id ++ position ∷ []
  pub own : has_path paths path ≡ false → noted_in (noted_all new) (length slots) ≡ noted_in (noted_all old) (length slots) ++ position ∷ []
  pub rest : (id : ℕ) → (IsOnWay slots path 0 id → ⊥) → (has_path paths path ≡ false → id ≢ length slots)
      → noted_in (noted_all new) id ≡ noted_in (noted_all old) id
  pub size : length new ≡ length old
