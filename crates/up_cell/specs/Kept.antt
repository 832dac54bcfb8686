-- The rule of a cell: word 0 is the count of entries, word 1 is 1 while a seat has the turn, and slot 0 has the state. Of word 2, how many
-- sleep until the turn is given back, it says nothing. This project's own.
use Rattle.std.specs.Prelude.{◌≡◌, ℕ, ◌+◌, ◌^◌, ◌<◌, ◌≤◌, true, false, List, [], length, slice_index, Option, Some}
use mathlib.Core.Option.{some}
use lib.ListN.{get_elem?}
use Rattle.atomic_table.specs.Table.{State}
use Rattle.up_cell.specs.Positions.{Rising, above, times, total}
use Rattle.up_cell.specs.Views.{weight}
use Rattle.up_cell.specs.declared.view.View.{View}
use Rattle.up_lists.specs.Begins.{Begins}

-- a beginning of the entries that is no longer than what was seen
pub record IsOld {E : Type 0} (log seen old : List E) : Type 0 where
  pub begins : Begins old log
  pub short : length old ≤ length seen

-- What a seat knows fits the entries and the cell as it was made. The number of its halvings is at most the depth. Who has the turn is
-- the holder, and has seen all entries; who has no share has nothing.
pub record Fits {E F : Type 0} (base : ℕ) (made : F) (log : List E) (depth turn holder id : ℕ) (v : View E F) : Type 0 where
  pub seen : Begins v.seen log
  pub olds : (k : ℕ) (old : List E) → get_elem? v.olds k ≡ some old → IsOld log v.seen old
  pub floor : v.floor ≤ length log
  pub made_at : 0 < v.part → (v.base ≡ base) × (v.fixed ≡ Some made)
  pub spent : v.part ≡ 0 → (v.own ≡ []) × (v.turn ≡ false)
  pub halvings : v.halvings ≤ depth
  pub rising : Rising v.own
  pub in_turn : v.turn ≡ true → (turn ≡ 1) × (id ≡ holder) × (v.seen ≡ log)

-- the state, with these entries and this fixed part, is in the slot
pub record IsHome {S E F : Type 0} (entries : S → List E) (fixed : S → F) (made : F) (log : List E)
    (homes : List (mathlib.Core.Option.Option (Option S))) : Type 0 where
  pub state : S
  pub home : get_elem? homes 0 ≡ some (some (Some state))
  pub log_is : entries state ≡ log
  pub fixed_is : fixed state ≡ made

-- The count is that of the entries. While the turn is taken, one seat has it, and the entries are those that it has seen; else the slot has
-- the state. Each position above the base and up to the count is in one seat's own, once, and no other is. The shares add to one.
pub record Kept {S E F : Type 0} (entries : S → List E) (fixed : S → F) (base : ℕ) (made : F)
    (s : State (Option S) (View E F)) : Type 0 where
  pub log : List E
  pub depth : ℕ
  pub holder : ℕ
  pub wide : length s.words ≡ 3
  pub one_slot : length s.homes ≡ 1
  pub count : slice_index s.words 0 ≡ length log
  pub base_is : base ≤ length log
  pub turn : slice_index s.words 1 ≤ 1
  pub taken : slice_index s.words 1 ≡ 1 → (v : View E F) × (get_elem? s.views holder ≡ some v) × (v.turn ≡ true)
  pub home : slice_index s.words 1 ≡ 0 → IsHome entries fixed made log s.homes
  pub each : (j : ℕ) (v : View E F) → get_elem? s.views j ≡ some v → Fits base made log depth (slice_index s.words 1) holder j v
  pub once : (x : ℕ) → total (λ (v : View E F). times x v.own) s.views + above (length log) x ≡ above base x
  pub whole : total (weight depth) s.views ≡ 2 ^ depth
