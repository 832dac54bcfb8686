-- The changes at and below each path: lists by the numbers of slots.
use Rattle.std.proofs.Common.{◌≡◌, ◌≢◌, ◌⊎◌, ℕ, zero, suc, ◌+◌, ◌<◌, ◌≤◌, ◌==◌, Bool, true, false, List, [], ◌∷◌, ◌++◌, get_or, length, refl, sym, ap, subst, ◌∙◌, inl, inr, arith, Some, None}
use Rattle.std.proofs.Math.ListN.{set}
use Rattle.std.specs.Prelude.{slice_get, unwrap_or}
use Rattle.std.specs.Option.{option_map}
use Rattle.std.proofs.lemmas.Bool.{cases_lt, eqb-false, eqb-true, false≢true}
use Rattle.std.proofs.lemmas.List.{length-map}
use Rattle.std.proofs.lemmas.Option.{slice_get-get_or, slice_get-map}
use Rattle.up_names.specs.PathNames.{PathName, cut}
use Rattle.up_mem_tree.specs.Kept.{Stands, paths_of, slots_of}
use Rattle.std.specs.Vec.{vec_len}
use Rattle.up_mem_tree.specs.Slots.{IsDeepest, Known, known, path_in}
use Rattle.up_mem_tree.specs.ChangesBelow.{CanNote, HasRoomAt, HasRoomFrom, IsOnWay, Notes, NotesWay, noted_all, noted_in}
use Rattle.up_mem_tree.specs.declared.kept.Kept.{Kept}
use Rattle.up_mem_tree.specs.declared.changes_below.Under.{Under}
use Rattle.up_log_tree.specs.Orders.{has_path as has}
use Rattle.up_log_tree.proofs.Paths.{length_cut, some_same}
use Rattle.up_mem_tree.proofs.SlotLemmas.{get_set}
use Rattle.up_mem_tree.proofs.Walks.{id_within, not_deepest, of_deepest}

pub same_or_other : (a b : ℕ) → (a ≡ b) ⊎ (a ≡ b → ⊥)
same_or_other a b = elim (cases_lt a b) [
  | inl lt ↦ inr (λ same. absurd (omega (arith, lt, same)))
  | inr ge ↦ elim (cases_lt b a) [
    | inl lt ↦ inr (λ same. absurd (omega (arith, lt, same)))
    | inr le ↦ inl (omega (arith, ge, le))
  ]
]

-- ---- what stands at a number

abbrev positions_in : Under → List ℕ
positions_in under = under.positions.items

at_number : (changes_below : List Under) (id : ℕ) → noted_in (noted_all changes_below) id ≡ unwrap_or (option_map positions_in (slice_get changes_below id)) []
at_number changes_below id = ap (λ o. unwrap_or o []) (slice_get-map positions_in changes_below id)

pub noted_alike : (one two : List Under) (id : ℕ) → slice_get one id ≡ slice_get two id → noted_in (noted_all one) id ≡ noted_in (noted_all two) id
noted_alike one two id same = at_number one id ∙ ap (λ o. unwrap_or (option_map positions_in o) []) same ∙ sym (at_number two id)

pub room_alike : (one two : List Under) (id : ℕ) → slice_get one id ≡ slice_get two id → HasRoomAt two id → HasRoomAt one id
room_alike one two id same room = (room.0, same ∙ room.1, room.2)

pub as_long : (one two : List Under) → noted_all one ≡ noted_all two → length one ≡ length two
as_long one two same = sym (length-map one positions_in) ∙ ap length same ∙ length-map two positions_in

-- one that was read by its number
pub under_read : (changes_below : List Under) (id : ℕ) (under : Under) → id < length changes_below → under ≡ get_or changes_below id under → slice_get changes_below id ≡ Some under
under_read changes_below id under within read = slice_get-get_or changes_below id under within ∙ ap Some (sym read)

-- one of them has other room
pub noted_set : (changes_below : List Under) (id : ℕ) (old new : Under) → slice_get changes_below id ≡ Some old → new.positions.items ≡ old.positions.items → noted_all (set changes_below id new) ≡ noted_all changes_below
noted_set [] id old new there same = refl
noted_set (under ∷ changes_below) zero old new there same = ap (λ l. l ∷ noted_all changes_below) (same ∙ ap positions_in (sym (some_same under old there)))
noted_set (under ∷ changes_below) (suc id) old new there same = ap (λ ls. under.positions.items ∷ ls) (noted_set changes_below id old new there same)

-- or one more position
pub noted_more : (changes_below : List Under) (id position : ℕ) (old new : Under) → slice_get changes_below id ≡ Some old → new.positions.items ≡ old.positions.items ++ position ∷ []
    → noted_in (noted_all (set changes_below id new)) id ≡ noted_in (noted_all changes_below) id ++ position ∷ []
noted_more changes_below id position old new there more =
    at_number (set changes_below id new) id ∙ ap (λ o. unwrap_or (option_map positions_in o) []) (get_set changes_below id old new there) ∙ more
    ∙ sym (ap (λ l. l ++ position ∷ []) (at_number changes_below id ∙ ap (λ o. unwrap_or (option_map positions_in o) []) there))

-- an empty one behind them
pub noted_push : (changes_below : List Under) (under : Under) → under.positions.items ≡ [] → (id : ℕ) → noted_in (noted_all (changes_below ++ under ∷ [])) id ≡ noted_in (noted_all changes_below) id
noted_push [] under none zero = none
noted_push [] under none (suc id) = refl
noted_push (first ∷ changes_below) under none zero = refl
noted_push (first ∷ changes_below) under none (suc id) = noted_push changes_below under none id

pub get_before : {X : Type 0} (xs : List X) (x : X) (i : ℕ) → i < length xs → slice_get (xs ++ x ∷ []) i ≡ slice_get xs i
get_before [] x i lt = absurd (omega (arith, lt))
get_before (y ∷ xs) x zero lt = refl
get_before (y ∷ xs) x (suc i) lt = get_before xs x i (omega (arith, lt))

-- a slot at each number below their count
pub path_there_at : (slots : List Known) (id : ℕ) → id < length slots → (path : PathName) × (path_in slots id ≡ Some path)
unfolding path_in
path_there_at [] id lt = absurd (omega (arith, lt))
path_there_at (slot ∷ slots) zero lt = (slot.path, refl)
path_there_at (slot ∷ slots) (suc id) lt = path_there_at slots id (omega (arith, lt))

-- the number behind the last slot
pub next_number : (kept : Kept) (n : ℕ) → n ≡ vec_len kept.slots → n ≡ length (slots_of kept)
next_number kept n is = is ∙ kept.slots.ok.0 ∙ sym (length-map kept.slots.items known)

-- ---- the way up

module _ (kept : Kept) (stands : Stands kept) (path : PathName) where
  pub way_within : (low id : ℕ) → IsOnWay (slots_of kept) path low id → id < length (slots_of kept)
  way_within low id way = id_within (slots_of kept) id (cut way.0 path) way.3

  -- a slot has the first elements of a path, and no more of them
  pub not_further : (m id : ℕ) → m ≤ length path.elements → path_in (slots_of kept) id ≡ Some (cut m path) → IsOnWay (slots_of kept) path (m + 1) id → ⊥
  not_further m id le at way =
      let same : m ≡ way.0 = sym (length_cut m path le) ∙ ap (λ (p : PathName). length p.elements) (some_same (cut m path) (cut way.0 path) (sym at ∙ way.3)) ∙ length_cut way.0 path way.2 in
      let lower = way.1 in
      absurd (omega (arith, same, lower))

  -- one on the way is this one, or further down
  pub this_or_further : (m id other : ℕ) → path_in (slots_of kept) id ≡ Some (cut m path) → IsOnWay (slots_of kept) path m other → (other ≡ id) ⊎ IsOnWay (slots_of kept) path (m + 1) other
  this_or_further m id other at way = elim (cases_lt m way.0) [
    | inl lt ↦ inr (way.0, let e : m + 1 ≤ way.0 = omega (arith, lt) in e, way.2, way.3)
    | inr ge ↦
        let lower = way.1 in
        inl (stands.linked.alone other id (cut m path) (way.3 ∙ ap (λ k. Some (cut k path)) (let e : way.0 ≡ m = omega (arith, ge, lower) in e)) at)
  ]

  pub further : (m id : ℕ) → IsOnWay (slots_of kept) path (m + 1) id → IsOnWay (slots_of kept) path m id
  further m id way = let lower = way.1 in (way.0, let e : m ≤ way.0 = omega (arith, lower) in e, way.2, way.3)

  -- none is further down than the deepest
  pub none_further : (depth deepest id : ℕ) → IsDeepest (paths_of kept) (slots_of kept) path (Some (depth, deepest)) → IsOnWay (slots_of kept) path (depth + 1) id → ⊥
  none_further depth deepest id deep way =
      let lower = way.1 in
      false≢true (sym ((deep.some depth deepest refl).2 way.0 (omega (arith, lower)) way.2) ∙ stands.linked.only id (cut way.0 path) way.3)

  pub none_on_way : (id : ℕ) → IsDeepest (paths_of kept) (slots_of kept) path None → IsOnWay (slots_of kept) path 0 id → ⊥
  none_on_way id deep way = false≢true (sym (deep.none refl way.0 way.2) ∙ stands.linked.only id (cut way.0 path) way.3)

  -- the deepest is the path's own where it has as many elements
  pub named_at : (depth deepest : ℕ) (whole : Bool) → IsDeepest (paths_of kept) (slots_of kept) path (Some (depth, deepest)) → whole ≡ (depth == length path.elements) → whole ≡ has (paths_of kept) path
  named_at depth deepest whole deep is = is ∙ by (depth == length path.elements) refl
    where
      by : (b : Bool) → (depth == length path.elements) ≡ b → (depth == length path.elements) ≡ has (paths_of kept) path
      by true same = same ∙ sym (stands.linked.only deepest path (of_deepest kept.owner (paths_of kept) (slots_of kept) stands.linked path depth deepest deep (eqb-true depth (length path.elements) same)))
      by false apart = apart ∙ sym (not_deepest kept.owner (paths_of kept) (slots_of kept) stands.linked path depth deepest deep (eqb-false depth (length path.elements) apart))

  -- ---- room

  pub room_below : (changes_below : List Under) (depth deepest : ℕ) → IsDeepest (paths_of kept) (slots_of kept) path (Some (depth, deepest)) → HasRoomFrom changes_below (slots_of kept) path (depth + 1)
  room_below changes_below depth deepest deep m id low le there = absurd (none_further depth deepest id deep (m, low, le, there))

  pub room_nowhere : (changes_below : List Under) → IsDeepest (paths_of kept) (slots_of kept) path None → HasRoomFrom changes_below (slots_of kept) path 0
  room_nowhere changes_below deep m id low le there = absurd (none_on_way id deep (m, low, le, there))

  pub room_more : (old new : List Under) (m id : ℕ) → path_in (slots_of kept) id ≡ Some (cut m path) → HasRoomFrom old (slots_of kept) path (m + 1) → ((i : ℕ) → i ≢ id → slice_get new i ≡ slice_get old i) → HasRoomAt new id
      → HasRoomFrom new (slots_of kept) path m
  room_more old new m id at room others here k other low le there = by (same_or_other other id)
    where
      lower : (other ≡ id → ⊥) → (other ≡ id) ⊎ IsOnWay (slots_of kept) path (m + 1) other → HasRoomAt old other
      lower apart (inl same) = absurd (apart same)
      lower apart (inr way) = room way.0 other way.1 way.2 way.3

      by : (other ≡ id) ⊎ (other ≡ id → ⊥) → HasRoomAt new other
      by (inl same) = subst (HasRoomAt new) (sym same) here
      by (inr apart) = room_alike new old other (others other apart) (lower apart (this_or_further m id other at (k, low, le, there)))

  pub can_note : (mid new : List Under) → HasRoomFrom mid (slots_of kept) path 0 → ((i : ℕ) → i < length (slots_of kept) → slice_get new i ≡ slice_get mid i) → HasRoomAt new (length (slots_of kept)) → CanNote new (slots_of kept) path
  can_note mid new room others spare = record {
    way = λ m id low le there. room_alike new mid id (others id (id_within (slots_of kept) id (cut m path) there)) (room m id low le there);
    spare = spare;
  }

  -- ---- notes

  pub notes_none : (changes_below : List Under) (depth deepest position : ℕ) → IsDeepest (paths_of kept) (slots_of kept) path (Some (depth, deepest)) → NotesWay (slots_of kept) path (depth + 1) position changes_below changes_below
  notes_none changes_below depth deepest position deep = record { more = λ id way. absurd (none_further depth deepest id deep way); rest = λ id off. refl; size = refl }

  pub notes_nowhere : (changes_below : List Under) (position : ℕ) → IsDeepest (paths_of kept) (slots_of kept) path None → NotesWay (slots_of kept) path 0 position changes_below changes_below
  notes_nowhere changes_below position deep = record { more = λ id way. absurd (none_on_way id deep way); rest = λ id off. refl; size = refl }

  -- there is room at the next slot up
  pub room_next : (old now : List Under) (m id position : ℕ) → m ≤ length path.elements → path_in (slots_of kept) id ≡ Some (cut m path) → HasRoomFrom old (slots_of kept) path 0 → NotesWay (slots_of kept) path (m + 1) position old now → HasRoomAt now id
  room_next old now m id position le at room notes = room_alike now old id (notes.rest id (not_further m id le at)) (room m id (omega arith) le at)

  pub notes_more : (old mid new : List Under) (m id position : ℕ) → m ≤ length path.elements → path_in (slots_of kept) id ≡ Some (cut m path) → NotesWay (slots_of kept) path (m + 1) position old mid
      → noted_in (noted_all new) id ≡ noted_in (noted_all mid) id ++ position ∷ [] → ((i : ℕ) → i ≢ id → slice_get new i ≡ slice_get mid i) → length new ≡ length mid → NotesWay (slots_of kept) path m position old new
  notes_more old mid new m id position le at notes more others size = record {
    more = λ other way. by_more other way (same_or_other other id);
    rest = λ other off. others other (λ same. off (subst (IsOnWay (slots_of kept) path m) (sym same) (m, omega arith, le, at))) ∙ notes.rest other (λ way. off (further m other way));
    size = size ∙ notes.size;
  }
    where
      lower : (other : ℕ) → (other ≡ id → ⊥) → (other ≡ id) ⊎ IsOnWay (slots_of kept) path (m + 1) other → IsOnWay (slots_of kept) path (m + 1) other
      lower other apart (inl same) = absurd (apart same)
      lower other apart (inr way) = way

      here : noted_in (noted_all new) id ≡ noted_in (noted_all old) id ++ position ∷ []
      here = more ∙ ap (λ l. l ++ position ∷ []) (noted_alike mid old id (notes.rest id (not_further m id le at)))

      by_more : (other : ℕ) → IsOnWay (slots_of kept) path m other → (other ≡ id) ⊎ (other ≡ id → ⊥) → noted_in (noted_all new) other ≡ noted_in (noted_all old) other ++ position ∷ []
      by_more other way (inl same) = subst (λ i. noted_in (noted_all new) i ≡ noted_in (noted_all old) i ++ position ∷ []) (sym same) here
      by_more other way (inr apart) = noted_alike new mid other (others other apart) ∙ notes.more other (lower other apart (this_or_further m id other at way))

  -- ---- a path that has a slot, and one that has none yet

  next_off : IsOnWay (slots_of kept) path 0 (length (slots_of kept)) → ⊥
  next_off way = let lt = way_within 0 (length (slots_of kept)) way in absurd (omega (arith, lt))

  pub notes_there : (old new : List Under) (position : ℕ) → has (paths_of kept) path ≡ true → NotesWay (slots_of kept) path 0 position old new → Notes (slots_of kept) (paths_of kept) path position old new
  notes_there old new position named notes = record {
    way = notes.more;
    own = λ none. absurd (false≢true (sym none ∙ named));
    rest = λ id off apart. noted_alike new old id (notes.rest id off);
    size = notes.size;
  }

  pub room_own : (old mid : List Under) (position : ℕ) → HasRoomAt old (length (slots_of kept)) → NotesWay (slots_of kept) path 0 position old mid → HasRoomAt mid (length (slots_of kept))
  room_own old mid position room notes = room_alike mid old (length (slots_of kept)) (notes.rest (length (slots_of kept)) next_off) room

  pub notes_own : (old mid new : List Under) (position : ℕ) → has (paths_of kept) path ≡ false → NotesWay (slots_of kept) path 0 position old mid
      → noted_in (noted_all new) (length (slots_of kept)) ≡ noted_in (noted_all mid) (length (slots_of kept)) ++ position ∷ [] → ((i : ℕ) → i ≢ length (slots_of kept) → slice_get new i ≡ slice_get mid i) → length new ≡ length mid
      → Notes (slots_of kept) (paths_of kept) path position old new
  notes_own old mid new position unnamed notes more others size = record {
    way = λ id way. noted_alike new mid id (others id (λ same. let lt = way_within 0 id way in absurd (omega (arith, lt, same)))) ∙ notes.more id way;
    own = λ none. more ∙ ap (λ l. l ++ position ∷ []) (noted_alike mid old (length (slots_of kept)) (notes.rest (length (slots_of kept)) next_off));
    rest = λ id off apart. noted_alike new mid id (others id (apart unnamed)) ∙ noted_alike mid old id (notes.rest id off);
    size = size ∙ notes.size;
  }
