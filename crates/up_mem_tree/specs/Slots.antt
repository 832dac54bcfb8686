-- What is kept in memory of each path that a record names. This project's own.
use Rattle.std.specs.Prelude.{◌≡◌, ◌<◌, ◌≤◌, ◌+◌, ℕ, Bool, true, false, List, [], length, map, filter, fold}
use Rattle.std.specs.Prelude.{Option, Some, None, option_map, slice_get, unwrap_or, MatchOption}
use Rattle.std.specs.List.{list_all}
use Rattle.std.specs.Ordering.{is_lt, nat_cmp}
use Rattle.std.specs.Cmp.Lexicographic.{slice_cmp}
use Rattle.std.specs.Str.{bytes_eq}
use Rattle.up_names.specs.PathNames.{PathName, cut, parent_of}
use Rattle.up_names.specs.declared.items.Item.{Item}
use Rattle.up_access.specs.declared.Rule.{Rule}
use Rattle.up_entry.specs.declared.records.Rec.{Rec}
use Rattle.up_mem_tree.specs.declared.history.Change.{Change}
use Rattle.up_mem_tree.specs.declared.slots.Slot.{Slot}
use Rattle.up_log_tree.specs.Changes.{last_change, path_of_change}
use Rattle.up_mem_tree.specs.Histories.{Tells}
use Rattle.up_log_tree.specs.Fits.{root_of}
use Rattle.up_log_tree.specs.Orders.{IsPlaceOf, are_rising, has_path, with_path}
use Rattle.up_log_tree.specs.Rights.{facts_of}
use Rattle.up_log_tree.specs.Trees.{children, is_parent, last_element, tree_at, tree_of}

-- what a slot has, whatever room it has besides
pub record Known : Type 0 where
  pub path : PathName
  pub last : ℕ
  pub parent : Option ℕ
  pub named : List ℕ
  pub children : List ℕ
  pub access : List (Change (List Rule))
  pub group : List (Change (List Item))

-- what is known of a slot
unfoldable pub known : Slot → Known
known slot = record {
  path = slot.path;
  last = slot.last;
  parent = slot.parent;
  named = slot.named.items;
  children = slot.children.items;
  access = slot.access.items;
  group = slot.group.items;
}

-- what is known of each of these slots
abbrev pub known_all : List Slot → List Known
known_all slots = map known slots

-- the path of the slot with that number
unfoldable pub path_in : List Known → ℕ → Option PathName
path_in slots id = option_map (λ (slot : Known). slot.path) (slice_get slots id)

-- ---- the paths that records name

-- the paths with the one that one more record changes
abbrev pub named_with : List PathName → Rec → List PathName
named_with paths rec = elim (path_of_change rec) [ None ↦ paths | Some path ↦ with_path path paths ]

-- the paths that these records change, in order
unfoldable pub named_paths : List Rec → List PathName
named_paths records = fold named_with [] records

-- ---- siblings

-- whether the path of a slot ends in an element below that one
abbrev pub is_below : List Known → List ℕ → ℕ → Bool
is_below slots element id = elim (path_in slots id) [ None ↦ false | Some path ↦ is_lt (slice_cmp nat_cmp (last_element path) element) ]

-- whether the path of a slot ends in this element
abbrev pub ends_in : List Known → List ℕ → ℕ → Bool
ends_in slots element id = elim (path_in slots id) [ None ↦ false | Some path ↦ bytes_eq (last_element path) element ]

-- these slots have these paths, which rise and stand in one directory
pub record AreSiblings (slots : List Known) (dir : PathName) (ids : List ℕ) (paths : List PathName) : Type 0 where
  pub same : map (path_in slots) ids ≡ map Some paths
  pub rising : are_rising paths ≡ true
  pub within : list_all (is_parent dir) paths ≡ true

-- a path among siblings: its place, and its slot where it is one of them
pub record IsFoundAs (path : PathName) (ids : List ℕ) (paths : List PathName) (at : ℕ) (found : Option ℕ) : Type 0 where
  pub place : IsPlaceOf path paths at
  pub here : MatchOption found (slice_get paths at ≡ Some path → ⊥) (λ id. (slice_get ids at ≡ Some id) × (slice_get paths at ≡ Some path))

-- ---- how slots are linked

-- Each of these paths has one slot, and no other path has one; the first slot is the root's. A slot has its directory's, and
-- those of the paths one element longer.
pub record AreLinked (owner : List ℕ) (paths : List PathName) (slots : List Known) : Type 0 where
  pub rising : are_rising paths ≡ true
  pub alone : (i j : ℕ) (path : PathName) → path_in slots i ≡ Some path → path_in slots j ≡ Some path → i ≡ j
  pub all : (path : PathName) → has_path paths path ≡ true → (i : ℕ) × (path_in slots i ≡ Some path)
  pub only : (i : ℕ) (path : PathName) → path_in slots i ≡ Some path → has_path paths path ≡ true
  pub root : (path : PathName) → path_in slots 0 ≡ Some path → path ≡ root_of owner
  pub parents : (i : ℕ) (slot : Known) → slice_get slots i ≡ Some slot
      → option_map (path_in slots) slot.parent ≡ option_map Some (parent_of slot.path)
  pub named : (i : ℕ) (slot : Known) → slice_get slots i ≡ Some slot
      → map (path_in slots) slot.named ≡ map Some (filter (is_parent slot.path) paths)
  pub closed : (path : PathName) → has_path paths path ≡ true
      → MatchOption (parent_of path) (path.owner ≡ owner) (λ dir. has_path paths dir ≡ true)

-- What a slot has of its path, and of the directory at it, is what the records give.
pub record IsSlotOf (owner : List ℕ) (records : List Rec) (paths : ℕ → Option PathName) (slot : Known) : Type 0 where
  pub last : slot.last ≡ unwrap_or (last_change records slot.path) 0
  pub children : map paths slot.children ≡ map Some (children (tree_of records) slot.path)
  pub access : Tells slot.access (length records) (λ n. (facts_of owner (tree_at records n)).access slot.path)
  pub group : Tells slot.group (length records) (λ n. (facts_of owner (tree_at records n)).group slot.path)

-- the slots are those of these records
pub record AreSlotsOf (owner : List ℕ) (records : List Rec) (slots : List Known) : Type 0 where
  pub linked : AreLinked owner (named_paths records) slots
  pub told : (i : ℕ) (slot : Known) → slice_get slots i ≡ Some slot → IsSlotOf owner records (path_in slots) slot

-- the slot of the longest prefix of a path that has one, with the number of its elements
pub record IsDeepest (paths : List PathName) (slots : List Known) (path : PathName) (found : Option (ℕ × ℕ)) : Type 0 where
  pub none : found ≡ None → (m : ℕ) → m ≤ length path.elements → has_path paths (cut m path) ≡ false
  pub some : (n id : ℕ) → found ≡ Some (n, id) → (n ≤ length path.elements) × (path_in slots id ≡ Some (cut n path))
      × ((m : ℕ) → n < m → m ≤ length path.elements → has_path paths (cut m path) ≡ false)

-- the slot of the path, where it has one
abbrev pub IsIdOf : List PathName → List Known → PathName → Option ℕ → Type 0
IsIdOf paths slots path None = has_path paths path ≡ false
IsIdOf paths slots path (Some id) = path_in slots id ≡ Some path

-- the slot of a path's parent, where the path has one
abbrev pub IsParentIdOf : List PathName → List Known → PathName → Option ℕ → Type 0
IsParentIdOf paths slots path id = MatchOption (parent_of path) (id ≡ None) (λ dir. IsIdOf paths slots dir id)

-- slots keep their numbers, and there is at most one more
pub record KeepsNumbers (old new : List Known) : Type 0 where
  pub same : (id : ℕ) (path : PathName) → path_in old id ≡ Some path → path_in new id ≡ Some path
  pub more : length old ≤ length new
  pub few : length new ≤ length old + 1
