-- What a record changes in the slots. This project's own.
use Rattle.std.specs.Prelude.{◌≡◌, ◌<◌, ◌≤◌, ℕ, zero, suc, true, List, [], ◌∷◌, ◌++◌, length, Option, Some, None, ⊤, Vec}
use Rattle.std.specs.List.{insert, remove}
use Rattle.std.specs.Vec.{vec_capacity, vec_len}
use Rattle.up_maps.specs.Joined.{ReadyList}
use Rattle.up_names.specs.declared.items.Item.{Item}
use Rattle.up_access.specs.declared.Rule.{Rule}
use Rattle.up_mem_tree.specs.declared.edits.Edit.{Edit}
use Rattle.up_mem_tree.specs.declared.edits.Edit.TheVariants.{Same, Added, Removed}
use Rattle.up_mem_tree.specs.declared.history.Change.{Change}
use Rattle.up_mem_tree.specs.Slots.{Known}

-- siblings after an edit
abbrev pub edited : Edit → List ℕ → List ℕ
edited Same ids = ids
edited (Added place id) ids = insert ids place id
edited (Removed place) ids = remove ids place

-- the edit's place lies among the siblings
abbrev pub IsWithin : List ℕ → Edit → Type 0
IsWithin ids Same = ⊤
IsWithin ids (Added place id) = place ≤ length ids
IsWithin ids (Removed place) = place < length ids

-- the edit can be made, and takes no memory
abbrev pub CanEdit : ReadyList ℕ → Edit → Type 0
CanEdit ids Same = ⊤
CanEdit ids (Added place id) = (ids.ready ≡ true) × (place ≤ length ids.items)
CanEdit ids (Removed place) = place < length ids.items

-- there is room for the change, where there is one
abbrev pub HasRoomFor : {X A : Type 0} → Vec (Change X) A → Option (Change X) → Type 0
HasRoomFor changes None = ⊤
HasRoomFor changes (Some change) = vec_len changes < vec_capacity changes

-- the changes of a file, with one more where there is one
abbrev pub changes_in : {X : Type 0} → List (Change X) → Option (Change X) → List (Change X)
changes_in changes None = changes
changes_in changes (Some change) = changes ++ change ∷ []

-- the slot of the path that a record changes
unfoldable pub entered_own : ℕ → Option (Change (List Item)) → Known → Known
entered_own position group slot = record slot { last = position; group = changes_in slot.group group }

-- the slot of the directory of the path that a record changes
unfoldable pub entered_parent : Edit → Edit → Option (Change (List Rule)) → Known → Known
entered_parent named children access slot =
    record slot { named = edited named slot.named; children = edited children slot.children; access = changes_in slot.access access }

-- the list with one of its slots changed
abbrev pub changed_at : ℕ → (Known → Known) → List Known → List Known
changed_at i change [] = []
changed_at zero change (slot ∷ slots) = change slot ∷ slots
changed_at (suc i) change (slot ∷ slots) = slot ∷ changed_at i change slots
