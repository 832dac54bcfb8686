-- What a record that puts or deletes makes of the slots. This project's own.
use Rattle.std.specs.Prelude.{◌≡◌, ◌≢◌, ◌<◌, ◌≤◌, ◌+◌, ℕ, false, List, [], ◌∷◌, ◌++◌, length, filter, not}
use Rattle.std.specs.Prelude.{Option, Some, None, ⊤, Vec, option_map, unwrap_or, slice_get, MatchOption, if◌then◌else◌}
use Rattle.std.specs.List.{insert, remove}
use Rattle.std.specs.Vec.{vec_capacity, vec_len}
use Rattle.up_names.specs.PathNames.{PathName, control_of, parent_of}
use Rattle.up_names.specs.PathOrder.{path_eq}
use Rattle.up_names.specs.declared.items.Item.{Item}
use Rattle.up_names.specs.declared.paths.Control.TheVariants as control
use Rattle.up_access.specs.declared.Rule.{Rule}
use Rattle.up_entry.specs.declared.records.Rec.{Rec}
use Rattle.up_mem_tree.specs.declared.edits.Edit.{Edit}
use Rattle.up_mem_tree.specs.declared.edits.Edit.TheVariants.{Same, Added, Removed}
use Rattle.up_mem_tree.specs.declared.history.Change.{Change}
use Rattle.up_log_tree.specs.declared.node.Node.{Node}
use Rattle.up_mem_tree.specs.declared.slots.Slot.{Slot}
use Rattle.up_mem_tree.specs.declared.steps.Own.{Own}
use Rattle.up_mem_tree.specs.declared.steps.Own.TheVariants.{There, New}
use Rattle.up_mem_tree.specs.declared.steps.ParentStep.{ParentStep}
use Rattle.up_mem_tree.specs.declared.steps.Step.{Step}
use Rattle.up_mem_tree.specs.Edits.{CanEdit, HasRoomFor, IsWithin, changed_at, entered_own, entered_parent}
use Rattle.up_log_tree.specs.Orders.{has_path, with_path}
use Rattle.up_log_tree.specs.Rights.{is_group_file, items_of, rules_of}
use Rattle.up_mem_tree.specs.Slots.{Known, known, path_in}
use Rattle.up_log_tree.specs.Trees.{children, is_parent, tree_of}

-- ---- what a step does

-- the slots after what is changed in the directory
unfoldable pub stepped_above : Option ParentStep → List Known → List Known
stepped_above None slots = slots
stepped_above (Some parent) slots = changed_at parent.id (entered_parent parent.named parent.children parent.access) slots

-- the slots after what is changed at the path
unfoldable pub stepped_own : Own → ℕ → Option (Change (List Item)) → List Known → List Known
stepped_own (There id) position group slots = changed_at id (entered_own position group) slots
stepped_own (New slot) position group slots = slots ++ entered_own position group (known slot) ∷ []

-- what is known of the slots after a step: above the path, and then at it
abbrev pub stepped : Step → List Known → List Known
stepped step slots = stepped_own step.own step.position step.group (stepped_above step.parent slots)

-- the position of the change before
abbrev pub last_before : Own → List Known → ℕ
last_before (There id) slots = unwrap_or (option_map (λ (slot : Known). slot.last) (slice_get slots id)) 0
last_before (New slot) slots = 0

-- ---- when it can be made, without memory

-- the step can be made at the directory above, without memory
abbrev pub CanEnterAbove : List Slot → Option ParentStep → Type 0
CanEnterAbove slots None = ⊤
CanEnterAbove slots (Some parent) =
    (slot : Slot) × (slice_get slots parent.id ≡ Some slot) × CanEdit slot.named parent.named
    × CanEdit slot.children parent.children × HasRoomFor slot.access parent.access

-- the step can be made at the path, without memory
abbrev pub CanEnterOwn : {A : Type 0} → Vec Slot A → Own → Option (Change (List Item)) → Type 0
CanEnterOwn slots (There id) group = (slot : Slot) × (slice_get slots.items id ≡ Some slot) × HasRoomFor slot.group group
CanEnterOwn slots (New slot) group = HasRoomFor slot.group group × (vec_len slots < vec_capacity slots)

-- a slot that is there is another than that one
abbrev pub IsApart : Own → ℕ → Type 0
IsApart (There id) other = other ≢ id
IsApart (New slot) other = ⊤

-- a new slot has room for the change
abbrev pub HasOwnRoom : Own → Option (Change (List Item)) → Type 0
HasOwnRoom (There id) group = ⊤
HasOwnRoom (New slot) group = HasRoomFor slot.group group

-- the step can be made, and takes no memory
pub record CanStep {A : Type 0} (slots : Vec Slot A) (step : Step) : Type 0 where
  pub above : CanEnterAbove slots.items step.parent
  pub own : CanEnterOwn slots step.own step.group

-- ---- what room is made for

-- a slot that is there has a number of the list
abbrev pub IsInRange : List Slot → Own → Type 0
IsInRange slots (There id) = id < length slots
IsInRange slots (New slot) = ⊤

-- the edits are within the slot's siblings
abbrev pub IsParentWithin : List Slot → ParentStep → Type 0
IsParentWithin slots parent =
    (slot : Slot) × (slice_get slots parent.id ≡ Some slot)
    × IsWithin slot.named.items parent.named × IsWithin slot.children.items parent.children

-- ---- the step of a record

-- the Group file that a node is at a path
abbrev pub group_file : PathName → Option Node → Option Node
group_file path None = None
group_file path (Some node) = if is_group_file path node then Some node else None

-- what becomes of the text of the Access file in the directory of a path, after which that node stands there
abbrev pub access_change : List ℕ → PathName → Option Node → ℕ → Option (Change (List Rule))
access_change owner path after position = elim (control_of path) [
  | control.Access ↦ Some (record { position = position; text = option_map (rules_of owner) after })
  | control.Group ↦ None
  | control.Ordinary ↦ None
]

-- what becomes of the text of the Group file at a path, after which that node stands there
abbrev pub group_change : List ℕ → PathName → Option Node → ℕ → Option (Change (List Item))
group_change owner path after position = elim (control_of path) [
  | control.Group ↦ Some (record { position = position; text = option_map (items_of owner) (group_file path after) })
  | control.Access ↦ None
  | control.Ordinary ↦ None
]

-- the edit makes one list of siblings another, by their paths
abbrev pub IsEditTo : Edit → ℕ → PathName → List PathName → List PathName → Type 0
IsEditTo Same id path paths target = target ≡ paths
IsEditTo (Added place added) id path paths target = (added ≡ id) × (place ≤ length paths) × (target ≡ insert paths place path)
IsEditTo (Removed place) id path paths target = (place < length paths) × (target ≡ remove paths place)

-- the paths without one
abbrev pub without_path : PathName → List PathName → List PathName
without_path path paths = filter (λ other. not (path_eq path other)) paths

-- the slot of a path that has none yet
abbrev pub fresh_slot : PathName → Option ℕ → Known
fresh_slot path parent = record { path = path; last = 0; parent = parent; named = []; children = []; access = []; group = [] }

-- the number of the path's slot
abbrev pub own_id : List Known → Own → ℕ
own_id slots (There id) = id
own_id slots (New slot) = length slots

-- this is the path's own slot: one that is there, or a new one
abbrev pub IsOwnOf : List PathName → List Known → PathName → Option ℕ → Own → Type 0
IsOwnOf paths slots path parent (There id) = path_in slots id ≡ Some path
IsOwnOf paths slots path parent (New slot) = (has_path paths path ≡ false) × (known slot ≡ fresh_slot path parent)

-- what changes in the directory at `dir`, where the path's slot has that number: its siblings there, by their paths, become
-- those with the path, and the children these others
pub record IsAboveTo (paths : List PathName) (slots : List Known) (path : PathName) (id : ℕ) (dir : PathName)
    (now after : List PathName) (access : Option (Change (List Rule))) (parent : ParentStep) : Type 0 where
  pub at : path_in slots parent.id ≡ Some dir
  pub named : IsEditTo parent.named id path (filter (is_parent dir) paths) (filter (is_parent dir) (with_path path paths))
  pub children : IsEditTo parent.children id path now after
  pub texts : parent.access ≡ access

-- What changes in the directory at `dir`, as the records go on by one that changes the path.
abbrev pub IsAboveOf : List ℕ → List Rec → Rec → PathName → Option Node → List PathName → List Known → ℕ → PathName → ParentStep → Type 0
IsAboveOf owner records rec path after paths slots id dir parent =
    IsAboveTo paths slots path id dir (children (tree_of records) dir)
    (children (tree_of (records ++ rec ∷ [])) dir) (access_change owner path after (length records + 1)) parent

-- The step of a record that changes a path, after which that node stands there.
pub record IsStepOf (owner : List ℕ) (records : List Rec) (rec : Rec) (path : PathName)
    (after : Option Node) (paths : List PathName) (slots : List Known) (step : Step) : Type 0 where
  pub position : step.position ≡ length records + 1
  pub group : step.group ≡ group_change owner path after (length records + 1)
  pub own : IsOwnOf paths slots path (option_map (λ (parent : ParentStep). parent.id) step.parent) step.own
  pub above : MatchOption (parent_of path) (step.parent ≡ None)
      (λ dir. MatchOption step.parent ⊥ (IsAboveOf owner records rec path after paths slots (own_id slots step.own) dir))
