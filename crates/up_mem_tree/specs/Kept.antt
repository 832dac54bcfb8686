-- What is kept in memory of a log, and how it stands for the log. This project's own.
use Rattle.std.specs.Prelude.{◌≡◌, ◌<◌, ℕ, List, [], ◌∷◌, ◌++◌, map, length, slice_get, unwrap_or, true, false}
use Rattle.std.specs.Prelude.{Option, Some, None, MatchOption, ⊤}
use Rattle.std.specs.List.{range_with_len}
use Rattle.std.specs.Vec.{vec_capacity, vec_len}
use Rattle.up_names.specs.PathNames.{PathName, parent_of}
use Rattle.up_access.specs.declared.Rule.{Rule}
use Rattle.up_entry.specs.declared.records.Rec.TheVariants.{Put, Delete, Snap}
use Rattle.up_mem_tree.specs.declared.history.Change.{Change}
use Rattle.up_log_tree.specs.declared.node.Node.{Node}
use Rattle.up_mem_tree.specs.declared.steps.ParentStep.{ParentStep}
use Rattle.up_mem_tree.specs.declared.steps.Step.{Step}
use Rattle.up_mem_tree.specs.Steps.{CanStep, HasOwnRoom, IsAboveTo, IsStepOf}
use Rattle.up_log_tree.specs.Trees.{children, tree_of}
use Rattle.up_mem_tree.specs.declared.kept.Kept.{Kept}
use Rattle.up_mem_tree.specs.declared.slots.Slot.{Slot}
use Rattle.up_log_tree.specs.Orders.{has_path}
use Rattle.up_entry.specs.declared.records.Rec.{Rec}
use Rattle.std.specs.Option.{option_and_then}
use Rattle.up_log_tree.specs.Changes.{change_before, last_change, path_of_change}
use Rattle.up_log_tree.specs.Fits.{IsLog}
use Rattle.up_mem_tree.specs.Slots.{AreLinked, AreSlotsOf, IsSlotOf, KeepsNumbers, Known, known, known_all, named_paths, path_in}
use Rattle.up_log_tree.specs.Snapshots.{snapshots_of}

-- what is known of the slots of a tree
abbrev pub slots_of : Kept → List Known
slots_of kept = known_all kept.slots.items

-- the paths that the records of a tree name
abbrev pub paths_of : Kept → List PathName
paths_of kept = named_paths kept.log.items

-- for each record the position of the one before it on the same path, or 0
abbrev pub befores_of : List Rec → List ℕ
befores_of records = map (λ n. unwrap_or (change_before records n) 0) (range_with_len 1 (length records))

-- all that is kept is what the log gives, and the log is one of the owner
pub record Stands (kept : Kept) : Type 0 where
  pub log : IsLog kept.owner kept.log.items
  pub linked : AreLinked kept.owner (paths_of kept) (slots_of kept)
  pub slots : (i : ℕ) (slot : Known) → slice_get (slots_of kept) i ≡ Some slot
      → IsSlotOf kept.owner kept.log.items (path_in (slots_of kept)) slot
  pub before : kept.before.items ≡ befores_of kept.log.items
  pub snaps : kept.snaps.entries ≡ snapshots_of kept.log.items

-- the slot of the path, where it has one
abbrev pub IsOwnSlot : Kept → PathName → Option Slot → Type 0
IsOwnSlot kept path None = has_path (paths_of kept) path ≡ false
IsOwnSlot kept path (Some slot) = (slot.path ≡ path) × IsSlotOf kept.owner kept.log.items (path_in (slots_of kept)) (known slot)

-- ---- a record made ready

-- the path is a root, or its directory has a slot
abbrev pub HasAbove : List PathName → PathName → Type 0
HasAbove paths path = MatchOption (parent_of path) ⊤ (λ dir. has_path paths dir ≡ true)

-- what changes in the directory of a path, where `after` makes its children others
abbrev pub IsAboveIn : Kept → PathName → ℕ → (List PathName → List PathName) → Option (Change (List Rule)) → Option ParentStep → Type 0
IsAboveIn kept path id after access above = MatchOption (parent_of path) (above ≡ None) (λ dir. MatchOption above ⊥
    (IsAboveTo (paths_of kept) (slots_of kept) path id dir (children (tree_of kept.log.items) dir)
    (after (children (tree_of kept.log.items) dir)) access))

-- the step of a record that changes a path, after which that node stands there
abbrev pub IsStepIn : Kept → Rec → PathName → Option Node → Step → Type 0
IsStepIn kept rec path after step =
    IsStepOf kept.owner kept.log.items rec path after (paths_of kept) (slots_of kept) step × HasOwnRoom step.own step.group

-- the step of a record; that of a Snap is none
abbrev pub IsStepFor : Kept → Rec → Option Step → Type 0
IsStepFor kept (Put entry text) step =
    MatchOption step ⊥ (IsStepIn kept (Put entry text) entry.name (Some (record { entry = entry; text = text })))
IsStepFor kept (Delete path) step = MatchOption step ⊥ (IsStepIn kept (Delete path) path None)
IsStepFor kept (Snap time) step = step ≡ None

-- what is kept is the same, whatever room there is besides
pub record IsSameKept (old new : Kept) : Type 0 where
  pub owner : new.owner ≡ old.owner
  pub log : new.log.items ≡ old.log.items
  pub before : new.before.items ≡ old.before.items
  pub slots : slots_of new ≡ slots_of old
  pub snaps : new.snaps.entries ≡ old.snaps.entries

-- the record can be entered by this step, without memory
pub record IsReadyFor (kept : Kept) (rec : Rec) (step : Option Step) : Type 0 where
  pub is : IsStepFor kept rec step
  pub can : MatchOption step (kept.snaps.ready ≡ true) (CanStep kept.slots)
  pub log : vec_len kept.log < vec_capacity kept.log
  pub before : vec_len kept.before < vec_capacity kept.before

-- what a record changes besides the log and the positions before
pub record IsEnteredBy (old new : Kept) (rec : Rec) (before : ℕ) : Type 0 where
  pub owner : new.owner ≡ old.owner
  pub log : new.log ≡ old.log
  pub befores : new.before ≡ old.before
  pub slots : AreSlotsOf old.owner (old.log.items ++ rec ∷ []) (slots_of new)
  pub snaps : new.snaps.entries ≡ snapshots_of (old.log.items ++ rec ∷ [])
  pub last : before ≡ unwrap_or (option_and_then (last_change old.log.items) (path_of_change rec)) 0
  pub numbers : KeepsNumbers (slots_of old) (slots_of new)
