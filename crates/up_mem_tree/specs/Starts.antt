-- Where the way up from a record's path begins, by the record's step. This project's own.
use Rattle.std.specs.Prelude.{ℕ, ◌-◌, length, Option, Some, None, IfSome}
use Rattle.std.specs.Option.{option_map}
use Rattle.up_entry.specs.declared.records.Rec.{Rec}
use Rattle.up_log_tree.specs.Changes.{path_of_change}
use Rattle.up_mem_tree.specs.declared.kept.Kept.{Kept}
use Rattle.up_mem_tree.specs.declared.steps.Own.{Own}
use Rattle.up_mem_tree.specs.declared.steps.Own.TheVariants.{There, New}
use Rattle.up_mem_tree.specs.declared.steps.ParentStep.{ParentStep}
use Rattle.up_mem_tree.specs.declared.steps.Step.{Step}
use Rattle.up_mem_tree.specs.Kept.{paths_of, slots_of}
use Rattle.up_mem_tree.specs.Slots.{IsDeepest}

-- the path's own slot, with the number of its elements; that of its directory, where it has none yet; or none at all
abbrev pub start_by : ℕ → Own → Option ℕ → Option (ℕ × ℕ)
start_by len (There id) parent = Some (len, id)
start_by len (New slot) None = None
start_by len (New slot) (Some id) = Some (len - 1, id)

-- of a path with so many elements, by its step
abbrev pub start_at : ℕ → Step → Option (ℕ × ℕ)
start_at len step = start_by len step.own (option_map (λ (parent : ParentStep). parent.id) step.parent)

-- of the path that a record changes
abbrev pub start_of : Rec → Option Step → Option (ℕ × ℕ)
start_of rec None = None
start_of rec (Some step) = elim (path_of_change rec) [ None ↦ None | Some path ↦ start_at (length path.elements) step ]

-- it is the slot of the longest prefix of the path that has one
abbrev pub IsStartOf : Kept → Rec → Option (ℕ × ℕ) → Type 0
IsStartOf kept rec start = IfSome (path_of_change rec) (λ path. IsDeepest (paths_of kept) (slots_of kept) path start)
