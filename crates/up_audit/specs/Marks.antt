-- How the references that a log uses are found by its records alone, one after the other. This project's own.
use Rattle.std.specs.Prelude.{◌≡◌, ℕ, zero, suc, ◌-◌, nat_lt, ◌==◌, Bool, false, not, ◌||◌, if◌then◌else◌, List, [], ◌++◌, is_some, Option}
use Rattle.std.specs.Prelude.{Some, None, slice_get}
use Rattle.std.specs.FinMap.Entries.{find}
use Rattle.std.specs.Option.{option_and_then}
use Rattle.up_audit.specs.Audits.{Ref, is_among, is_snap, references_of}
use Rattle.up_blocks.specs.Records.{reference_cmp}
use Rattle.up_entry.specs.declared.records.Rec.{Rec}
use Rattle.up_entry.specs.declared.records.Rec.TheVariants.{Put, Delete, Snap}
use Rattle.up_log_tree.specs.Changes.{change_before, last_change, path_of_change, record_at}

-- the references of the entry that a record puts
abbrev pub put_references : Option Rec → List Ref
put_references None = []
put_references (Some (Put entry text)) = references_of entry
put_references (Some (Delete path)) = []
put_references (Some (Snap time)) = []

-- the position of a record that is a snapshot record; else the last such position before it
abbrev pub snap_after : Option Rec → ℕ → ℕ → ℕ
snap_after None position last = last
snap_after (Some rec) position last = if is_snap rec then position else last

-- the position of the last snapshot record among the first n; 0 where there is none
abbrev pub last_snap : List Rec → ℕ → ℕ
last_snap records zero = zero
last_snap records (suc n) = snap_after (slice_get records n) (suc n) (last_snap records n)

-- the references of the entry that stood before, at this position, where a snapshot that shows it was taken behind it
abbrev pub gone_by : List Rec → ℕ → Option ℕ → List Ref
gone_by records snap None = []
gone_by records snap (Some before) = if nat_lt before snap then put_references (record_at records before) else []

-- the references of the entry that stood where record n changes a path, where a snapshot taken in between shows it
abbrev pub gone_at : List Rec → ℕ → ℕ → List Ref
gone_at records snap n = gone_by records snap (change_before records n)

-- this position is n
abbrev pub is_position : ℕ → Option ℕ → Bool
is_position n None = false
is_position n (Some at) = at == n

-- record n is the last that changes its path
abbrev pub stands_at : List Rec → ℕ → Bool
stands_at records n = is_position n (option_and_then (last_change records) (option_and_then path_of_change (record_at records n)))

-- the references of the entry that record n puts, where no later record changes its path
abbrev pub standing_at : List Rec → ℕ → List Ref
standing_at records n = if stands_at records n then put_references (record_at records n) else []

-- the references that record n tells to be used
unfoldable pub told_at : List Rec → ℕ → List Ref
told_at records n = gone_at records (last_snap records (n - 1)) n ++ standing_at records n

-- the references that the first n records tell to be used
abbrev pub told_by : List Rec → ℕ → List Ref
told_by records zero = []
told_by records (suc n) = told_by records n ++ told_at records (suc n)

-- ---- the references that were noted

-- whether a reference was noted
abbrev pub has_noted : List (Ref × Bool) → Ref → Bool
has_noted noted reference = is_some (find reference_cmp reference noted)

-- a reference is loose where it was not noted
abbrev pub is_loose : List (Ref × Bool) → Ref → Bool
is_loose noted reference = not (has_noted noted reference)

-- these references were noted, besides those that were noted before
pub record Notes (old new : List (Ref × Bool)) (more : List Ref) : Type 0 where
  pub each : (reference : Ref) → has_noted new reference ≡ (has_noted old reference || is_among more reference)
