-- The items of a directory of a snapshot tree, as they are found. (That they are those of the tree is proved; nothing outside
-- rests on these definitions.)
use Rattle.std.specs.Prelude.{◌≡◌, ℕ, suc, ◌<◌, T, if◌then◌else◌, List, length, slice_get, Option, Some, None, Result, Ok, Err, alloc_error}
use Rattle.std.specs.declared.alloc.AllocError.{AllocError}
use Rattle.std.specs.FinMap.Entries.{find, is_sorted}
use Rattle.std.specs.Option.{option_map}
use Rattle.up_names.specs.Texts.{UserName}
use Rattle.up_names.specs.PathNames.{PathName, extended}
use Rattle.up_names.specs.PathOrder.{path_cmp}
use Rattle.up_names.specs.declared.fault.NameFault.{NameFault}
use Rattle.up_names.specs.declared.fault.NameFault.TheVariants.{TooLong}
use Rattle.up_entry.specs.declared.entries.Entry.{Entry}
use Rattle.up_entry.specs.declared.records.Rec.{Rec}
use Rattle.up_entry.specs.declared.records.Rec.TheVariants.{Snap}
use Rattle.up_list.specs.Entries.{entry_of}
use Rattle.up_log_tree.specs.Trees.{is_parent, last_element, node_at, tree_at}
use Rattle.up_snap.specs.Firsts.{least_to}
use Rattle.up_snap.specs.Shown.{is_short, renamed}
use Rattle.up_snap.specs.declared.shown.Shown.{Shown}

-- a path that was made of a directory and a path's last element, or none where it would be too long
abbrev pub short_path : Result PathName NameFault → Result (Option PathName) AllocError
short_path (Ok path) = Ok (Some path)
short_path (Err (TooLong size)) = Ok None
short_path (Err fault) = Err alloc_error

-- the entry in a directory of what stood at a path, under its last element, where its new name is not too long
abbrev pub kept_entry : List Rec → PathName → ℕ → PathName → Option Entry
kept_entry records dir n old =
    let path = extended dir (last_element old) in
    if is_short path then option_map (λ node. entry_of (renamed path node)) (node_at (tree_at records n) old) else None

-- a snapshot of these records
pub record IsTaken (records : List Rec) (shown : Shown) : Type 0 where
  pub place : ℕ
  pub within : place < length records
  pub takes : slice_get records place ≡ Some (Snap shown.time)
  pub position : shown.position ≡ suc place

-- The paths in a directory on which snapshots of these moments bear, in order, each with the first of them.
pub record IsNaming (snap_user : UserName) (records : List Rec) (dir : PathName)
    (times : List ℕ) (named : List (PathName × Shown)) : Type 0 where
  pub sorted : T (is_sorted path_cmp named)
  pub each : (q : PathName) → find path_cmp q named ≡ (if is_parent dir q then least_to snap_user records q times else None)
