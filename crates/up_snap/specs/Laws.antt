-- What holds of all snapshot trees.
use Rattle.std.specs.Prelude.{◌≡◌, List, length}
use Rattle.std.specs.Option.{option_and_then}
use Rattle.up_names.specs.Texts.{UserName}
use Rattle.up_names.specs.PathNames.{PathName}
use Rattle.up_entry.specs.declared.records.Rec.{Rec}
use Rattle.up_log_tree.specs.Fits.{IsLog, snapshot_user}
use Rattle.up_log_tree.specs.Trees.{node_at}
use Rattle.up_list.specs.Rooted.{IsRooted}
use Rattle.up_answers.specs.SnapshotTrees.{snapshots_to}
use Rattle.up_snap.specs.Shown.{first_to, shown_node}

-- At each path of a log's snapshot tree stands what the first snapshot shows there that bears on the path, and nothing where
-- none does.
abbrev pub FirstSnapshotsShow : Type 0
FirstSnapshotsShow = (owner : UserName) (records : List Rec) (path : PathName) → IsLog owner records →
    node_at (snapshots_to owner records (length records)) path ≡ option_and_then
    (shown_node owner records path) (first_to (snapshot_user owner) records path (length records))

-- The items of a log's snapshot tree stand in order of paths, each at its name, and each but the root in a directory.
abbrev pub SnapshotTreesAreRooted : Type 0
SnapshotTreesAreRooted =
    (owner : UserName) (records : List Rec) → IsLog owner records
    → IsRooted (snapshot_user owner) (snapshots_to owner records (length records))
