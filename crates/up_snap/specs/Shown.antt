-- What stands at a path of a snapshot tree: which snapshot shows it, and what stood at the path that it shows. That the snapshot
-- tree has exactly that is proved; nothing outside rests on these definitions.
use Rattle.std.specs.Prelude.{ℕ, zero, suc, ◌-◌, Bool, ◌||◌, nat_le, if◌then◌else◌, List, drop, length, slice_get, Option, Some, None}
use Rattle.std.specs.Option.{option_map, option_or}
use Rattle.up_names.specs.Texts.{UserName}
use Rattle.up_names.specs.PathNames.{PathName, canonical, is_under}
use Rattle.up_entry.specs.declared.records.Rec.{Rec}
use Rattle.up_entry.specs.declared.records.Rec.TheVariants.{Put, Delete, Snap}
use Rattle.up_log_tree.specs.declared.node.Node.{Node}
use Rattle.up_log_tree.specs.Trees.{node_at, tree_at}
use Rattle.up_answers.specs.Calendar.{moment_elements}
use Rattle.up_answers.specs.SnapshotTrees.{made_up}
use Rattle.up_snap.specs.declared.shown.Shown.{Shown}

-- the root of the snapshot of a moment, in the tree of that snapshot user
abbrev pub shown_root : UserName → ℕ → PathName
shown_root snap_user time = record { owner = snap_user; elements = moment_elements time }

-- a path at or below that root, or above it
abbrev pub bears_on : UserName → PathName → ℕ → Bool
bears_on snap_user path time = is_under path (shown_root snap_user time) || is_under (shown_root snap_user time) path

-- a record at a position, where it takes a snapshot that bears on a path
abbrev pub bearing : UserName → PathName → ℕ → Option Rec → Option Shown
bearing snap_user path position (Some (Snap time)) =
    if bears_on snap_user path time then Some (record { position = position; time = time }) else None
bearing snap_user path position (Some (Put entry text)) = None
bearing snap_user path position (Some (Delete gone)) = None
bearing snap_user path position None = None

-- the first of the first n records that does
unfoldable pub first_to : UserName → List Rec → PathName → ℕ → Option Shown
first_to snap_user records path zero = None
first_to snap_user records path (suc n) =
    option_or (first_to snap_user records path n) (bearing snap_user path (suc n) (slice_get records n))

-- the path that a snapshot shows at a path: the elements after the four of its moment
abbrev pub old_path : UserName → PathName → PathName
old_path owner path = record { owner = owner; elements = drop 4 path.elements }

-- an item under another name
abbrev pub renamed : PathName → Node → Node
renamed path node = record node { entry = record node.entry { name = path } }

-- a path has no longer a text than a path's may be
abbrev pub is_short : PathName → Bool
is_short path = nat_le (length (canonical path)) 4096

-- what a snapshot shows at a path at or below its root: what stood there before its record
abbrev pub kept_node : UserName → List Rec → PathName → ℕ → Option Node
kept_node owner records path n =
    if is_short path then option_map (renamed path) (node_at (tree_at records n) (old_path owner path)) else None

-- what stands at a path on which a snapshot bears: what it shows, or a directory that is made up
unfoldable pub shown_node : UserName → List Rec → PathName → Shown → Option Node
shown_node owner records path shown =
    if is_under path (shown_root path.owner shown.time) then kept_node owner records path (shown.position - 1)
    else Some (made_up owner shown.time shown.position path)
