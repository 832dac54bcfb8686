-- The snapshot tree of a log: under the moment of each snapshot, the tree as it was (Upspin overview; paths, and the directories
-- that are made up, are this project's own).
use Rattle.std.specs.Prelude.{ℕ, zero, suc, pos, Bool, false, nat_le, List, [], ◌∷◌, ◌++◌, length, fold, map, filter, slice_get}
use Rattle.std.specs.Prelude.{Option, Some, None}
use Rattle.std.specs.FinMap.Entries as entries
use Rattle.std.specs.Map.{values_of}
use Rattle.up_names.specs.Texts.{UserName}
use Rattle.up_names.specs.PathNames.{PathName, canonical, cut}
use Rattle.up_names.specs.PathOrder.{path_cmp}
use Rattle.up_entry.specs.declared.entries.Kind.TheVariants.{Directory}
use Rattle.up_entry.specs.declared.records.Rec.{Rec}
use Rattle.up_entry.specs.declared.records.Rec.TheVariants.{Put, Delete, Snap}
use Rattle.up_log_tree.specs.declared.node.Node.{Node}
use Rattle.up_log_tree.specs.Trees.{Tree, node_at, tree_at}
use Rattle.up_log_tree.specs.Fits.{snapshot_user, root_of}
use Rattle.up_log_tree.specs.Logs.{Log}
use Rattle.up_list.specs.Looks.{Look}
use Rattle.up_answers.specs.Calendar.{moment_elements}

-- the path at which a snapshot of that moment shows what stood at a path
abbrev pub moved : ℕ → PathName → PathName
moved time path = record { owner = snapshot_user path.owner; elements = moment_elements time ++ path.elements }

-- an item as a snapshot shows it: its name is moved, and all else is kept
abbrev pub moved_node : ℕ → Node → Node
moved_node time node = record node { entry = record node.entry { name = moved time node.entry.name } }

-- an entry has no longer a canonical name than a path's may be
abbrev pub has_room : Node → Bool
has_room node = nat_le (length (canonical node.entry.name)) 4096

-- the items that a snapshot of that moment shows of a tree; one whose moved name is too long is left out
unfoldable pub moved_nodes : ℕ → Tree → List Node
moved_nodes time tree = filter has_room (map (moved_node time) (values_of tree))

-- a made-up directory: plain, of that writer, with time and sequence of a snapshot
abbrev pub made_up : UserName → ℕ → ℕ → PathName → Node
made_up writer time position path = record {
  entry = record {
    signed_name = path;
    packing = 1;
    time = pos time;
    blocks = [];
    packdata = [];
    link = None;
    writer = writer;
    name = path;
    attr = record { kind = Directory; incomplete = false };
    sequence = position;
  };
  text = [];
}

-- the root, and the directories of year, month and day above a snapshot of that moment
unfoldable pub directories_above : ℕ → UserName → List PathName
directories_above time owner = map (λ n. cut n (moved time (root_of owner))) (0 ∷ 1 ∷ 2 ∷ 3 ∷ [])

-- a tree with a node at its name
abbrev pub with_node : Tree → Node → Tree
with_node tree node = entries.put path_cmp node.entry.name node tree

-- a tree with a node at its name, unless something stands there
abbrev pub with_new : Tree → Node → Tree
with_new tree node = elim (node_at tree node.entry.name) [ None ↦ with_node tree node | Some there ↦ tree ]

-- A snapshot tree with one more snapshot: that of a moment, by the record at that position, of the tree as it was. Made-up
-- directories that an earlier snapshot has made stay as they are.
unfoldable pub with_snapshot : UserName → ℕ → ℕ → Tree → Tree → Tree
with_snapshot owner time position was tree =
    fold with_node (fold with_new tree (map (made_up owner time position) (directories_above time owner))) (moved_nodes time was)

-- a snapshot tree after one more record: a Snap adds a snapshot, and any other record nothing
abbrev pub with_snapshot_of : UserName → Option Rec → ℕ → Tree → Tree → Tree
with_snapshot_of owner (Some (Snap time)) position was tree = with_snapshot owner time position was tree
with_snapshot_of owner (Some (Put entry text)) position was tree = tree
with_snapshot_of owner (Some (Delete path)) position was tree = tree
with_snapshot_of owner None position was tree = tree

-- the snapshots of the first n records: the Snap at position n + 1 shows the tree of the n records before it
unfoldable pub snapshots_to : UserName → List Rec → ℕ → Tree
snapshots_to owner records zero = []
snapshots_to owner records (suc n) = with_snapshot_of owner (slice_get records n) (suc n) (tree_at records n) (snapshots_to owner records n)

-- the snapshot tree of a log
abbrev pub snapshot_tree : Log → Tree
snapshot_tree log = snapshots_to log.owner log.records (length log.records)

-- the snapshot tree of a log, as a user meets it; nothing is loaded for it
abbrev pub snapshot_look : Log → UserName → Look
snapshot_look log user = record { owner = snapshot_user log.owner; tree = snapshot_tree log; loaded = []; user = user }
