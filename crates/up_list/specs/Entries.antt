-- The entries of a tree, and where they stand.
use Rattle.std.specs.declared.alloc.AllocError.{AllocError}
use Rattle.std.specs.Prelude.{if◌then◌else◌, List, map, Option, Some, None, Result, Ok, Err, alloc_error}
use Rattle.std.specs.Map.{values_of}
use Rattle.std.specs.Option.{option_map, option_and_then}
use Rattle.up_names.specs.PathNames.{PathName}
use Rattle.up_names.specs.declared.fault.NameFault.{NameFault}
use Rattle.up_names.specs.declared.fault.NameFault.TheVariants.{OutOfMemory}
use Rattle.up_entry.specs.declared.entries.Entry.{Entry}
use Rattle.up_log_tree.specs.declared.node.Node.{Node}
use Rattle.up_log_tree.specs.Trees.{Tree, node_at, is_parent, is_link, made_of, standing_prefix}

-- the entry of a node
abbrev pub entry_of : Node → Entry
entry_of node = node.entry

-- the entry at a path
abbrev pub entry_at : Tree → PathName → Option Entry
entry_at tree path = option_map entry_of (node_at tree path)

-- the entry at the longest prefix of a path, the path itself included, at which something stands
abbrev pub entry_on_way : Tree → PathName → Option Entry
entry_on_way tree path = option_and_then (entry_at tree) (standing_prefix tree path)

-- the children of a directory with their nodes, in order of paths
abbrev pub nodes_in : Tree → PathName → List (PathName × Node)
nodes_in tree dir = made_of (λ path node. if is_parent dir path then Some node else None) tree

-- the entries of the children of a directory, in order of paths
abbrev pub entries_in : Tree → PathName → List Entry
entries_in tree dir = map entry_of (values_of (nodes_in tree dir))

-- a path that was made of a directory and a name, or none where the two make none; memory is wanting only where it was for the path
abbrev pub path_made : Result PathName NameFault → Result (Option PathName) AllocError
path_made (Ok path) = Ok (Some path)
path_made (Err OutOfMemory) = Err alloc_error
path_made (Err fault) = Ok None

-- an entry that is a link
abbrev pub if_link : Entry → Option Entry
if_link entry = if is_link entry.attr.kind then Some entry else None
