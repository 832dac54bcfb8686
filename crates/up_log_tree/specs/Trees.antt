-- A tree: a finite map from paths to nodes (Upspin overview), and the tree that a log gives. The records of a log are this
-- project's own.
use Rattle.std.specs.Prelude.{ℕ, ◌-◌, Bool, true, false, not, List, [], ◌∷◌, length, take, fold, filter, find, slice_get}
use Rattle.std.specs.Prelude.{Option, Some, None, is_some, unwrap_or}
use Rattle.std.specs.FinMap.Entries as entries
use Rattle.std.specs.List.{cons_option}
use Rattle.std.specs.Map.{keys_of}
use Rattle.std.specs.Option.{option_map}
use Rattle.up_names.specs.PathNames.{PathName, parent_of}
use Rattle.up_names.specs.PathOrder.{path_eq, path_cmp}
use Rattle.up_entry.specs.declared.entries.Kind.{Kind}
use Rattle.up_entry.specs.declared.entries.Kind.TheVariants.{File, Directory, Link}
use Rattle.up_entry.specs.declared.records.Rec.{Rec}
use Rattle.up_entry.specs.declared.records.Rec.TheVariants.{Put, Delete, Snap}
use Rattle.up_policy.specs.Governors.{prefixes}
pub use Rattle.up_log_tree.specs.declared.node.Node.{Node}

-- a tree: its nodes, each with its path, in order of paths
abbrev pub Tree : Type 0
Tree = List (PathName × Node)

-- what stands at a path
unfoldable pub node_at : Tree → PathName → Option Node
node_at tree path = entries.find path_cmp path tree

-- the tree after one more record: a Put puts its node, a Delete removes its path, a Snap changes nothing
unfoldable pub after_record : Tree → Rec → Tree
after_record tree (Put entry text) = entries.put path_cmp entry.name (record { entry = entry; text = text }) tree
after_record tree (Delete path) = filter (λ item. not (path_eq path item.0)) tree
after_record tree (Snap time) = tree

-- the tree after all these records
unfoldable pub tree_of : List Rec → Tree
tree_of records = fold after_record [] records

-- the tree after the first n records
abbrev pub tree_at : List Rec → ℕ → Tree
tree_at records n = tree_of (take n records)

-- ---- what stands at a path

-- the kind of what stands there
abbrev pub kind_of : Node → Kind
kind_of node = node.entry.attr.kind

-- whether an entry is a file
abbrev pub is_file : Kind → Bool
is_file File = true
is_file Directory = false
is_file Link = false

-- whether an entry is a link
abbrev pub is_link : Kind → Bool
is_link File = false
is_link Directory = false
is_link Link = true

-- the longest prefix of a path, the path itself included, at which something stands
unfoldable pub standing_prefix : Tree → PathName → Option PathName
standing_prefix tree path = find (λ prefix. is_some (node_at tree prefix)) (prefixes path)

-- the last element of a path that has one
abbrev pub last_element : PathName → List ℕ
last_element path = unwrap_or (slice_get path.elements (length path.elements - 1)) []

-- ---- lists that are made of a tree

-- the first is the parent of the second: the second without its last element
unfoldable pub is_parent : PathName → PathName → Bool
is_parent dir path = elim (parent_of path) [ None ↦ false | Some parent ↦ path_eq parent dir ]

-- the paths of the children of a directory, in order: the items with one element more that are under it
unfoldable pub children : Tree → PathName → List PathName
children tree dir = filter (is_parent dir) (keys_of tree)

-- What is made of each node by its path, in order of paths, where something is made of it.
unfoldable pub made_of : {Y : Type 0} → (PathName → Node → Option Y) → Tree → List (PathName × Y)
made_of make [] = []
made_of make (item ∷ items) = cons_option (option_map (λ y. (item.0, y)) (make item.0 item.1)) (made_of make items)
