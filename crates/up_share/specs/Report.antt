-- What `upspin share` prints of a tree: who reads each file, and which groups are unread for some file. This project's own.
use Rattle.std.specs.Prelude.{Bool, false, ◌++◌, List, [], codes, filter, Some, None}
use Rattle.std.specs.List.{flat_map, join_by}
use Rattle.std.specs.Map.{keys_of}
use Rattle.up_names.specs.Texts.{Text, UserName}
use Rattle.up_names.specs.declared.items.Item.{Item}
use Rattle.up_names.specs.PathNames.{PathName, canonical}
use Rattle.up_names.specs.PathOrder.{path_cmp}
use Rattle.up_access.specs.Printing.{item_text}
use Rattle.up_text.specs.Words.{coded}
use Rattle.up_log_tree.specs.Rights.{facts_of, group_paths}
use Rattle.up_log_tree.specs.Trees.{Tree, is_file, kind_of, node_at}
use Rattle.up_share.specs.Orders.{in_order}
use Rattle.up_share.specs.Readers.{readers, unread}

-- whether a file stands at a path: an Access or a Group file too
abbrev pub is_file_at : Tree → PathName → Bool
is_file_at tree path = elim (node_at tree path) [ None ↦ false | Some node ↦ is_file (kind_of node) ]

-- the paths of the files of a tree, in order
unfoldable pub files_of : Tree → List PathName
files_of tree = filter (is_file_at tree) (keys_of tree)

-- who reads at a path of an owner's tree, with nothing loaded
abbrev pub readers_at : UserName → Tree → PathName → List Item
readers_at owner tree path = readers (facts_of owner tree) (group_paths tree) [] path

-- the groups that are unread for a path of an owner's tree, with nothing loaded
abbrev pub unread_at : UserName → Tree → PathName → List PathName
unread_at owner tree path = unread (facts_of owner tree) (group_paths tree) [] path

-- readers joined by commas: everyone as `all`, a domain behind `*@`
unfoldable pub items_text : List Item → Text
items_text items = join_by item_text (codes ",") items

-- the line of a file: its path and who reads it, each as a word
unfoldable pub file_line : PathName → List Item → Text
file_line path items = coded (canonical path) ++ codes " " ++ coded (items_text items) ++ codes "\n"

-- the line of a group that is unread
unfoldable pub unread_line : PathName → Text
unread_line group = codes "unread " ++ coded (canonical group) ++ codes "\n"

-- the groups that are unread for some file, in order and each once
unfoldable pub unread_in : UserName → Tree → List PathName
unread_in owner tree = in_order path_cmp (flat_map (unread_at owner tree) (files_of tree))

-- the line of each file in order of paths, and then that of each group that is unread for some file
unfoldable pub report : UserName → Tree → Text
report owner tree =
    flat_map (λ path. file_line path (readers_at owner tree path)) (files_of tree) ++ flat_map unread_line (unread_in owner tree)
