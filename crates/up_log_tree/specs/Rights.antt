-- What a tree says of rights: the texts of its Access and Group files (Upspin access control document).
use Rattle.std.specs.Prelude.{⊤, Bool, true, false, ◌&&◌, if◌then◌else◌, List, [], codes, find, Option, Some, None, is_some}
use Rattle.std.specs.Prelude.{Result, Ok, Err}
use Rattle.std.specs.Map.{keys_of}
use Rattle.std.specs.Option.{option_map}
use Rattle.up_names.specs.declared.fault.TextFault.{TextFault}
use Rattle.up_names.specs.declared.items.Item.{Item}
use Rattle.up_names.specs.declared.paths.Control.TheVariants as control
use Rattle.up_names.specs.Texts.{UserName}
use Rattle.up_names.specs.PathNames.{PathName, extended, control_of}
use Rattle.up_access.specs.declared.Rule.{Rule}
use Rattle.up_access.specs.AccessTexts.{access_of}
use Rattle.up_group.specs.GroupTexts.{group_of}
use Rattle.up_policy.specs.Governors.{prefixes}
use Rattle.up_policy.specs.Trees.{TreeFacts}
use Rattle.up_log_tree.specs.Trees.{Tree, Node, node_at, kind_of, is_file, made_of}

-- what a text stands for; in a log that fits no control file has a bad text, and nothing depends on what it would mean
abbrev pub said : {X : Type 0} → Result (List X) TextFault → List X
said (Ok values) = values
said (Err fault) = []

-- the path of the Access file in a directory
abbrev pub access_path : PathName → PathName
access_path dir = extended dir (codes "Access")

-- the Access file in a directory
abbrev pub access_node : Tree → PathName → Option Node
access_node tree dir = node_at tree (access_path dir)

-- the longest prefix of a path, the path itself included, that has an Access file
unfoldable pub governing_prefix : Tree → PathName → Option PathName
governing_prefix tree path = find (λ dir. is_some (access_node tree dir)) (prefixes path)

-- whether a path is a Group path
abbrev pub is_group : PathName → Bool
is_group path = elim (control_of path) [ control.Group ↦ true | control.Access ↦ false | control.Ordinary ↦ false ]

-- a file at a Group path
abbrev pub is_group_file : PathName → Node → Bool
is_group_file path node = is_group path && is_file (kind_of node)

-- the Group file at a path
abbrev pub group_node : Tree → PathName → Option Node
group_node tree path = elim (node_at tree path) [ None ↦ None | Some node ↦ if is_group_file path node then Some node else None ]

-- the rules of an Access file, and the items of a Group file, in this owner's tree
abbrev pub rules_of : UserName → Node → List Rule
rules_of owner node = said (access_of owner node.text)

-- the items of a Group file in this owner's tree
abbrev pub items_of : UserName → Node → List Item
items_of owner node = said (group_of owner node.text)

-- what a tree of this owner says of rights
unfoldable pub facts_of : UserName → Tree → TreeFacts
facts_of owner tree = record {
  owner = owner;
  access = λ dir. option_map (rules_of owner) (access_node tree dir);
  group = λ path. option_map (items_of owner) (group_node tree path);
}

-- the paths of the Group files, in order
unfoldable pub group_paths : Tree → List PathName
group_paths tree = keys_of (made_of {Y = ⊤} (λ path node. if is_group_file path node then Some tt else None) tree)
