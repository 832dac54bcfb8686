-- What a user sees at a path (this project's own).
use Rattle.std.specs.Prelude.{Bool, if◌then◌else◌, List, Option, Some, None}
use Rattle.std.specs.Option.{option_map, option_and_then}
use Rattle.up_names.specs.Texts.{Text}
use Rattle.up_names.specs.PathNames.{PathName}
use Rattle.up_rights.specs.RightSets.{Rights}
use Rattle.up_entry.specs.declared.entries.Entry.{Entry}
use Rattle.up_entry.specs.ControlFiles.{is_control_file}
use Rattle.up_entry.specs.Rules.{is_directory}
use Rattle.up_log_tree.specs.declared.node.Node.{Node}
use Rattle.up_log_tree.specs.Trees.{node_at, kind_of, is_parent, children, made_of}
use Rattle.up_list.specs.Looks.{Look, rights, has_some, shown}
use Rattle.up_list.specs.Governing.{governing_file}

-- what is seen at a path by a user who has a right on it
pub record View : Type 0 where
  -- the user's rights on the path
  pub rights : Rights
  -- the entry at the path as it is shown, or that nothing is there
  pub entry : Option Entry
  -- the text of the control file at the path, where read holds
  pub text : Option Text
  -- the entry of the Access file that governs, as it is shown, or that there is none
  pub governor : Option Entry
  -- for a directory where list holds, its children with their entries as they are shown
  pub children : Option (List (PathName × Entry))
  -- for a directory where delete holds, the paths of its children
  pub names : Option (List PathName)

-- the entry of a node, as the user is shown it
abbrev pub shown_node : Look → Node → Entry
shown_node look node = shown look node.entry

-- the children of a directory with their entries as they are shown, in order of paths
abbrev pub shown_children : Look → PathName → List (PathName × Entry)
shown_children look dir = made_of (λ path node. if is_parent dir path then Some (shown_node look node) else None) look.tree

-- the text of a control file
abbrev pub control_text : PathName → Node → Option Text
control_text path node = if is_control_file (kind_of node) path then Some node.text else None

-- something of a directory
abbrev pub of_directory : {Y : Type 0} → Y → Node → Option Y
of_directory value node = if is_directory (kind_of node) then Some value else None

-- something of what stands there, where a right is held
abbrev pub where_held : {Y : Type 0} → Bool → (Node → Option Y) → Option Node → Option Y
where_held held make found = if held then option_and_then make found else None

-- what a user sees at a path by the rights that the user has there
abbrev pub sight : Look → PathName → View
sight look path =
    let found = node_at look.tree path in
    record {
      rights = rights look path;
      entry = option_map (shown_node look) found;
      text = where_held (rights look path).read (control_text path) found;
      governor = option_map (shown look) (governing_file look path);
      children = where_held (rights look path).list (of_directory (shown_children look path)) found;
      names = where_held (rights look path).delete (of_directory (children look.tree path)) found;
    }

-- What a user sees at a path: nothing where the user has no right on it.
unfoldable pub view : Look → PathName → Option View
view look path = if has_some look path then Some (sight look path) else None
