-- A tree of which only one directory is known, whose Access file gives all to one user. This project's own.
use Rattle.std.specs.Prelude.{◌≡◌, ◌≤◌, List, [], ◌∷◌, length, Some, None, false, Ok}
use Rattle.up_access.specs.AccessTexts.{access_of}
use Rattle.up_access.specs.declared.Rule.{Rule}
use Rattle.up_entry.specs.declared.entries.Kind.TheVariants.{File}
use Rattle.up_entry.specs.declared.records.Rec.{Rec}
use Rattle.up_entry.specs.declared.records.Rec.TheVariants.{Delete, Put, Snap}
use Rattle.up_log_tree.specs.Fits.{HasDirectory, root_of}
use Rattle.up_log_tree.specs.Rights.{access_node}
use Rattle.up_log_tree.specs.Trees.{Tree, is_link, kind_of, node_at}
use Rattle.up_log_tree.specs.declared.node.Node.{Node}
use Rattle.up_names.specs.PathNames.{PathName}
use Rattle.up_names.specs.Texts.{Text, UserName}
use Rattle.up_names.specs.declared.items.Item.TheVariants.{User}
use Rattle.up_rights.specs.RightSets.{all_rights}

-- the path of a directory in an owner's root
abbrev pub plot_path : UserName → Text → PathName
plot_path owner name = record { owner = owner; elements = name ∷ [] }

-- the path of a file in it
abbrev pub file_path : UserName → Text → Text → PathName
file_path owner name file = record { owner = owner; elements = name ∷ file ∷ [] }

-- the rules of an Access file that gives all rights to one user
abbrev pub all_to : UserName → List Rule
all_to user = record { rights = all_rights; items = User user ∷ [] } ∷ []

-- A tree with a root, which no Access file governs: no link stands in it, and nothing lies deeper than a file in a directory of the root.
pub record IsFlat (owner : UserName) (tree : Tree) : Type 0 where
  pub root : HasDirectory tree (root_of owner)
  pub ungoverned : access_node tree (root_of owner) ≡ None
  pub plain : (path : PathName) (node : Node) → node_at tree path ≡ Some node → is_link (kind_of node) ≡ false
  pub short : (path : PathName) (node : Node) → node_at tree path ≡ Some node → length path.elements ≤ 2

-- A directory of the root stands, and its Access file gives all rights to this user.
pub record HasPlot (owner : UserName) (tree : Tree) (name : Text) (user : UserName) : Type 0 where
  pub directory : HasDirectory tree (plot_path owner name)
  pub node : Node
  pub stands : access_node tree (plot_path owner name) ≡ Some node
  pub rules : access_of owner node.text ≡ Ok (all_to user)

-- a record puts the file at this path, or deletes it
abbrev pub ChangesFile : PathName → Rec → Type 0
ChangesFile path (Put entry text) = (entry.name ≡ path) × (entry.attr.kind ≡ File)
ChangesFile path (Delete gone) = gone ≡ path
ChangesFile path (Snap time) = ⊥
