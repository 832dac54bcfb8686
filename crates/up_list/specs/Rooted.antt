-- What holds of each tree that is looked at.
use Rattle.std.specs.Prelude.{◌≡◌, T, Some}
use Rattle.std.specs.FinMap.Entries.{is_sorted}
use Rattle.up_names.specs.Texts.{UserName}
use Rattle.up_names.specs.PathNames.{PathName}
use Rattle.up_names.specs.PathOrder.{path_cmp}
use Rattle.up_log_tree.specs.declared.node.Node.{Node}
use Rattle.up_log_tree.specs.Trees.{Tree, node_at}
use Rattle.up_log_tree.specs.Fits.{HasPlace}

-- The items of an owner's tree stand in order of paths, each at its name; and each is the root or stands in a directory.
pub record IsRooted (owner : UserName) (tree : Tree) : Type 0 where
  pub ordered : T (is_sorted path_cmp tree)
  pub named : (path : PathName) (node : Node) → node_at tree path ≡ Some node → node.entry.name ≡ path
  pub placed : (path : PathName) (node : Node) → node_at tree path ≡ Some node → HasPlace owner tree path
