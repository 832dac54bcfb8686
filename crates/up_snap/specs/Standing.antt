-- What is found at a path of a snapshot tree. (That it is what stands there is proved; nothing outside rests on these
-- definitions.)
use Rattle.up_names.specs.Texts.{UserName}
use Rattle.up_names.specs.PathNames.{PathName}
use Rattle.up_log_tree.specs.declared.node.Node.{Node}
use Rattle.up_mem_tree.specs.Nodes.{node_of}
use Rattle.up_answers.specs.SnapshotTrees.{made_up}
use Rattle.up_snap.specs.Shown.{renamed}
use Rattle.up_snap.specs.declared.standing.Standing.{Standing}
use Rattle.up_snap.specs.declared.standing.Standing.TheVariants.{Kept, MadeUp}

-- the item that stands at a path: one that the tree had, under this name, or a directory that is made up
abbrev pub standing_node : UserName → PathName → Standing → Node
standing_node owner path (Kept old) = renamed path (node_of old)
standing_node owner path (MadeUp shown) = made_up owner shown.time shown.position path
