-- What stands at a path, in the record that has put it. This project's own.
use Rattle.std.specs.Prelude.{Option, Some, None}
use Rattle.up_entry.specs.declared.records.Rec.{Rec}
use Rattle.up_entry.specs.declared.records.Rec.TheVariants.{Put, Delete, Snap}
use Rattle.up_log_tree.specs.declared.node.Node.{Node}
use Rattle.up_mem_tree.specs.declared.nodes.NodeRef.{NodeRef}

-- the item itself
abbrev pub node_of : NodeRef → Node
node_of found = record { entry = found.entry.now; text = found.text.now }

-- the item that a record has put
abbrev pub put_by : Option Rec → Option Node
put_by (Some (Put entry text)) = Some (record { entry = entry; text = text })
put_by (Some (Delete gone)) = None
put_by (Some (Snap time)) = None
put_by None = None
