-- Delete (Upspin overview; the order of its refusals is this project's own).
use Rattle.std.specs.Prelude.{not, ◌==◌, length, Some, is_none, Result}
use Rattle.std.specs.Prelude as std
use Rattle.up_names.specs.PathNames.{PathName}
use Rattle.up_rights.specs.declared.Right.TheVariants as right
use Rattle.up_entry.specs.declared.records.Rec.{Rec}
use Rattle.up_entry.specs.declared.records.Rec.TheVariants as rec
use Rattle.up_wire.specs.declared.replies.Reply.{Reply}
use Rattle.up_wire.specs.declared.replies.Reply.TheVariants as reply
use Rattle.up_log_tree.specs.Trees.{node_at, children}
use Rattle.up_list.specs.Looks.{Look}
use Rattle.up_list.specs.Checks.{check, ways_before}
use Rattle.up_list.specs.Changes.{◌>>=◌, unless, refuse}

-- Links above the path, and delete; then NotExist where nothing is there, NotEmpty where something is in it; else the record. So a
-- link is itself deleted.
unfoldable pub delete_outcome : Look → PathName → Result Rec Reply
delete_outcome look path = do
  allowed ← unless (check look (ways_before path) path (Some right.Delete))
  there ← refuse (is_none (node_at look.tree path)) reply.NotExist
  empty ← refuse (not (length (children look.tree path) == 0)) reply.NotEmpty
  std.Ok (rec.Delete path)
