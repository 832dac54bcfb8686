-- The replies of a snapshot tree. Who looks is answered as by any tree; and one file, when it is put, takes a snapshot (Upspin
-- overview; the replies are this project's own).
use Rattle.std.specs.Prelude.{ℕ, Bool, ◌&&◌, if◌then◌else◌, [], ◌∷◌, codes, None, is_none, is_some, unwrap_or, Result}
use Rattle.std.specs.Prelude as std
use Rattle.up_names.specs.Texts.{UserName}
use Rattle.up_names.specs.PathNames.{PathName}
use Rattle.up_names.specs.PathOrder.{path_eq}
use Rattle.up_rights.specs.declared.Right.TheVariants as right
use Rattle.up_entry.specs.declared.entries.Entry.{Entry}
use Rattle.up_entry.specs.declared.records.Rec.{Rec}
use Rattle.up_entry.specs.declared.records.Rec.TheVariants as rec
use Rattle.up_entry.specs.declared.what.What.TheVariants as what
use Rattle.up_wire.specs.declared.replies.Reply.{Reply}
use Rattle.up_wire.specs.declared.replies.Reply.TheVariants as reply
use Rattle.up_log_tree.specs.Trees.{node_at, is_file, tree_of}
use Rattle.up_log_tree.specs.Fits.{root_of, snapshot_user}
use Rattle.up_log_tree.specs.Snapshots.{snap_at}
use Rattle.up_log_tree.specs.Logs.{Log}
use Rattle.up_list.specs.Looks.{Look}
use Rattle.up_list.specs.Checks.{check, ways, ways_before}
use Rattle.up_list.specs.Reads.{lookup_reply, access_reply, group_text_reply}
use Rattle.up_list.specs.Globs.{glob_reply}
use Rattle.up_list.specs.declared.asking.ReadRequest.{ReadRequest}
use Rattle.up_list.specs.declared.asking.ReadRequest.TheVariants.{Lookup, WhichAccess, GroupText, Delete, Put, Glob, Watch}
use Rattle.up_list.specs.Changes.{◌>>=◌, unless, refuse, right_to_put}
use Rattle.up_answers.specs.SnapshotTrees.{snapshot_look}

-- the file that takes a snapshot when it is put
abbrev pub takes_snapshot : Log → Entry → Bool
takes_snapshot log entry =
    is_file entry.attr.kind && path_eq entry.name (record { owner = snapshot_user log.owner; elements = codes "TakeSnapshot" ∷ [] })

-- a snapshot of the tree as it is: NotExist where it has no root, Exist where there is one of the same second
unfoldable pub snapshot_record : Log → ℕ → Result Rec Reply
snapshot_record log now = do
  rooted ← refuse (is_none (node_at (tree_of log.records) (root_of log.owner))) reply.NotExist
  new ← refuse (is_some (snap_at log.records now)) reply.Exist
  std.Ok (rec.Snap now)

-- Put: links, and any right; then a snapshot by the one file; else Permission of write where something stands, of create where
-- nothing does. Sequence and blocks do not matter.
unfoldable pub snapshot_put : Log → Look → Entry → ℕ → Result Rec Reply
snapshot_put log look entry now = do
  seen ← unless (check look (ways entry.name) entry.name None)
  if takes_snapshot log entry then snapshot_record log now
      else std.Err (reply.Permission (right_to_put (node_at look.tree entry.name)))

-- Delete: links above the path, and any right; then Permission of delete.
unfoldable pub snapshot_delete : Look → PathName → Reply
snapshot_delete look path = unwrap_or (check look (ways_before path) path None) (reply.Permission right.Delete)

-- What a user's request on the snapshot tree leads to at a moment: a record that is to be added, or else a reply. A Watch has been
-- refused before any tree is looked at.
unfoldable pub snapshot_outcome : Log → UserName → ReadRequest → ℕ → Result Rec Reply
snapshot_outcome log user (Lookup path) now = std.Err (lookup_reply (snapshot_look log user) path)
snapshot_outcome log user (WhichAccess path) now = std.Err (access_reply (snapshot_look log user) path)
snapshot_outcome log user (GroupText path) now = std.Err (group_text_reply (snapshot_look log user) path)
snapshot_outcome log user (Glob pattern) now = std.Err (glob_reply (snapshot_look log user) pattern)
snapshot_outcome log user (Watch path sequence) now = std.Err (reply.Invalid what.SnapshotWatch)
snapshot_outcome log user (Delete path) now = std.Err (snapshot_delete (snapshot_look log user) path)
snapshot_outcome log user (Put put) now = snapshot_put log (snapshot_look log user) put.entry now
