-- The answer to a request over a tree's log: what is replied, and the record that is added. All that a server ever says of a tree is
-- said by these definitions.
use Rattle.std.specs.Prelude.{ℕ, if◌then◌else◌, List, length, Result, Ok, Err}
use Rattle.std.specs.Prelude as std
use Rattle.std.specs.Str.{bytes_eq}
use Rattle.up_names.specs.Texts.{UserName}
use Rattle.up_names.specs.UserNames.{base_of}
use Rattle.up_entry.specs.declared.records.Rec.{Rec}
use Rattle.up_entry.specs.declared.fault.EntryFault.{EntryFault}
use Rattle.up_entry.specs.declared.fault.EntryFault.TheVariants as fault
use Rattle.up_policy.specs.Loadings.{Loading}
use Rattle.up_policy.specs.Trees.{owns_snapshots}
use Rattle.up_wire.specs.declared.requests.Request.{Request}
use Rattle.up_wire.specs.declared.replies.Reply.{Reply}
use Rattle.up_wire.specs.declared.replies.Reply.TheVariants as reply
use Rattle.up_log_tree.specs.Logs.{Log}
use Rattle.up_list.specs.declared.asking.ReadRequest.{ReadRequest}
use Rattle.up_list.specs.declared.asking.ReadRequest.TheVariants.{Lookup, WhichAccess, GroupText, Delete, Put, Glob, Watch}
use Rattle.up_list.specs.Looks.{look_now}
use Rattle.up_list.specs.Reads.{lookup_reply, access_reply, group_text_reply}
use Rattle.up_list.specs.Globs.{glob_reply}
use Rattle.up_list.specs.Asking.{asked_of, owner_asked}
use Rattle.up_list.specs.Changes.{answer_of, added_by}
use Rattle.up_answers.specs.Watches.{watch_reply}
use Rattle.up_answers.specs.SnapshotReplies.{snapshot_outcome}
use Rattle.up_answers.specs.Fetching.{Fetched}
use Rattle.up_answers.specs.Deletes.{delete_outcome}
use Rattle.up_answers.specs.Puts.{put_outcome}

-- What a user's request on a path of the tree leads to: a record that is to be added (Ok), or else a reply (Err).
unfoldable pub tree_outcome : Log → Loading → Fetched → UserName → ReadRequest → Result Rec Reply
tree_outcome log loaded fetched user (Lookup path) = std.Err (lookup_reply (look_now log loaded user) path)
tree_outcome log loaded fetched user (WhichAccess path) = std.Err (access_reply (look_now log loaded user) path)
tree_outcome log loaded fetched user (GroupText path) = std.Err (group_text_reply (look_now log loaded user) path)
tree_outcome log loaded fetched user (Glob pattern) = std.Err (glob_reply (look_now log loaded user) pattern)
tree_outcome log loaded fetched user (Watch path sequence) = std.Err (watch_reply log loaded user path sequence)
tree_outcome log loaded fetched user (Delete path) = delete_outcome (look_now log loaded user) path
tree_outcome log loaded fetched user (Put put) = put_outcome (look_now log loaded user) (length log.records) fetched put

-- the owner of the tree's log to which a path of this owner belongs: the base user for a path of a snapshot tree
abbrev pub log_owner : UserName → UserName
log_owner owner = if owns_snapshots owner then base_of owner else owner

-- What a user's request leads to whose texts were read: on a path of the tree; on one of its snapshot tree; elsewhere WrongHost.
unfoldable pub asked_outcome : Log → Loading → Fetched → UserName → ReadRequest → ℕ → Result Rec Reply
asked_outcome log loaded fetched user asked now =
    if bytes_eq (owner_asked asked) log.owner then tree_outcome log loaded fetched user asked
    else if bytes_eq (log_owner (owner_asked asked)) log.owner then snapshot_outcome log user asked now
    else std.Err reply.WrongHost

-- the reply to a request of which something is malformed
abbrev pub fault_reply : EntryFault → Reply
fault_reply (fault.Invalid what) = reply.Invalid what
fault_reply fault.OutOfMemory = reply.OutOfMemory

-- What a user's request leads to: its texts are read first.
unfoldable pub outcome : Log → Loading → Fetched → UserName → Request → ℕ → Result Rec Reply
outcome log loaded fetched user request now = elim (asked_of user request) [
  | Ok asked ↦ asked_outcome log loaded fetched user asked now
  | Err fault ↦ std.Err (fault_reply fault)
]

-- The answer to a user's request over a log, with what was loaded and fetched for it, at a moment.
unfoldable pub answer : Log → Loading → Fetched → UserName → Request → ℕ → Reply
answer log loaded fetched user request now = answer_of log (outcome log loaded fetched user request now)

-- The records that it adds: one where it is answered by a position, else none.
unfoldable pub added : Log → Loading → Fetched → UserName → Request → ℕ → List Rec
added log loaded fetched user request now = added_by log (outcome log loaded fetched user request now)
