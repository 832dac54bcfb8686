-- Put (Upspin overview; the order of its refusals, and which rights are tested, are this project's own).
use Rattle.std.specs.Prelude.{ℕ, zero, suc, ◌+◌, ◌==◌, ℤ, pos, negsuc, Bool, true, false, not, ◌&&◌, ◌||◌, ⊤}
use Rattle.std.specs.Prelude.{Option, Some, None, is_none, is_some, Result}
use Rattle.std.specs.Prelude as std
use Rattle.up_names.specs.PathNames.{PathName, parent_of}
use Rattle.up_entry.specs.declared.puts.Checked.{Checked}
use Rattle.up_entry.specs.declared.records.Rec.{Rec}
use Rattle.up_entry.specs.declared.records.Rec.TheVariants as rec
use Rattle.up_entry.specs.Rules.{is_directory}
use Rattle.up_wire.specs.declared.replies.Reply.{Reply}
use Rattle.up_wire.specs.declared.replies.Reply.TheVariants as reply
use Rattle.up_log_tree.specs.declared.node.Node.{Node}
use Rattle.up_log_tree.specs.Trees.{Tree, node_at, kind_of, is_file}
use Rattle.up_list.specs.Looks.{Look}
use Rattle.up_list.specs.Checks.{check, ways}
use Rattle.up_list.specs.Changes.{◌>>=◌, unless, refuse, right_to_put}
use Rattle.up_answers.specs.Fetching.{Fetched, text_put}

-- the sequence that the item has to have, where one was handed in: a positive one
abbrev pub wanted : ℤ → Option ℕ
wanted (pos zero) = None
wanted (pos (suc n)) = Some (suc n)
wanted (negsuc n) = None

-- nothing may be there: the sequence -1
abbrev pub is_new : ℤ → Bool
is_new (pos n) = false
is_new (negsuc n) = true

-- something is there that passes a test
abbrev pub holds : Option Node → (Node → Bool) → Bool
holds None test = false
holds (Some node) test = test node

-- the parent is not there; a root has none
abbrev pub lacks_parent : Tree → PathName → Bool
lacks_parent tree path = elim (parent_of path) [ None ↦ false | Some parent ↦ is_none (node_at tree parent) ]

-- the parent is a file
abbrev pub is_in_file : Tree → PathName → Bool
is_in_file tree path = elim (parent_of path) [ None ↦ false | Some parent ↦ holds (node_at tree parent) (λ node. is_file (kind_of node)) ]

-- a sequence was handed in that is not the item's
abbrev pub sequence_refusal : Option Node → ℤ → Result ⊤ Reply
sequence_refusal None sequence = std.Ok tt
sequence_refusal (Some node) sequence = elim (wanted sequence) [
  | None ↦ std.Ok tt
  | Some n ↦ refuse (not (n == node.entry.sequence)) (reply.BadSequence node.entry.sequence)
]

-- The refusals by what stands at the path and above it: NotExist where the parent is not there, or where a sequence was handed in
-- and the item is not; NotDir where the parent is a file; IsDir where a directory stands at the path and the entry is none; Exist
-- where something does, and nothing may or the entry is a directory; BadSequence.
unfoldable pub place_refusal : Option Node → Tree → Checked → Result ⊤ Reply
place_refusal found tree put = do
  placed ← refuse (lacks_parent tree put.entry.name || (is_some (wanted put.sequence) && is_none found)) reply.NotExist
  above ← refuse (is_in_file tree put.entry.name) reply.NotDir
  kept ← refuse (holds found (λ node. is_directory (kind_of node)) && not (is_directory put.entry.attr.kind)) reply.IsDir
  new ← refuse (is_some found && (is_new put.sequence || is_directory put.entry.attr.kind)) reply.Exist
  sequence_refusal found put.sequence

-- In a log of n records: links, and write where something stands at the path, else create; then the refusals of the place; then
-- those of a control file's text; else the record, with the next position as the entry's sequence.
unfoldable pub put_outcome : Look → ℕ → Fetched → Checked → Result Rec Reply
put_outcome look n fetched put = do
  let found = node_at look.tree put.entry.name
  allowed ← unless (check look (ways put.entry.name) put.entry.name (Some (right_to_put found)))
  placed ← place_refusal found look.tree put
  text ← text_put look.owner fetched put.entry
  std.Ok (rec.Put (record (put.entry) { sequence = n + 1 }) text)
