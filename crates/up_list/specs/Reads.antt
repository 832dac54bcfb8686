-- The replies to Lookup, WhichAccess and GroupText: a check, and then the first that fits.
use Rattle.std.specs.Prelude.{if◌then◌else◌, [], Option, Some, None, unwrap_or}
use Rattle.std.specs.Option.{option_map}
use Rattle.up_names.specs.Texts.{Text}
use Rattle.up_names.specs.PathNames.{PathName}
use Rattle.up_entry.specs.declared.entries.Entry.{Entry}
use Rattle.up_rights.specs.declared.Right.TheVariants as right
use Rattle.up_wire.specs.declared.replies.Reply.{Reply}
use Rattle.up_wire.specs.declared.replies.Reply.TheVariants.{Ok, NotExist}
use Rattle.up_wire.specs.declared.replies.Done.TheVariants as done
use Rattle.up_log_tree.specs.declared.node.Node.{Node}
use Rattle.up_log_tree.specs.Trees.{node_at, kind_of, is_file}
use Rattle.up_list.specs.Entries.{entry_at}
use Rattle.up_list.specs.Looks.{Look, shown}
use Rattle.up_list.specs.Governing.{governing_file}
use Rattle.up_list.specs.Checks.{check, ways}

-- the entry as it is shown, or NotExist where nothing is there
abbrev pub entry_reply : Look → Option Entry → Reply
entry_reply look None = NotExist
entry_reply look (Some entry) = Ok (done.Entry (shown look entry))

-- Lookup: any right; then NotExist where nothing is there, else the entry as it is shown (Upspin overview).
unfoldable pub lookup_reply : Look → PathName → Reply
lookup_reply look path = unwrap_or (check look (ways path) path None) (entry_reply look (entry_at look.tree path))

-- WhichAccess: any right; then the entry of the Access file that governs, as it is shown, or none. The item need not be
-- there (Upspin overview).
unfoldable pub access_reply : Look → PathName → Reply
access_reply look path =
    unwrap_or (check look (ways path) path None)
    (Ok (done.Access (option_map (shown look) (governing_file look path))))

-- the text of a file
abbrev pub file_text : Option Node → Option Text
file_text None = None
file_text (Some node) = if is_file (kind_of node) then Some node.text else None

-- a text, or NotExist where there is none
abbrev pub text_reply : Option Text → Reply
text_reply None = NotExist
text_reply (Some text) = Ok (done.Text text)

-- GroupText: read, with nothing loaded; then NotExist where no file is there, else the text (this project's own).
unfoldable pub group_text_reply : Look → PathName → Reply
group_text_reply look path =
    let alone : Look = record look { loaded = [] } in
    unwrap_or (check alone (ways path) path (Some right.Read)) (text_reply (file_text (node_at look.tree path)))
