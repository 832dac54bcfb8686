-- The lines that tell a reply, each without the session's number and its LF. This project's own.
use Rattle.std.specs.Prelude.{Bool, true, false, List, [], ◌∷◌, ◌++◌, length, map, Option, Some, None, codes, decimal}
use Rattle.up_names.specs.Texts.{Text}
use Rattle.up_entry.specs.declared.entries.Entry.{Entry}
use Rattle.up_entry.specs.declared.what.What.{What}
use Rattle.up_entry.specs.declared.what.What.TheVariants as what
use Rattle.up_refs.specs.References.{text_of}
use Rattle.up_rights.specs.Words.{long_word}
use Rattle.up_wire.specs.declared.keys.KeyRecord.{KeyRecord}
use Rattle.up_wire.specs.declared.replies.Done.{Done}
use Rattle.up_wire.specs.declared.replies.Done.TheVariants as done
use Rattle.up_wire.specs.declared.replies.Reply.{Reply}
use Rattle.up_wire.specs.declared.replies.Reply.TheVariants as reply
use Rattle.up_wire.specs.declared.replies.Row.{Row}
use Rattle.up_wire.specs.declared.replies.WatchEvent.{WatchEvent}
use Rattle.up_text.specs.Entries.{endpoints_word, entry_words}
use Rattle.up_text.specs.Lines.{spaced}
use Rattle.up_text.specs.Words.{coded}

-- what of a request is malformed
abbrev pub what_word : What → Text
what_word what.Name = codes "name"
what_word what.SignedName = codes "signedname"
what_word what.Writer = codes "writer"
what_word what.Packing = codes "packing"
what_word what.Attr = codes "attr"
what_word what.Link = codes "link"
what_word what.Blocks = codes "blocks"
what_word what.Packdata = codes "packdata"
what_word what.Root = codes "root"
what_word what.Control = codes "control"
what_word what.ControlSize = codes "controlsize"
what_word what.Sequence = codes "sequence"
what_word (what.Pattern element) = codes "pattern"
what_word what.Reference = codes "reference"
what_word what.Block = codes "block"
what_word what.Key = codes "key"
what_word what.SnapshotWatch = codes "snapshotwatch"
what_word what.GroupName = codes "groupname"

-- the word of the element of a pattern that is malformed; nothing else that is malformed has one
abbrev pub element_words : What → List Text
element_words (what.Pattern element) = decimal element ∷ []
element_words _ = []

-- `row REST ENTRY`
abbrev pub row_words : Row → List Text
row_words row = codes "row" ∷ decimal row.rest ∷ entry_words row.entry

-- the word of an event: `delete` or `put`
abbrev pub event_kind : Bool → Text
event_kind true = codes "delete"
event_kind false = codes "put"

-- `event POSITION put ENTRY`, or `delete` in its place
abbrev pub event_words : WatchEvent → List Text
event_words event = codes "event" ∷ decimal event.position ∷ event_kind event.delete ∷ entry_words event.entry

-- `USER DIRS STORES KEY`
abbrev pub key_words : KeyRecord → List Text
key_words known = coded known.user ∷ endpoints_word known.dirs ∷ endpoints_word known.stores ∷ coded known.key ∷ []

-- the words that tell which Access file governs: its entry, or `none`
abbrev pub access_words : Option Entry → List Text
access_words None = codes "none" ∷ []
access_words (Some entry) = entry_words entry

-- the words of the first line of what was done
unfoldable pub done_words : Done → List Text
done_words (done.Changed position) = codes "ok" ∷ decimal position ∷ []
done_words (done.Entry entry) = codes "entry" ∷ entry_words entry
done_words (done.Rows rows) = codes "glob" ∷ decimal (length rows) ∷ []
done_words (done.Access found) = codes "access" ∷ access_words found
done_words (done.Events events next) = codes "watch" ∷ decimal (length events) ∷ decimal next ∷ []
done_words (done.Text text) = codes "text" ∷ coded text ∷ []
done_words (done.Reference reference) = codes "ref" ∷ text_of reference ∷ []
done_words (done.Bytes bytes) = codes "bytes" ∷ coded bytes ∷ []
done_words (done.Key known) = codes "key" ∷ key_words known

-- the words of the lines after the first one of what was done
unfoldable pub further_words : Done → List (List Text)
further_words (done.Rows rows) = map (λ row. row_words row) rows
further_words (done.Events events next) = map (λ event. event_words event) events
further_words (done.Changed position) = []
further_words (done.Entry entry) = []
further_words (done.Access found) = []
further_words (done.Text text) = []
further_words (done.Reference reference) = []
further_words (done.Bytes bytes) = []
further_words (done.Key known) = []

-- the words of each line of a reply; want of memory has no line
unfoldable pub reply_words : Reply → List (List Text)
reply_words (reply.Ok d) = done_words d ∷ further_words d
reply_words (reply.Invalid w) = (codes "invalid" ∷ what_word w ∷ element_words w) ∷ []
reply_words reply.WrongHost = (codes "wronghost" ∷ []) ∷ []
reply_words (reply.FollowLink entry) = (codes "followlink" ∷ entry_words entry) ∷ []
reply_words reply.Private = (codes "private" ∷ []) ∷ []
reply_words (reply.Permission right) = (codes "permission" ∷ long_word right ∷ []) ∷ []
reply_words reply.NotExist = (codes "notexist" ∷ []) ∷ []
reply_words reply.NotDir = (codes "notdir" ∷ []) ∷ []
reply_words reply.IsDir = (codes "isdir" ∷ []) ∷ []
reply_words reply.Exist = (codes "exist" ∷ []) ∷ []
reply_words (reply.BadSequence current) = (codes "badsequence" ∷ decimal current ∷ []) ∷ []
reply_words reply.NotEmpty = (codes "notempty" ∷ []) ∷ []
reply_words (reply.BadBlock reference) = (codes "badblock" ∷ text_of reference ∷ []) ∷ []
reply_words (reply.BadText line) = (codes "badtext" ∷ decimal line ∷ []) ∷ []
reply_words (reply.TooLarge size) = (codes "toolarge" ∷ decimal size ∷ []) ∷ []
reply_words (reply.Full records) = (codes "full" ∷ decimal records ∷ []) ∷ []
reply_words reply.Io = (codes "io" ∷ []) ∷ []
reply_words reply.OutOfMemory = []

-- the lines of a reply, each of its words
unfoldable pub reply_lines : Reply → List Text
reply_lines given = map (λ words. spaced words) (reply_words given)

-- the text of the first of some lines of words
abbrev pub first_text : List (List Text) → Text
first_text [] = []
first_text (words ∷ more) = spaced words

-- a line of output behind a front, with its LF
abbrev pub line_behind : Text → Text → Text
line_behind front text = front ++ (text ++ codes "\n")
