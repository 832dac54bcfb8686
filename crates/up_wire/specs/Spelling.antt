-- The one spelling of each message: a tag and its fields, in the fields of up_bytes and up_entry. This project's own format.
use Rattle.std.specs.Prelude.{ℕ, Bool, true, false, List, [], ◌++◌, Option, Some, None, ⊤}
use Rattle.std.specs.List.{AllByRecursion}
use Rattle.up_bytes.specs.Num.{num}
use Rattle.up_bytes.specs.Spelling.{byte, int, text, raw, list, HasLength, IsI64, IsList, IsText, IsU64}
use Rattle.up_entry.specs.declared.entries.Entry.{Entry}
use Rattle.up_entry.specs.declared.what.What.{What}
use Rattle.up_entry.specs.declared.what.What.TheVariants as what
use Rattle.up_entry.specs.RawEntries.{raw_entry, IsRawEntry, IsSpelledRaw}
use Rattle.up_entry.specs.Spelling.{entry, IsEntry, IsSpelled}
use Rattle.up_rights.specs.declared.Right.{Right}
use Rattle.up_rights.specs.declared.Right.TheVariants as right
use Rattle.up_wire.specs.declared.messages.ClientFrame.{ClientFrame}
use Rattle.up_wire.specs.declared.messages.ClientFrame.TheVariants.{Hello, Proof, Bye, Ask}
use Rattle.up_wire.specs.declared.messages.ServerFrame.{ServerFrame}
use Rattle.up_wire.specs.declared.messages.ServerFrame.TheVariants.{Challenge, Welcome, NotSigned, Answer}
use Rattle.up_wire.specs.declared.replies.Done.{Done}
use Rattle.up_wire.specs.declared.replies.Done.TheVariants as done
use Rattle.up_wire.specs.declared.replies.Reply.{Reply}
use Rattle.up_wire.specs.declared.replies.Reply.TheVariants as reply
use Rattle.up_wire.specs.declared.replies.Row.{Row}
use Rattle.up_wire.specs.declared.replies.WatchEvent.{WatchEvent}
use Rattle.up_wire.specs.declared.requests.Request.{Request}
use Rattle.up_wire.specs.declared.requests.Request.TheVariants as request
use Rattle.up_wire.specs.Keys.{key_card, key_record, IsKeyCard, IsKeyRecord, IsSpelledKeyCard, IsSpelledKeyRecord}

-- ---- what a client sends

-- the tag of a request
abbrev pub request_tag : Request → ℕ
request_tag (request.Lookup path) = 0x10
request_tag (request.Put put) = 0x11
request_tag (request.Delete path) = 0x12
request_tag (request.Glob pattern) = 0x13
request_tag (request.WhichAccess path) = 0x14
request_tag (request.Watch path sequence) = 0x15
request_tag (request.GroupText path) = 0x16
request_tag (request.Get reference) = 0x20
request_tag (request.StorePut block) = 0x21
request_tag (request.StoreDelete reference) = 0x22
request_tag (request.KeyLookup user) = 0x30
request_tag (request.KeyPut card) = 0x31

-- the fields of a request, after its tag
abbrev pub request_fields : Request → List ℕ
request_fields (request.Lookup path) = text path
request_fields (request.Put put) = raw_entry put
request_fields (request.Delete path) = text path
request_fields (request.Glob pattern) = text pattern
request_fields (request.WhichAccess path) = text path
request_fields (request.Watch path sequence) = text path ++ int sequence
request_fields (request.GroupText path) = text path
request_fields (request.Get reference) = text reference
request_fields (request.StorePut block) = text block
request_fields (request.StoreDelete reference) = text reference
request_fields (request.KeyLookup user) = text user
request_fields (request.KeyPut card) = key_card card

-- the tag of what a client sends
abbrev pub client_tag : ClientFrame → ℕ
client_tag (Hello user) = 0x01
client_tag (Proof signature) = 0x02
client_tag Bye = 0x03
client_tag (Ask asked) = request_tag asked

-- the fields of what a client sends, after the tag
abbrev pub client_fields : ClientFrame → List ℕ
client_fields (Hello user) = text user
client_fields (Proof signature) = text signature
client_fields Bye = []
client_fields (Ask asked) = request_fields asked

-- the payload of what a client sends: its tag and its fields
abbrev pub client : ClientFrame → List ℕ
client frame = byte (client_tag frame) ++ client_fields frame

-- ---- what a server sends

-- what of a request is malformed: a byte, and for a pattern the number of the element
abbrev pub what_tag : What → ℕ
what_tag what.Name = 0
what_tag what.SignedName = 1
what_tag what.Writer = 2
what_tag what.Packing = 3
what_tag what.Attr = 4
what_tag what.Link = 5
what_tag what.Blocks = 6
what_tag what.Packdata = 7
what_tag what.Root = 8
what_tag what.Control = 9
what_tag what.ControlSize = 10
what_tag what.Sequence = 11
what_tag (what.Pattern element) = 12
what_tag what.Reference = 13
what_tag what.Block = 14
what_tag what.Key = 15
what_tag what.SnapshotWatch = 16
what_tag what.GroupName = 17

-- the element of a pattern that is malformed; nothing else that is malformed has a field
abbrev pub what_fields : What → List ℕ
what_fields (what.Pattern element) = num element
what_fields _ = []

-- what is malformed: its byte and its field
abbrev pub spelled_what : What → List ℕ
spelled_what w = byte (what_tag w) ++ what_fields w

-- the byte of a right
abbrev pub right_byte : Right → ℕ
right_byte right.Read = 0
right_byte right.Write = 1
right_byte right.List = 2
right_byte right.Create = 3
right_byte right.Delete = 4

-- an entry that may be missing: 0, or 1 and the entry
abbrev pub option_tag : Option Entry → ℕ
option_tag None = 0
option_tag (Some e) = 1

-- the entry, where there is one
abbrev pub option_fields : Option Entry → List ℕ
option_fields None = []
option_fields (Some e) = entry e

-- an entry that may be missing: 0, or 1 and the entry
abbrev pub spelled_option : Option Entry → List ℕ
spelled_option found = byte (option_tag found) ++ option_fields found

-- a row: how many elements remain, and the entry
unfoldable pub row : Row → List ℕ
row r = num r.rest ++ entry r.entry

-- what an event is: 0 where the entry was put, 1 where it was deleted
abbrev pub event_byte : Bool → ℕ
event_byte false = 0
event_byte true = 1

-- an event: its position, what it is, and the entry
unfoldable pub event : WatchEvent → List ℕ
event e = num e.position ++ byte (event_byte e.delete) ++ entry e.entry

-- the shape of what was done
abbrev pub done_tag : Done → ℕ
done_tag (done.Changed position) = 0x01
done_tag (done.Entry e) = 0x02
done_tag (done.Rows rows) = 0x03
done_tag (done.Access found) = 0x04
done_tag (done.Events events next) = 0x05
done_tag (done.Text bytes) = 0x06
done_tag (done.Reference reference) = 0x07
done_tag (done.Bytes bytes) = 0x08
done_tag (done.Key known) = 0x09

-- the fields of what was done, after its byte
abbrev pub done_fields : Done → List ℕ
done_fields (done.Changed position) = num position
done_fields (done.Entry e) = entry e
done_fields (done.Rows rows) = list row rows
done_fields (done.Access found) = spelled_option found
done_fields (done.Events events next) = list event events ++ num next
done_fields (done.Text bytes) = text bytes
done_fields (done.Reference reference) = raw reference
done_fields (done.Bytes bytes) = text bytes
done_fields (done.Key known) = key_record known

-- what was done: its byte and its fields
abbrev pub spelled_done : Done → List ℕ
spelled_done d = byte (done_tag d) ++ done_fields d

-- the number of a reply
abbrev pub reply_tag : Reply → ℕ
reply_tag (reply.Ok d) = 0x00
reply_tag (reply.Invalid w) = 0x01
reply_tag reply.WrongHost = 0x02
reply_tag (reply.FollowLink e) = 0x03
reply_tag reply.Private = 0x04
reply_tag (reply.Permission r) = 0x05
reply_tag reply.NotExist = 0x06
reply_tag reply.NotDir = 0x07
reply_tag reply.IsDir = 0x08
reply_tag reply.Exist = 0x09
reply_tag (reply.BadSequence current) = 0x0A
reply_tag reply.NotEmpty = 0x0B
reply_tag (reply.BadBlock reference) = 0x0C
reply_tag (reply.BadText line) = 0x0D
reply_tag (reply.TooLarge size) = 0x0E
reply_tag (reply.Full records) = 0x0F
reply_tag reply.Io = 0x10
reply_tag reply.OutOfMemory = 0x11

-- the fields of a reply, after its tag
abbrev pub reply_fields : Reply → List ℕ
reply_fields (reply.Ok d) = spelled_done d
reply_fields (reply.Invalid w) = spelled_what w
reply_fields (reply.FollowLink e) = entry e
reply_fields (reply.Permission r) = byte (right_byte r)
reply_fields (reply.BadSequence current) = num current
reply_fields (reply.BadBlock reference) = raw reference
reply_fields (reply.BadText line) = num line
reply_fields (reply.TooLarge size) = num size
reply_fields (reply.Full records) = num records
reply_fields _ = []

-- the tag of what a server sends
abbrev pub server_tag : ServerFrame → ℕ
server_tag (Challenge bytes) = 0x81
server_tag Welcome = 0x82
server_tag NotSigned = 0x83
server_tag (Answer given) = reply_tag given

-- the fields of what a server sends, after the tag
abbrev pub server_fields : ServerFrame → List ℕ
server_fields (Challenge bytes) = raw bytes
server_fields Welcome = []
server_fields NotSigned = []
server_fields (Answer given) = reply_fields given

-- the payload of what a server sends: its tag and its fields
abbrev pub server : ServerFrame → List ℕ
server frame = byte (server_tag frame) ++ server_fields frame

-- ---- what each value of the program is, by its types

-- a request as the program can hold it
abbrev pub IsRequest : Request → Type 0
IsRequest (request.Lookup path) = IsText path
IsRequest (request.Put put) = IsRawEntry put
IsRequest (request.Delete path) = IsText path
IsRequest (request.Glob pattern) = IsText pattern
IsRequest (request.WhichAccess path) = IsText path
IsRequest (request.Watch path sequence) = IsText path × IsI64 sequence
IsRequest (request.GroupText path) = IsText path
IsRequest (request.Get reference) = IsText reference
IsRequest (request.StorePut block) = IsText block
IsRequest (request.StoreDelete reference) = IsText reference
IsRequest (request.KeyLookup user) = IsText user
IsRequest (request.KeyPut card) = IsKeyCard card

-- what a client sends, as the program can hold it
abbrev pub IsClient : ClientFrame → Type 0
IsClient (Hello user) = IsText user
IsClient (Proof signature) = IsText signature
IsClient Bye = ⊤
IsClient (Ask asked) = IsRequest asked

-- what is malformed, as the program can hold it
abbrev pub IsWhat : What → Type 0
IsWhat (what.Pattern element) = IsU64 element
IsWhat _ = ⊤

-- an entry that may be missing, as the program can hold it
abbrev pub IsOption : Option Entry → Type 0
IsOption None = ⊤
IsOption (Some e) = IsEntry e

-- a row as the program can hold it
abbrev pub IsRow : Row → Type 0
IsRow r = IsU64 r.rest × IsEntry r.entry

-- an event as the program can hold it
abbrev pub IsEvent : WatchEvent → Type 0
IsEvent e = IsU64 e.position × IsEntry e.entry

-- what was done, as the program can hold it
abbrev pub IsDone : Done → Type 0
IsDone (done.Changed position) = IsU64 position
IsDone (done.Entry e) = IsEntry e
IsDone (done.Rows rows) = IsList IsRow rows
IsDone (done.Access found) = IsOption found
IsDone (done.Events events next) = IsList IsEvent events × IsU64 next
IsDone (done.Text bytes) = IsText bytes
IsDone (done.Reference reference) = HasLength 32 reference
IsDone (done.Bytes bytes) = IsText bytes
IsDone (done.Key known) = IsKeyRecord known

-- a reply as the program can hold it
abbrev pub IsReply : Reply → Type 0
IsReply (reply.Ok d) = IsDone d
IsReply (reply.Invalid w) = IsWhat w
IsReply (reply.FollowLink e) = IsEntry e
IsReply (reply.BadSequence current) = IsU64 current
IsReply (reply.BadBlock reference) = HasLength 32 reference
IsReply (reply.BadText line) = IsU64 line
IsReply (reply.TooLarge size) = IsU64 size
IsReply (reply.Full records) = IsU64 records
IsReply _ = ⊤

-- what a server sends, as the program can hold it
abbrev pub IsServer : ServerFrame → Type 0
IsServer (Challenge bytes) = HasLength 32 bytes
IsServer Welcome = ⊤
IsServer NotSigned = ⊤
IsServer (Answer given) = IsReply given

-- ---- which of them have a spelling: those whose entries have, and whose endpoints have an address or are the host's own

-- a request has a spelling
abbrev pub IsSpelledRequest : Request → Type 0
IsSpelledRequest (request.Put put) = IsSpelledRaw put
IsSpelledRequest (request.KeyPut card) = IsSpelledKeyCard card
IsSpelledRequest _ = ⊤

-- what a client sends has a spelling
abbrev pub IsSpelledClient : ClientFrame → Type 0
IsSpelledClient (Ask asked) = IsSpelledRequest asked
IsSpelledClient _ = ⊤

-- an entry that may be missing has a spelling
abbrev pub IsSpelledOption : Option Entry → Type 0
IsSpelledOption None = ⊤
IsSpelledOption (Some e) = IsSpelled e

-- what was done has a spelling
abbrev pub IsSpelledDone : Done → Type 0
IsSpelledDone (done.Entry e) = IsSpelled e
IsSpelledDone (done.Rows rows) = AllByRecursion (λ r. IsSpelled r.entry) rows
IsSpelledDone (done.Access found) = IsSpelledOption found
IsSpelledDone (done.Events events next) = AllByRecursion (λ e. IsSpelled e.entry) events
IsSpelledDone (done.Key known) = IsSpelledKeyRecord known
IsSpelledDone _ = ⊤

-- a reply has a spelling
abbrev pub IsSpelledReply : Reply → Type 0
IsSpelledReply (reply.Ok d) = IsSpelledDone d
IsSpelledReply (reply.FollowLink e) = IsSpelled e
IsSpelledReply _ = ⊤

-- what a server sends has a spelling
abbrev pub IsSpelledServer : ServerFrame → Type 0
IsSpelledServer (Answer given) = IsSpelledReply given
IsSpelledServer _ = ⊤

-- ---- the values that have a spelling

-- what a client sends, where the program can hold it and it has a spelling
abbrev pub FitsClient : ClientFrame → Type 0
FitsClient frame = IsClient frame × IsSpelledClient frame

-- what a server sends, where the program can hold it and it has a spelling
abbrev pub FitsServer : ServerFrame → Type 0
FitsServer frame = IsServer frame × IsSpelledServer frame
