-- Reading a message: a tag, and the fields that a table has after it. The first field that is no spelling of a value that
-- may stand there is Spelling, with its place; where the input ends before that, it is Short.
use Rattle.std.specs.Prelude.{ℕ, Bool, true, false, List, [], ◌∷◌, Option, Some, None, Result, Ok}
use Rattle.up_bytes.specs.declared.fault.FieldFault.{FieldFault}
use Rattle.up_bytes.specs.Input.{Input}
use Rattle.up_bytes.specs.Reading.{◌>>=◌, bytes_at, int_at, list_at, made_of, num_at, plain, tagged_at, text_at, whole_of}
use Rattle.up_entry.specs.declared.entries.Entry.{Entry}
use Rattle.up_entry.specs.declared.what.What.{What}
use Rattle.up_entry.specs.declared.what.What.TheVariants as what
use Rattle.up_entry.specs.RawEntries.{raw_entry_at}
use Rattle.up_entry.specs.Reading.{entry_at}
use Rattle.up_rights.specs.declared.Right.{Right}
use Rattle.up_rights.specs.declared.Right.TheVariants as right
use Rattle.up_wire.specs.declared.messages.ClientFrame.{ClientFrame}
use Rattle.up_wire.specs.declared.messages.ClientFrame.TheVariants.{Hello, Proof, Bye, Ask}
use Rattle.up_wire.specs.declared.messages.ServerFrame.{ServerFrame}
use Rattle.up_wire.specs.declared.messages.ServerFrame.TheVariants.{Challenge, Welcome, NotSigned, Answer}
use Rattle.up_wire.specs.declared.replies.Done.{Done}
use Rattle.up_wire.specs.declared.replies.Done.TheVariants as done
use Rattle.up_wire.specs.declared.replies.Reply.TheVariants as reply
use Rattle.up_wire.specs.declared.replies.Row.{Row}
use Rattle.up_wire.specs.declared.replies.WatchEvent.{WatchEvent}
use Rattle.up_wire.specs.declared.requests.Request.{Request}
use Rattle.up_wire.specs.declared.requests.Request.TheVariants as request
use Rattle.up_wire.specs.Keys.{key_card_at, key_record_at}

-- ---- what a client sends

-- a Watch: a path's text and a sequence
unfoldable pub watch_at : Input → Result (Request × Input) FieldFault
watch_at input = do
  path ← text_at input
  sequence ← int_at path.1
  Ok (request.Watch path.0 sequence.0, sequence.1)

-- the requests
abbrev pub request_table : List (ℕ × (Input → Result (ClientFrame × Input) FieldFault))
request_table =
    (0x10, made_of (λ path. Ask (request.Lookup path)) text_at)
    ∷ (0x11, made_of (λ put. Ask (request.Put put)) raw_entry_at)
    ∷ (0x12, made_of (λ path. Ask (request.Delete path)) text_at)
    ∷ (0x13, made_of (λ pattern. Ask (request.Glob pattern)) text_at)
    ∷ (0x14, made_of (λ path. Ask (request.WhichAccess path)) text_at)
    ∷ (0x15, made_of (λ watch. Ask watch) watch_at)
    ∷ (0x16, made_of (λ path. Ask (request.GroupText path)) text_at)
    ∷ (0x20, made_of (λ reference. Ask (request.Get reference)) text_at)
    ∷ (0x21, made_of (λ block. Ask (request.StorePut block)) text_at)
    ∷ (0x22, made_of (λ reference. Ask (request.StoreDelete reference)) text_at)
    ∷ (0x30, made_of (λ user. Ask (request.KeyLookup user)) text_at)
    ∷ (0x31, made_of (λ card. Ask (request.KeyPut card)) key_card_at)
    ∷ []

-- the tags of what a client sends, each with what follows it
abbrev pub client_table : List (ℕ × (Input → Result (ClientFrame × Input) FieldFault))
client_table =
    (0x01, made_of (λ user. Hello user) text_at)
    ∷ (0x02, made_of (λ signature. Proof signature) text_at)
    ∷ (0x03, plain Bye)
    ∷ request_table

-- a client's message is read by its tag
abbrev pub client_at : Input → Result (ClientFrame × Input) FieldFault
client_at = tagged_at client_table

-- the message that is the whole of these bytes
abbrev pub client_of : List ℕ → Result ClientFrame FieldFault
client_of = whole_of client_at

-- ---- what a server sends

-- the bytes for what is malformed, each with what follows it
abbrev pub what_table : List (ℕ × (Input → Result (What × Input) FieldFault))
what_table =
    (0, plain what.Name)
    ∷ (1, plain what.SignedName)
    ∷ (2, plain what.Writer)
    ∷ (3, plain what.Packing)
    ∷ (4, plain what.Attr)
    ∷ (5, plain what.Link)
    ∷ (6, plain what.Blocks)
    ∷ (7, plain what.Packdata)
    ∷ (8, plain what.Root)
    ∷ (9, plain what.Control)
    ∷ (10, plain what.ControlSize)
    ∷ (11, plain what.Sequence)
    ∷ (12, made_of (λ element. what.Pattern element) num_at)
    ∷ (13, plain what.Reference)
    ∷ (14, plain what.Block)
    ∷ (15, plain what.Key)
    ∷ (16, plain what.SnapshotWatch)
    ∷ (17, plain what.GroupName)
    ∷ []

-- what is malformed is read by its byte
unfoldable pub what_at : Input → Result (What × Input) FieldFault
what_at input = tagged_at what_table input

-- the bytes of the rights
abbrev pub right_table : List (ℕ × (Input → Result (Right × Input) FieldFault))
right_table =
    (0, plain right.Read) ∷ (1, plain right.Write) ∷ (2, plain right.List) ∷ (3, plain right.Create) ∷ (4, plain right.Delete) ∷ []

-- a right is read by its byte
unfoldable pub right_at : Input → Result (Right × Input) FieldFault
right_at input = tagged_at right_table input

-- an entry that may be missing: 0, or 1 and the entry
abbrev pub option_table : List (ℕ × (Input → Result (Option Entry × Input) FieldFault))
option_table = (0, plain None) ∷ (1, made_of (λ e. Some e) (entry_at true)) ∷ []

-- an entry that may be missing is read by its byte
unfoldable pub option_at : Input → Result (Option Entry × Input) FieldFault
option_at input = tagged_at option_table input

-- a row of Glob: how many elements remain, and the entry
unfoldable pub row_of : Input → Result (Row × Input) FieldFault
row_of input = do
  rest ← num_at input
  entry ← entry_at true rest.1
  Ok (record { entry = entry.0; rest = rest.0 }, entry.1)

-- the bytes of the two kinds of event: 0 a Put, 1 a Delete
abbrev pub event_table : List (ℕ × (Input → Result (Bool × Input) FieldFault))
event_table = (0, plain false) ∷ (1, plain true) ∷ []

-- the kind of an event is read by its byte
unfoldable pub event_kind_at : Input → Result (Bool × Input) FieldFault
event_kind_at input = tagged_at event_table input

-- an event: its position, its kind and its entry
unfoldable pub event_at : Input → Result (WatchEvent × Input) FieldFault
event_at input = do
  position ← num_at input
  delete ← event_kind_at position.1
  entry ← entry_at true delete.1
  Ok (record { position = position.0; delete = delete.0; entry = entry.0 }, entry.1)

-- the events of a Watch, and where to go on
unfoldable pub events_at : Input → Result (Done × Input) FieldFault
events_at input = do
  events ← list_at event_at input
  next ← num_at events.1
  Ok (done.Events events.0 next.0, next.1)

-- the shapes of what was done
abbrev pub done_table : List (ℕ × (Input → Result (Done × Input) FieldFault))
done_table =
    (0x01, made_of (λ position. done.Changed position) num_at)
    ∷ (0x02, made_of (λ e. done.Entry e) (entry_at true))
    ∷ (0x03, made_of (λ rows. done.Rows rows) (list_at row_of))
    ∷ (0x04, made_of (λ found. done.Access found) option_at)
    ∷ (0x05, events_at)
    ∷ (0x06, made_of (λ bytes. done.Text bytes) text_at)
    ∷ (0x07, made_of (λ reference. done.Reference reference) (bytes_at 32))
    ∷ (0x08, made_of (λ bytes. done.Bytes bytes) text_at)
    ∷ (0x09, made_of (λ known. done.Key known) key_record_at)
    ∷ []

-- what was done is read by its byte
unfoldable pub done_at : Input → Result (Done × Input) FieldFault
done_at input = tagged_at done_table input

-- the replies from NotExist on, by their numbers
abbrev pub later_reply_table : List (ℕ × (Input → Result (ServerFrame × Input) FieldFault))
later_reply_table =
    (0x06, plain (Answer reply.NotExist))
    ∷ (0x07, plain (Answer reply.NotDir))
    ∷ (0x08, plain (Answer reply.IsDir))
    ∷ (0x09, plain (Answer reply.Exist))
    ∷ (0x0A, made_of (λ current. Answer (reply.BadSequence current)) num_at)
    ∷ (0x0B, plain (Answer reply.NotEmpty))
    ∷ (0x0C, made_of (λ reference. Answer (reply.BadBlock reference)) (bytes_at 32))
    ∷ (0x0D, made_of (λ line. Answer (reply.BadText line)) num_at)
    ∷ (0x0E, made_of (λ size. Answer (reply.TooLarge size)) num_at)
    ∷ (0x0F, made_of (λ records. Answer (reply.Full records)) num_at)
    ∷ (0x10, plain (Answer reply.Io))
    ∷ (0x11, plain (Answer reply.OutOfMemory))
    ∷ []

-- the replies, by their numbers
abbrev pub reply_table : List (ℕ × (Input → Result (ServerFrame × Input) FieldFault))
reply_table =
    (0x00, made_of (λ d. Answer (reply.Ok d)) done_at)
    ∷ (0x01, made_of (λ w. Answer (reply.Invalid w)) what_at)
    ∷ (0x02, plain (Answer reply.WrongHost))
    ∷ (0x03, made_of (λ e. Answer (reply.FollowLink e)) (entry_at true))
    ∷ (0x04, plain (Answer reply.Private))
    ∷ (0x05, made_of (λ r. Answer (reply.Permission r)) right_at)
    ∷ later_reply_table

-- the tags of what a server sends, each with what follows it
abbrev pub server_table : List (ℕ × (Input → Result (ServerFrame × Input) FieldFault))
server_table =
    (0x81, made_of (λ bytes. Challenge bytes) (bytes_at 32))
    ∷ (0x82, plain Welcome)
    ∷ (0x83, plain NotSigned)
    ∷ reply_table

-- a server's message is read by its tag
abbrev pub server_at : Input → Result (ServerFrame × Input) FieldFault
server_at = tagged_at server_table

-- the message that is the whole of these bytes
abbrev pub server_of : List ℕ → Result ServerFrame FieldFault
server_of = whole_of server_at
