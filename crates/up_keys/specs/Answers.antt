-- What a key server answers to a request. This project's own.
use Rattle.std.specs.Prelude.{◌≡◌, ◌≢◌, ℕ, Bool, true, not, ◌||◌, if◌then◌else◌, List, Option, Some, None, Result, Ok, Err}
use Rattle.std.specs.Str.{bytes_eq}
use Rattle.up_disk.specs.declared.disk.Disk.{Ghosts}
use Rattle.up_entry.specs.declared.what.What.TheVariants.{Name, Key}
use Rattle.up_journal.specs.Logs.{LogState}
use Rattle.up_journal.specs.declared.fault.AppendWhy.{AppendWhy}
use Rattle.up_journal.specs.declared.fault.AppendWhy.TheVariants as append
use Rattle.up_keys.specs.Keys.{PutsRecord}
use Rattle.up_keys.specs.Records.{keeps_bounds, record_in}
use Rattle.up_names.specs.Texts.{Text, UserName}
use Rattle.up_names.specs.UserNames.{base_of, user_of}
use Rattle.up_names.specs.declared.fault.NameFault.{NameFault}
use Rattle.up_rights.specs.declared.Right.TheVariants.{Write}
use Rattle.up_wire.specs.declared.keys.KeyCard.{KeyCard}
use Rattle.up_wire.specs.declared.keys.KeyRecord.{KeyRecord}
use Rattle.up_wire.specs.declared.replies.Done.TheVariants as done
use Rattle.up_wire.specs.declared.replies.Reply.{Reply}
use Rattle.up_wire.specs.declared.replies.Reply.TheVariants as reply
use Rattle.up_wire.specs.declared.requests.Request.{Request}
use Rattle.up_wire.specs.declared.requests.Request.TheVariants as request

-- the requests that a key server is asked
abbrev pub IsAsked : Request → Type 0
IsAsked (request.KeyLookup text) = Unit {0}
IsAsked (request.KeyPut card) = Unit {0}
IsAsked other = ⊥

-- ---- Lookup

-- a user's record, or that there is none
abbrev pub known_reply : Option KeyRecord → Reply
known_reply (Some known) = reply.Ok (done.Key known)
known_reply None = reply.NotExist

-- the reply by what a text is read as: the user's record, or that it names no user
abbrev pub reply_of_name : List KeyRecord → Result UserName NameFault → Reply
reply_of_name log (Ok user) = known_reply (record_in log user)
reply_of_name log (Err fault) = reply.Invalid Name

-- the reply to who asks for the record of the user that a text names
unfoldable pub looked_up : List KeyRecord → Text → Reply
looked_up log text = reply_of_name log (user_of text)

-- ---- Put

-- a user may put its own record, and those of the users of which it is the base user
abbrev pub may_put : UserName → UserName → Bool
may_put user named = bytes_eq user named || bytes_eq user (base_of named)

-- what a card says of the user that it names
abbrev pub record_of : UserName → KeyCard → KeyRecord
record_of named card = record { user = named; dirs = card.dirs; stores = card.stores; key = card.key }

-- the record that a card asks to put, or the refusal, by what the name of the card's user is read as
abbrev pub to_put_named : UserName → KeyCard → Result UserName NameFault → Result KeyRecord Reply
to_put_named user card (Err fault) = Err (reply.Invalid Name)
to_put_named user card (Ok named) =
    if not (keeps_bounds card.dirs card.stores card.key) then Err (reply.Invalid Key)
    else if not (may_put user named) then Err (reply.Permission Write)
    else Ok (record_of named card)

-- the record that a card asks to put, or the refusal: the first that fits of a bad name, bad bounds, and another's record
unfoldable pub to_put : UserName → KeyCard → Result KeyRecord Reply
to_put user card = to_put_named user card (user_of card.user)

-- the reply by what came of a put
abbrev pub put_reply : Result ℕ AppendWhy → Reply
put_reply (Ok position) = reply.Ok (done.Changed position)
put_reply (Err (append.Full records)) = reply.Full records
put_reply (Err append.Fault) = reply.Io
put_reply (Err append.OutOfMemory) = reply.OutOfMemory

-- what a call answers that may want memory at any place
abbrev pub ToPut : Result KeyRecord Reply → Result KeyRecord Reply → Type 0
ToPut (Ok known) meant = (meant ≡ Ok known) × (keeps_bounds known.dirs known.stores known.key ≡ true)
ToPut (Err refusal) meant = (refusal ≢ reply.OutOfMemory → meant ≡ Err refusal) × (refusal ≢ reply.Io)

-- ---- a request, and what comes of it

-- What a Put came to that asks for this. A refusal leaves all as it was. A record was put, with the reply by what came of it.
-- Want of memory may come at any place.
abbrev pub PutsAsked : {D : Type 0} → Ghosts D → Result KeyRecord Reply → LogState D KeyRecord → LogState D KeyRecord → Reply → Type 0
PutsAsked disks (Err refusal) old new answer = (new ≡ old) × (answer ≢ reply.OutOfMemory → answer ≡ refusal)
PutsAsked disks (Ok known) old new answer = (put : Result ℕ AppendWhy) × (answer ≡ put_reply put) × PutsRecord disks known old new put

-- What a request of a user came to, by the log before it.
abbrev pub KeySteps : {D : Type 0} → Ghosts D → UserName → Request → LogState D KeyRecord → LogState D KeyRecord → Reply → Type 0
KeySteps disks user (request.KeyLookup text) old new answer = (new ≡ old) × (answer ≢ reply.OutOfMemory → answer ≡ looked_up old.log text)
KeySteps disks user (request.KeyPut card) old new answer = PutsAsked disks (to_put user card) old new answer
KeySteps disks user other old new answer = ⊥
