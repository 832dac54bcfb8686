-- What a store and a key server answer over their logs, where no disk fails and memory suffices. This project's own.
use Rattle.std.specs.Prelude.{◌≡◌, ◌+◌, ℕ, Bool, true, not, nat_lt, if◌then◌else◌, List, [], ◌∷◌, length, Option, Some, None, IfSome}
use Rattle.std.specs.Prelude.{Result, Ok, Err}
use Rattle.std.specs.Option.{option_and_then}
use Rattle.std.specs.Str.{bytes_eq}
use Rattle.up_blocks.specs.Records.{block_in, holds, put_record, size_in, size_of, sizes_of, largest_block}
use Rattle.up_blocks.specs.declared.record.BlockRecord.{BlockRecord}
use Rattle.up_blocks.specs.declared.record.BlockRecord.TheVariants as block
use Rattle.up_entry.specs.declared.what.What.{What}
use Rattle.up_entry.specs.declared.what.What.TheVariants.{Block, Key, Name, Reference}
use Rattle.up_journal.specs.Journal.{is_full}
use Rattle.up_journal.specs.declared.limits.Limits.{Limits}
use Rattle.up_keys.specs.Answers.{looked_up, to_put}
use Rattle.up_keys.specs.Keys as keys
use Rattle.up_keys.specs.Records.{keeps_bounds}
use Rattle.up_names.specs.Texts.{UserName}
use Rattle.up_names.specs.UserNames.{user_of}
use Rattle.up_refs.specs.References.{reference_in}
use Rattle.up_refs.specs.Sha256.{sha256}
use Rattle.up_rights.specs.declared.Right.TheVariants as right
use Rattle.up_wire.specs.Keys.{logged}
use Rattle.up_wire.specs.declared.keys.KeyCard.{KeyCard}
use Rattle.up_wire.specs.declared.keys.KeyRecord.{KeyRecord}
use Rattle.up_wire.specs.declared.replies.Done.TheVariants as done
use Rattle.up_wire.specs.declared.replies.Reply.{Reply}
use Rattle.up_wire.specs.declared.replies.Reply.TheVariants as reply
use Rattle.up_wire.specs.declared.requests.Request.{Request}
use Rattle.up_wire.specs.declared.requests.Request.TheVariants as request

-- ---- what is malformed of a request, for which no log is looked at

-- a text that is no reference
abbrev pub reference_fault : Option (List ℕ) → Option What
reference_fault None = Some Reference
reference_fault (Some reference) = None

-- what is malformed of a request to a store: it has no reference, or a block that is too long
abbrev pub store_fault : Request → Option What
store_fault (request.Get text) = reference_fault (reference_in text)
store_fault (request.StorePut bytes) = if nat_lt largest_block (length bytes) then Some Block else None
store_fault (request.StoreDelete text) = reference_fault (reference_in text)
store_fault other = None

-- what is malformed of a lookup of the keys: it names no user
abbrev pub lookup_fault : {E : Type 0} → Result UserName E → Option What
lookup_fault (Ok user) = None
lookup_fault (Err fault) = Some Name

-- what is malformed of a key record that is put, by what its user's name is read as: the name, or the bounds
abbrev pub card_fault : {E : Type 0} → KeyCard → Result UserName E → Option What
card_fault card (Ok user) = if keeps_bounds card.dirs card.stores card.key then None else Some Key
card_fault card (Err fault) = Some Name

-- what is malformed of a request to the keys
abbrev pub key_fault : Request → Option What
key_fault (request.KeyLookup text) = lookup_fault (user_of text)
key_fault (request.KeyPut card) = card_fault card (user_of card.user)
key_fault other = None

-- ---- what any other request leads to

-- what a request leads to over a log: a reply; or a record that is added, with the reply to that; or a block that is read
pub data Leads (E : Type 0) : Type 0 where
  Says : Reply → Leads E
  Adds : E → Reply → Leads E
  Reads : List ℕ → Leads E

-- a record is added where the limits leave room
abbrev pub adding : {E : Type 0} → Bool → ℕ → E → Reply → Leads E
adding full position rec answer = if full then Leads.Says (reply.Full position) else Leads.Adds rec answer

-- Get: NotExist where no such block is held, else its bytes, to anybody
abbrev pub get_leads : List BlockRecord → Option (List ℕ) → Leads BlockRecord
get_leads log None = Leads.Says (reply.Invalid Reference)
get_leads log (Some reference) = if holds log reference then Leads.Reads reference else Leads.Says reply.NotExist

-- StorePut: the reference; a block that is held adds no record
abbrev pub put_leads : Limits → List BlockRecord → List ℕ → Leads BlockRecord
put_leads limits log bytes =
    if holds log (sha256 bytes) then Leads.Says (reply.Ok (done.Reference (sha256 bytes)))
    else adding (is_full limits (sizes_of log) (size_of (put_record true bytes)))
    (length log) (put_record true bytes) (reply.Ok (done.Reference (sha256 bytes)))

-- StoreDelete: Permission to anybody but the operator; NotExist where no such block is held; else the record's position
abbrev pub delete_leads : UserName → UserName → Limits → List BlockRecord → Option (List ℕ) → Leads BlockRecord
delete_leads operator user limits log None = Leads.Says (reply.Invalid Reference)
delete_leads operator user limits log (Some reference) =
    if not (bytes_eq user operator) then Leads.Says (reply.Permission right.Delete)
    else if not (holds log reference) then Leads.Says reply.NotExist
    else adding (is_full limits (sizes_of log) (size_of (block.Delete reference)))
    (length log) (block.Delete reference) (reply.Ok (done.Changed (length log + 1)))

-- what a request to the store of an operator leads to
unfoldable pub store_leads : UserName → UserName → Request → Limits → List BlockRecord → Leads BlockRecord
store_leads operator user (request.Get text) limits log = get_leads log (reference_in text)
store_leads operator user (request.StorePut bytes) limits log = put_leads limits log bytes
store_leads operator user (request.StoreDelete text) limits log = delete_leads operator user limits log (reference_in text)
store_leads operator user other limits log = Leads.Says (reply.Invalid Reference)

-- KeyPut: the card's record, or the refusal that stands in its place
abbrev pub card_leads : Limits → List KeyRecord → Result KeyRecord Reply → Leads KeyRecord
card_leads limits log (Err refusal) = Leads.Says refusal
card_leads limits log (Ok known) =
    adding (is_full limits (keys.sizes_of log) (length (logged known))) (length log) known (reply.Ok (done.Changed (length log + 1)))

-- what a request to the keys leads to
unfoldable pub key_leads : UserName → Request → Limits → List KeyRecord → Leads KeyRecord
key_leads user (request.KeyLookup text) limits log = Leads.Says (looked_up log text)
key_leads user (request.KeyPut card) limits log = card_leads limits log (to_put user card)
key_leads user other limits log = Leads.Says (reply.Invalid Name)

-- ---- the reply to it

-- the bytes that the log tells of a block
abbrev pub told_in : List BlockRecord → List ℕ → Option (List ℕ)
told_in log reference = option_and_then (λ told. told) (block_in log reference)

-- these are the bytes of a block that is held: those that the log tells, and else as many as it has
pub record IsBlock (log : List BlockRecord) (reference bytes : List ℕ) : Type 0 where
  pub size : size_in log reference ≡ Some (length bytes)
  pub told : IfSome (told_in log reference) (λ told. bytes ≡ told)

-- the record, but that a store whose disk tells nothing has that of a Put without its bytes
abbrev pub SameRecord : BlockRecord → BlockRecord → Type 0
SameRecord (block.Put reference size bytes) added =
    (told : Option (List ℕ)) × (added ≡ block.Put reference size told) × IfSome told (λ these. bytes ≡ Some these)
SameRecord (block.Delete reference) added = added ≡ block.Delete reference

-- what a store replied, and the records that it added, by what the request leads to
abbrev pub StoreSays : List BlockRecord → Leads BlockRecord → Reply → List BlockRecord → Type 0
StoreSays log (Leads.Says meant) answer added = (answer ≡ meant) × (added ≡ [])
StoreSays log (Leads.Adds rec meant) answer added = (answer ≡ meant) × ((one : BlockRecord) × (added ≡ one ∷ []) × SameRecord rec one)
StoreSays log (Leads.Reads reference) answer added =
    (added ≡ []) × ((bytes : List ℕ) × (answer ≡ reply.Ok (done.Bytes bytes)) × IsBlock log reference bytes)

-- what the keys replied
abbrev pub KeysSay : Leads KeyRecord → Reply → List KeyRecord → Type 0
KeysSay (Leads.Says meant) answer added = (answer ≡ meant) × (added ≡ [])
KeysSay (Leads.Adds rec meant) answer added = (answer ≡ meant) × (added ≡ rec ∷ [])
KeysSay (Leads.Reads reference) answer added = ⊥

-- the disk is needed for it: a record is added, or a block is read
abbrev pub NeedsDisk : {E : Type 0} → Leads E → Type 0
NeedsDisk (Leads.Says meant) = ⊥
NeedsDisk (Leads.Adds rec meant) = Unit {0}
NeedsDisk (Leads.Reads reference) = Unit {0}
