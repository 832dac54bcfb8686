-- What a store answers to a request. This project's own.
use Rattle.std.specs.Prelude.{◌≡◌, ℕ, Bool, true, false, nat_lt, List, length, Option, Some, None, Result, Ok, Err}
use Rattle.std.specs.Str.{bytes_eq}
use Rattle.up_blocks.specs.Blocks.{DeletesBlock, GivesBlock, PutsBlock}
use Rattle.up_blocks.specs.Records.{largest_block}
use Rattle.up_blocks.specs.declared.fault.BlockWhy.{BlockWhy}
use Rattle.up_blocks.specs.declared.fault.BlockWhy.TheVariants as why
use Rattle.up_blocks.specs.declared.record.BlockRecord.{BlockRecord}
use Rattle.up_disk.specs.declared.disk.Disk.{Ghosts}
use Rattle.up_entry.specs.declared.what.What.TheVariants.{Block, Reference}
use Rattle.up_journal.specs.Logs.{LogState}
use Rattle.up_names.specs.Texts.{UserName}
use Rattle.up_refs.specs.References.{reference_in}
use Rattle.up_rights.specs.declared.Right.TheVariants.{Delete}
use Rattle.up_wire.specs.declared.replies.Done.TheVariants as done
use Rattle.up_wire.specs.declared.replies.Reply.{Reply}
use Rattle.up_wire.specs.declared.replies.Reply.TheVariants as reply
use Rattle.up_wire.specs.declared.requests.Request.{Request}
use Rattle.up_wire.specs.declared.requests.Request.TheVariants as request

-- the requests that a store is asked
abbrev pub IsAsked : Request → Type 0
IsAsked (request.Get text) = Unit {0}
IsAsked (request.StorePut bytes) = Unit {0}
IsAsked (request.StoreDelete text) = Unit {0}
IsAsked other = ⊥

-- ---- the reply by what came of the blocks' call

-- the reply to what the blocks refused
abbrev pub refused_reply : BlockWhy → Reply
refused_reply why.NotExist = reply.NotExist
refused_reply (why.Full records) = reply.Full records
refused_reply why.Fault = reply.Io
refused_reply why.OutOfMemory = reply.OutOfMemory

-- the reply to a Get, by what came of getting the block
abbrev pub given_reply : Result (List ℕ) BlockWhy → Reply
given_reply (Ok bytes) = reply.Ok (done.Bytes bytes)
given_reply (Err reason) = refused_reply reason

-- the reply to a Put, by what came of keeping the block
abbrev pub put_reply : Result (List ℕ) BlockWhy → Reply
put_reply (Ok reference) = reply.Ok (done.Reference reference)
put_reply (Err reason) = refused_reply reason

-- the reply to a Delete, by what came of deleting the block
abbrev pub deleted_reply : Result ℕ BlockWhy → Reply
deleted_reply (Ok position) = reply.Ok (done.Changed position)
deleted_reply (Err reason) = refused_reply reason

-- ---- a request, and what comes of it

-- the request was refused, and all is as it was
abbrev pub Refused : {D : Type 0} → Reply → LogState D BlockRecord → LogState D BlockRecord → Reply → Type 0
Refused refusal old new answer = (new ≡ old) × (answer ≡ refusal)

-- Get: the text is no reference; or what comes of getting its block, with the reply by that
abbrev pub GetsBlock : {D : Type 0} → Ghosts D → Option (List ℕ) → LogState D BlockRecord → LogState D BlockRecord → Reply → Type 0
GetsBlock disks None old new answer = Refused (reply.Invalid Reference) old new answer
GetsBlock disks (Some reference) old new answer =
    (given : Result (List ℕ) BlockWhy) × (answer ≡ given_reply given) × GivesBlock disks reference old new given

-- what comes of a Get of this text
abbrev pub GetsAsked : {D : Type 0} → Ghosts D → List ℕ → LogState D BlockRecord → LogState D BlockRecord → Reply → Type 0
GetsAsked disks text old new answer = GetsBlock disks (reference_in text) old new answer

-- Put: the block is too long; or what comes of keeping it, with the reply by that
abbrev pub PutsOf : {D : Type 0} → Ghosts D → Bool → List ℕ → LogState D BlockRecord → LogState D BlockRecord → Reply → Type 0
PutsOf disks true bytes old new answer = Refused (reply.Invalid Block) old new answer
PutsOf disks false bytes old new answer = (put : Result (List ℕ) BlockWhy) × (answer ≡ put_reply put) × PutsBlock disks bytes old new put

-- what comes of a Put of these bytes
abbrev pub PutsAsked : {D : Type 0} → Ghosts D → List ℕ → LogState D BlockRecord → LogState D BlockRecord → Reply → Type 0
PutsAsked disks bytes old new answer = PutsOf disks (nat_lt largest_block (length bytes)) bytes old new answer

-- Delete: the text is no reference; or the user is not the operator; or what comes of deleting its block, with the reply by that
abbrev pub DeletesBy : {D : Type 0} → Ghosts D → Bool → List ℕ → LogState D BlockRecord → LogState D BlockRecord → Reply → Type 0
DeletesBy disks false reference old new answer = Refused (reply.Permission Delete) old new answer
DeletesBy disks true reference old new answer =
    (deleted : Result ℕ BlockWhy) × (answer ≡ deleted_reply deleted) × DeletesBlock disks reference old new deleted

-- what comes of a Delete, by the reference that its text is, if it is one
abbrev pub DeletesOf : {D : Type 0} → Ghosts D → UserName → UserName → Option (List ℕ)
    → LogState D BlockRecord → LogState D BlockRecord → Reply → Type 0
DeletesOf disks operator user None old new answer = Refused (reply.Invalid Reference) old new answer
DeletesOf disks operator user (Some reference) old new answer = DeletesBy disks (bytes_eq user operator) reference old new answer

-- what comes of a Delete of this text
abbrev pub DeletesAsked : {D : Type 0} → Ghosts D → UserName → UserName → List ℕ
    → LogState D BlockRecord → LogState D BlockRecord → Reply → Type 0
DeletesAsked disks operator user text old new answer = DeletesOf disks operator user (reference_in text) old new answer

-- What a request of a user came to at the store of an operator, by the log before it.
abbrev pub StoreSteps : {D : Type 0} → Ghosts D → UserName → UserName → Request
    → LogState D BlockRecord → LogState D BlockRecord → Reply → Type 0
StoreSteps disks operator user (request.Get text) old new answer = GetsAsked disks text old new answer
StoreSteps disks operator user (request.StorePut bytes) old new answer = PutsAsked disks bytes old new answer
StoreSteps disks operator user (request.StoreDelete text) old new answer = DeletesAsked disks operator user text old new answer
StoreSteps disks operator user other old new answer = ⊥
