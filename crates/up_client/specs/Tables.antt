-- Somebody who answers from a fixed table. This project's own.
use Rattle.std.specs.Prelude.{◌≡◌, ◌≢◌, ◌⊎◌, ℕ, suc, List, [], ◌∷◌, length, Option, Some, is_none, IfSome, Ok}
use Rattle.std.specs.List.{AllZip, concat}
use Rattle.sha2.specs.Sha256.{sha256}
use Rattle.up_lists.specs.Calls.{CallPlan, after_call, fails_next}
use Rattle.up_refs.specs.References.{text_of}
use Rattle.up_names.specs.PathNames.{PathName}
use Rattle.up_entry.specs.declared.entries.Block.{Block}
use Rattle.up_entry.specs.declared.entries.Endpoint.TheVariants as endpoints
use Rattle.up_entry.specs.declared.entries.Entry.{Entry}
use Rattle.up_wire.specs.declared.requests.Request.{Request}
use Rattle.up_wire.specs.declared.requests.Request.TheVariants as requests
use Rattle.up_wire.specs.declared.replies.Done.TheVariants as dones
use Rattle.up_wire.specs.declared.replies.Reply.{Reply}
use Rattle.up_wire.specs.declared.replies.Reply.TheVariants as replies
use Rattle.up_client.specs.Getting.{file_blocks, look_up_at}
use Rattle.up_client.specs.Links.{leads_to, short}

-- The reply that a table has for a request: that of its first row with the request, and NotExist where no row has it.
abbrev pub IsReplyIn : List (Request × Reply) → Request → Reply → Type 0
IsReplyIn [] request reply = reply ≡ replies.NotExist
IsReplyIn (row ∷ rows) request reply =
    ((row.0 ≡ request) × (row.1 ≡ reply)) ⊎ ((row.0 ≢ request) × IsReplyIn rows request reply)

-- a table, and the calls that fail
pub record Table : Type 0 where
  pub rows : List (Request × Reply)
  pub calls : CallPlan

-- A table is asked: no answer comes exactly where the call is one that fails. Else the reply is the table's, or want of memory.
pub record AnswersFrom (old : Table) (request : Request) (given : Option Reply) (new : Table) : Type 0 where
  pub fails : is_none given ≡ fails_next old.calls
  pub reply : IfSome given (λ reply. reply ≢ replies.OutOfMemory → IsReplyIn old.rows request reply)
  pub rows : new.rows ≡ old.rows
  pub counted : new.calls ≡ after_call old.calls (is_none given)

-- Somebody is steady with a table while he is in such states: each reply is the table's, or want of memory, and leaves him so.
pub record IsSteady {S : Type 0} (answers : S → Request → Option Reply → S → Type 0)
    (rows : List (Request × Reply)) (such : S → Type 0) : Type 0 where
  pub replies : (a b : S) (request : Request) (reply : Reply) → such a
      → answers a request (Some reply) b → reply ≢ replies.OutOfMemory → IsReplyIn rows request reply
  pub stays : (a b : S) (request : Request) (given : Option Reply) → such a → answers a request given b → such b

-- From a path on, links of the table lead to the last path, at most so many.
pub data LinksLead (rows : List (Request × Reply)) : ℕ → PathName → PathName → Type 0 where
  there : {more : ℕ} {path : PathName} → LinksLead rows more path path
  along : {more : ℕ} {path next last : PathName} (reply : Reply) → IsReplyIn rows (look_up_at path) reply
      → leads_to path reply ≡ Some next → short next ≡ Ok next → LinksLead rows more next last → LinksLead rows (suc more) path last

-- The table has a block with this content: it is asked for by its reference, and that is the digest of the bytes that come.
pub record HasBlock (rows : List (Request × Reply)) (block : Block) (bytes : List ℕ) : Type 0 where
  pub local : block.location.endpoint ≡ endpoints.Local
  pub kept : IsReplyIn rows (requests.Get (text_of block.location.reference)) (replies.Ok (dones.Bytes bytes))
  pub sized : length bytes ≡ block.size
  pub named : sha256 bytes ≡ block.location.reference

-- The table has a file with this content at a path: links lead to an entry, and its blocks' contents, joined, are the file's.
pub record HasFile (rows : List (Request × Reply)) (path : PathName) (bytes : List ℕ) : Type 0 where
  pub last : PathName
  pub entry : Entry
  pub led : LinksLead rows 20 path last
  pub found : IsReplyIn rows (look_up_at last) (replies.Ok (dones.Entry entry))
  pub plain : file_blocks entry.attr.kind entry ≡ Ok entry.blocks
  pub pieces : List (List ℕ)
  pub each : AllZip (HasBlock rows) entry.blocks pieces
  pub joined : bytes ≡ concat pieces
