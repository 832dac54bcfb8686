-- Somebody who answers by a table for good. This project's own.
use Rattle.std.specs.Prelude.{◌≢◌, List, Option, Some}
use Rattle.up_client.specs.Tables.{IsReplyIn}
use Rattle.up_client.specs.Talks.{Talk, done, asking}
use Rattle.up_wire.specs.declared.replies.Reply.{Reply}
use Rattle.up_wire.specs.declared.replies.Reply.TheVariants as replies
use Rattle.up_wire.specs.declared.requests.Request.{Request}

-- From a on, requests with their replies, or with none, led to another state.
pub data Leads {S : Type 0} (answers : S → Request → Option Reply → S → Type 0) (a : S) : S → Type 0 where
  here : Leads answers a a
  further : {b c : S} {request : Request} {given : Option Reply} → Leads answers a b → answers b request given c → Leads answers a c

-- Somebody is steady with a table: from here on, whatever is asked, each reply is the table's, or want of memory.
abbrev pub IsSteady : {S : Type 0} → (S → Request → Option Reply → S → Type 0) → List (Request × Reply) → S → Type 0
IsSteady {S} answers rows a =
    (b c : S) (request : Request) (reply : Reply) → Leads answers a b
    → answers b request (Some reply) c → reply ≢ replies.OutOfMemory → IsReplyIn rows request reply

-- What comes of a conversation where each request has its reply of the table.
pub data Plain (rows : List (Request × Reply)) {X : Type 0} : Talk X → X → Type 0 where
  ended : {x : X} → Plain rows (done x) x
  asked : {request : Request} {hear : Reply → Talk X} {x : X} (reply : Reply)
      → IsReplyIn rows request reply → Plain rows (hear reply) x → Plain rows (asking request hear) x
