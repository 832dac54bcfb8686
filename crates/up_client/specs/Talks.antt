-- What a client and those it asks say to one another. This project's own.
use Rattle.std.specs.Prelude.{◌≡◌, ◌≢◌, Option, Some, None, Result, Ok, Err, IsErrOf}
use Rattle.up_lists.specs.Counts.{HasCause, StaysUnless}
use Rattle.up_wire.specs.declared.requests.Request.{Request}
use Rattle.up_wire.specs.declared.replies.Reply.{Reply}
use Rattle.up_client.specs.declared.ask.Ask.{Ghosts}
use Rattle.up_client.specs.declared.fault.ClientFault.{ClientFault}
use Rattle.up_client.specs.declared.fault.ClientFault.TheVariants.{OutOfMemory, Failed}

-- A conversation: it is done, with what came of it; or a request is asked, and the reply says how it goes on.
pub data Talk (X : Type 0) : Type 0 where
  done : X → Talk X
  asking : Request → (Reply → Talk X) → Talk X

-- a conversation that may end with a fault
abbrev pub Talking : Type 0 → Type 0
Talking X = Talk (Result X ClientFault)

-- the one conversation, and then the other; a fault ends both
abbrev pub and_then : {X Y : Type 0} → Talking X → (X → Talking Y) → Talking Y
and_then (done (Ok x)) more = more x
and_then (done (Err fault)) more = done (Err fault)
and_then (asking request hear) more = asking request (λ reply. and_then (hear reply) more)

-- one request is asked, and what comes of it is the reply
abbrev pub reply_to : Request → Talking Reply
reply_to request = asking request (λ reply. done (Ok reply))

-- From a on, a conversation was held with somebody who answers by this relation, and left b: it ended with this result; or
-- memory was wanting, which may be anywhere; or a request got no answer, and all before it did.
pub data Held {S X : Type 0} (answers : S → Request → Option Reply → S → Type 0) : Talking X → S → Result X ClientFault → S → Type 0 where
  ended : {result : Result X ClientFault} {a : S} → Held answers (done result) a result a
  wanting : {talk : Talking X} {a : S} → Held answers talk a (Err OutOfMemory) a
  unanswered : {request : Request} {hear : Reply → Talking X} {a b : S}
      → answers a request None b → Held answers (asking request hear) a (Err Failed) b
  heard : {request : Request} {hear : Reply → Talking X} {result : Result X ClientFault} {a next b : S} (reply : Reply)
      → answers a request (Some reply) next → Held answers (hear reply) next result b → Held answers (asking request hear) a result b

-- what was meant, or want of memory
abbrev pub Meant : {X : Type 0} → Result X ClientFault → Result X ClientFault → Type 0
Meant (Ok x) meant = meant ≡ Ok x
Meant (Err fault) meant = fault ≢ OutOfMemory → meant ≡ Err fault

-- a conversation was held with an object that is asked, its count rose exactly where it gave no answer, and it is tied to what it was
pub record Talks {S X : Type 0} (asked : Ghosts S) (talk : Talking X) (old : S) (result : Result X ClientFault) (new : S) : Type 0 where
  pub held : Held asked.answers talk old result new
  pub cause : HasCause (asked.faults old) (asked.faults new) (IsErrOf result Failed)
  pub quiet : StaysUnless (asked.faults old) (asked.faults new) (IsErrOf result Failed)
  pub tie : asked.tied old new
