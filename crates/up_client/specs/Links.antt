-- How a client follows links. The limit on their number is this project's own.
use Rattle.std.specs.Prelude.{ℕ, Bool, zero, suc, true, false, ◌&&◌, nat_lt, if◌then◌else◌, ◌++◌, length, drop}
use Rattle.std.specs.Prelude.{Option, Some, None, option_map, Result, Ok, Err}
use Rattle.up_names.specs.declared.fault.NameFault.{NameFault}
use Rattle.up_names.specs.declared.fault.NameFault.TheVariants as names
use Rattle.up_names.specs.PathNames.{PathName, canonical, is_under}
use Rattle.up_entry.specs.declared.entries.Kind.{Kind}
use Rattle.up_entry.specs.declared.entries.Kind.TheVariants as kinds
use Rattle.up_wire.specs.declared.requests.Request.{Request}
use Rattle.up_wire.specs.declared.replies.Done.{Done}
use Rattle.up_wire.specs.declared.replies.Reply.{Reply}
use Rattle.up_wire.specs.declared.replies.Reply.TheVariants as replies
use Rattle.up_client.specs.declared.fault.ClientFault.{ClientFault}
use Rattle.up_client.specs.declared.fault.ClientFault.TheVariants.{OutOfMemory, TooManyLinks, TooLong}
use Rattle.up_client.specs.declared.links.Step.{Step}
use Rattle.up_client.specs.declared.links.Step.TheVariants as steps
use Rattle.up_client.specs.Replies.{◌>>=◌, outcome}
use Rattle.up_client.specs.Talks.{Talking, done, and_then, reply_to}

-- whether an entry is a link
abbrev pub is_link : Kind → Bool
is_link kinds.Link = true
is_link kinds.File = false
is_link kinds.Directory = false

-- the target, and after it what stands in the path after its first n elements
abbrev pub behind : ℕ → PathName → PathName → PathName
behind n path target = record { owner = target.owner; elements = target.elements ++ drop n path.elements }

-- Where a reply leads: a link that stands at the path or above it leads to its target and what stands after the link.
abbrev pub leads_to : PathName → Reply → Option PathName
leads_to path (replies.FollowLink entry) =
    if is_link entry.attr.kind && is_under path entry.name
    then option_map (behind (length entry.name.elements) path) entry.link
    else None
leads_to path reply = None

-- what is done where a reply leads; one that leads nowhere is the outcome
abbrev pub led : Option PathName → (PathName → Talking Done) → Reply → Talking Done
led (Some next) go reply = go next
led None go reply = done (outcome reply)

-- a path of at most 4,096 bytes
abbrev pub short : PathName → Result PathName ClientFault
short path = if nat_lt 4096 (length (canonical path)) then Err TooLong else Ok path

-- why a path cannot take an element of another path: it grows too long
abbrev pub fault_of : NameFault → ClientFault
fault_of names.OutOfMemory = OutOfMemory
fault_of fault = TooLong

-- Asks at a path, and where a link is met, at the path to which it leads, of at most so many links.
unfoldable pub following : (PathName → Request) → ℕ → PathName → Talking Done
following request zero path =
    and_then (reply_to (request path)) (λ reply. led (leads_to path reply) (λ next. done (Err TooManyLinks)) reply)
following request (suc more) path =
    and_then (reply_to (request path))
    (λ reply. led (leads_to path reply) (λ next. and_then (done (short next)) (following request more)) reply)

-- the path where it is asked next, of at most so many more: none where the reply leads nowhere
abbrev pub next_to : ℕ → Option PathName → Result (Option PathName) ClientFault
next_to more None = Ok None
next_to zero (Some next) = Err TooManyLinks
next_to (suc more) (Some next) = short next >>= (λ fit. Ok (Some fit))

-- what a reply leads to: the client asks at the next path, or what was done is done
abbrev pub step_of : Reply → Option PathName → Result Step ClientFault
step_of reply (Some next) = Ok (steps.On next)
step_of reply None = outcome reply >>= (λ d. Ok (steps.Done d))

-- what a reply at a path leads to, of at most so many more links
abbrev pub step_to : ℕ → PathName → Reply → Result Step ClientFault
step_to more path reply = next_to more (leads_to path reply) >>= step_of reply
