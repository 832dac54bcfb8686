-- Which log a request goes to. This project's own.
use Rattle.std.specs.Prelude.{◌≡◌, ◌≢◌, is_some, if◌then◌else◌, List, Option, Some, None}
use Rattle.std.specs.Option.{option_map}
use Rattle.up_edits.specs.Routes.{route_of}
use Rattle.up_edits.specs.declared.routes.Route.{Route}
use Rattle.up_edits.specs.declared.routes.Route.TheVariants as route
use Rattle.up_entry.specs.declared.entries.Location.{Location}
use Rattle.up_calls.specs.Services.{key_fault, store_fault}
use Rattle.up_calls.specs.Views.{Views, own_of}
use Rattle.up_calls.specs.declared.service.Service.{Service}
use Rattle.up_calls.specs.declared.service.Service.TheVariants as service
use Rattle.up_names.specs.Texts.{UserName}
use Rattle.up_wire.specs.declared.replies.Reply.{Reply}
use Rattle.up_wire.specs.declared.replies.Reply.TheVariants as reply
use Rattle.up_wire.specs.declared.requests.Request.{Request}
use Rattle.up_wire.specs.declared.requests.Request.TheVariants as request

-- a request, and who asks it
pub record Question : Type 0 where
  pub user : UserName
  pub request : Request

-- who answers a request: the directory, the store, or the keys
abbrev pub service_of : Request → Service
service_of (request.Get text) = service.Store
service_of (request.StorePut bytes) = service.Store
service_of (request.StoreDelete text) = service.Store
service_of (request.KeyLookup text) = service.Keys
service_of (request.KeyPut card) = service.Keys
service_of other = service.Directory

-- one log of a host
pub data LogName : Type 0 where
  OfTree : UserName → LogName
  OfStore : LogName
  OfKeys : LogName

-- the log that a route leads to
abbrev pub tree_on : Route → Option LogName
tree_on (route.Refused refusal) = None
tree_on (route.Tree owner locations) = Some (LogName.OfTree owner)

-- the log that a request goes to, by who answers it
abbrev pub log_by : Service → Route → Option LogName
log_by service.Directory on = tree_on on
log_by service.Store on = Some LogName.OfStore
log_by service.Keys on = Some LogName.OfKeys

-- the log that a question goes to; none where something of a directory request is malformed
abbrev pub log_asked : Question → Option LogName
log_asked q = log_by (service_of q.request) (route_of q.user q.request)

-- the blocks that have to be fetched
abbrev pub locations_on : Route → List Location
locations_on (route.Refused refusal) = Rattle.std.specs.Prelude.[]
locations_on (route.Tree owner locations) = locations

-- The reply for which no log is looked at: something of the question is malformed, or the host does not have the tree.
abbrev pub route_refusal : Views → Route → Option Reply
route_refusal a (route.Refused refusal) = Some refusal
route_refusal a (route.Tree owner locations) = if is_some (a.tree owner) then None else Some reply.WrongHost

-- the reply for which no log is looked at, by who answers the request
abbrev pub refusal_by : Views → Question → Service → Option Reply
refusal_by a q service.Directory = route_refusal a (route_of q.user q.request)
refusal_by a q service.Store = option_map (λ what. reply.Invalid what) (store_fault q.request)
refusal_by a q service.Keys = option_map (λ what. reply.Invalid what) (key_fault q.request)

-- the reply to a question for which no log is looked at, whoever is asked
unfoldable pub refusal : Views → Question → Option Reply
refusal a q = refusal_by a q (service_of q.request)

-- no own record was added, but perhaps to this log
pub record OwnStays (but : Option LogName) (a b : Views) : Type 0 where
  pub trees : (owner : UserName) → but ≢ Some (LogName.OfTree owner) → own_of (b.tree owner) ≡ own_of (a.tree owner)
  pub store : but ≢ Some LogName.OfStore → b.store.own ≡ a.store.own
  pub keys : but ≢ Some LogName.OfKeys → b.keys.own ≡ a.keys.own
