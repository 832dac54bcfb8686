-- What is known of a request whose texts were read.
use Rattle.std.proofs.Common.{◌≡◌, ap, Result, Ok, Err, List, []}
use Rattle.up_answers.specs.Answers.{fault_reply, log_owner}
use Rattle.up_answers.specs.Needs.{needs, needs_asked}
use Rattle.up_answers.specs.Routes.{locations_asked}
use Rattle.up_edits.specs.Routes.{route_of}
use Rattle.up_edits.specs.declared.routes.Route.{Route}
use Rattle.up_edits.specs.declared.routes.Route.TheVariants as route
use Rattle.up_entry.specs.declared.fault.EntryFault.{EntryFault}
use Rattle.up_entry.specs.declared.fault.EntryFault.TheVariants as fault
use Rattle.up_entry.specs.declared.what.What.{What}
use Rattle.up_list.specs.Asking.{asked_of, owner_asked}
use Rattle.up_list.specs.declared.asking.ReadRequest.{ReadRequest}
use Rattle.up_names.specs.PathNames.{PathName}
use Rattle.up_names.specs.Texts.{UserName}
use Rattle.up_policy.specs.Loadings.{Loading}
use Rattle.up_log_tree.specs.Logs.{Log}
use Rattle.up_wire.specs.declared.replies.Reply.TheVariants as reply
use Rattle.up_wire.specs.declared.requests.Request.{Request}

module _ (user : UserName) (request : Request) where
  -- it goes to the log of its owner
  pub route_read : (asked : ReadRequest) → asked_of user request ≡ Ok asked → route_of user request ≡ route.Tree (log_owner (owner_asked asked)) (locations_asked asked)
  unfolding route_of
  route_read asked is = ap (λ (r : Result ReadRequest EntryFault). elim r as (λ _. Route) [ Ok asked ↦ route.Tree (log_owner (owner_asked asked)) (locations_asked asked) | Err fault ↦ route.Refused (fault_reply fault) ]) is

  -- what is malformed of it is replied
  pub route_malformed : (what : What) → asked_of user request ≡ Err (fault.Invalid what) → route_of user request ≡ route.Refused (reply.Invalid what)
  unfolding route_of
  route_malformed what is = ap (λ (r : Result ReadRequest EntryFault). elim r as (λ _. Route) [ Ok asked ↦ route.Tree (log_owner (owner_asked asked)) (locations_asked asked) | Err fault ↦ route.Refused (fault_reply fault) ]) is

  -- the groups that it needs
  pub needs_read : (log : Log) (loaded : Loading) (asked : ReadRequest) → asked_of user request ≡ Ok asked → needs log loaded user request ≡ needs_asked log loaded user asked
  unfolding needs
  needs_read log loaded asked is = ap (λ (r : Result ReadRequest EntryFault). elim r as (λ _. List PathName) [ Ok asked ↦ needs_asked log loaded user asked | Err fault ↦ [] ]) is
