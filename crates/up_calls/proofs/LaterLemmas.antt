-- What no log is looked at for stays so.
use Rattle.std.proofs.Common.{◌≡◌, refl, ap, Option, Some, None}
use Rattle.std.specs.Prelude.{if◌then◌else◌, is_some}
use Rattle.up_edits.specs.Routes.{route_of}
use Rattle.up_edits.specs.declared.routes.Route.{Route}
use Rattle.up_edits.specs.declared.routes.Route.TheVariants as route
use Rattle.up_calls.specs.Routes.{Question, refusal, refusal_by, route_refusal, service_of}
use Rattle.up_calls.specs.Views.{Later, LaterTree, SeenTree, Views}
use Rattle.up_calls.specs.declared.service.Service.{Service}
use Rattle.up_calls.specs.declared.service.Service.TheVariants as service
use Rattle.up_wire.specs.declared.replies.Reply.TheVariants as reply

some_later : (x y : Option SeenTree) → LaterTree x y → is_some y ≡ is_some x
some_later None None later = refl
some_later None (Some w) later = absurd later
some_later (Some v) None later = absurd later
some_later (Some v) (Some w) later = refl

route_later : (a b : Views) → Later a b → (there : Route) → route_refusal b there ≡ route_refusal a there
route_later a b later (route.Refused refusal) = refl
route_later a b later (route.Tree owner locations) = ap (λ found. if found then None else Some reply.WrongHost) (some_later (a.tree owner) (b.tree owner) (later.trees owner))

by_later : (a b : Views) → Later a b → (q : Question) (who : Service) → refusal_by b q who ≡ refusal_by a q who
by_later a b later q service.Directory = route_later a b later (route_of q.user q.request)
by_later a b later q service.Store = refl
by_later a b later q service.Keys = refl

pub refusal_later : (a b : Views) → Later a b → (q : Question) → refusal b q ≡ refusal a q
unfolding refusal
refusal_later a b later q = by_later a b later q (service_of q.request)
