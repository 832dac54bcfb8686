-- Links that are followed.
use Rattle.std.proofs.Common.{◌≡◌, ℕ, suc, zero, Some, None, Result, Ok, Err, sym, subst}
use Rattle.up_names.specs.PathNames.{PathName}
use Rattle.up_wire.specs.declared.requests.Request.{Request}
use Rattle.up_wire.specs.declared.replies.Done.{Done}
use Rattle.up_wire.specs.declared.replies.Reply.{Reply}
use Rattle.up_client.specs.declared.ask.Ask.{Ghosts}
use Rattle.up_client.specs.declared.fault.ClientFault.{ClientFault}
use Rattle.up_client.specs.declared.fault.ClientFault.TheVariants as faults
use Rattle.up_client.specs.Links.{following, leads_to, led, short}
use Rattle.up_client.specs.Replies.{outcome}
use Rattle.up_client.specs.Talks.{Talking, Talks, and_then, done, reply_to}
use Rattle.up_client.proofs.Holding.{outcome_answered, talks_done, talks_stop, talks_then}

module _ {S : Type 0} (asked : Ghosts S) (same : (a : S) → asked.tied a a) (joined : (a b c : S) → asked.tied a b → asked.tied b c → asked.tied a c) (request : PathName → Request) where
  -- no reply came
  pub follow_stop : (more : ℕ) (path : PathName) (a b : S) (fault : ClientFault)
      → Talks asked (reply_to (request path)) a (Err fault) b → Talks asked (following request more path) a (Err fault) b
  unfolding following
  follow_stop zero path a b fault first = talks_stop asked same joined (reply_to (request path)) (λ reply. led (leads_to path reply) (λ next. done (Err faults.TooManyLinks)) reply) a b fault first
  follow_stop (suc more) path a b fault first = talks_stop asked same joined (reply_to (request path)) (λ reply. led (leads_to path reply) (λ next. and_then (done (short next)) (following request more)) reply) a b fault first

  -- the reply leads nowhere
  pub follow_ended : (more : ℕ) (path : PathName) (a b : S) (reply : Reply)
      → Talks asked (reply_to (request path)) a (Ok reply) b → leads_to path reply ≡ None → Talks asked (following request more path) a (outcome reply) b
  unfolding following
  follow_ended zero path a b reply first none =
      let go : PathName → Talking Done = λ next. done (Err faults.TooManyLinks) in
      talks_then asked same joined (reply_to (request path)) (λ reply. led (leads_to path reply) go reply) a b b reply (outcome reply) first
      (subst (λ o. Talks asked (led o go reply) b (outcome reply) b) (sym none) (talks_done asked same joined (outcome reply) b (outcome_answered reply)))
  follow_ended (suc more) path a b reply first none =
      let go : PathName → Talking Done = λ next. and_then (done (short next)) (following request more) in
      talks_then asked same joined (reply_to (request path)) (λ reply. led (leads_to path reply) go reply) a b b reply (outcome reply) first
      (subst (λ o. Talks asked (led o go reply) b (outcome reply) b) (sym none) (talks_done asked same joined (outcome reply) b (outcome_answered reply)))

  -- it leads somewhere, and the rest is held
  pub follow_led : (more : ℕ) (path next : PathName) (a b c : S) (reply : Reply) (result : Result Done ClientFault)
      → Talks asked (reply_to (request path)) a (Ok reply) b → leads_to path reply ≡ Some next
      → Talks asked (and_then (done (short next)) (following request more)) b result c → Talks asked (following request (suc more) path) a result c
  unfolding following
  follow_led more path next a b c reply result first some after =
      let go : PathName → Talking Done = λ next. and_then (done (short next)) (following request more) in
      talks_then asked same joined (reply_to (request path)) (λ reply. led (leads_to path reply) go reply) a b c reply result first
      (subst (λ o. Talks asked (led o go reply) b result c) (sym some) after)
