-- Any tree that agrees for the user gives the same reply.
use Rattle.std.proofs.Common.{◌≡◌, ◌≢◌, [], ◌∷◌, sym, ap, subst, ◌∙◌, inl, inr, Some, None}
use Rattle.up_answers.proofs.AnswerLemmas.{answers_agree}
use Rattle.up_answers.specs.Agreement.{Agree, used}
use Rattle.up_answers.specs.Answers.{answer}
use Rattle.up_answers.specs.Laws.{IsWhole}
use Rattle.up_calls.proofs.LaterLemmas.{refusal_later}
use Rattle.up_calls.specs.Alike.{TellsNoMore}
use Rattle.up_calls.specs.Calls.{Asked, Outcome, TreeSays, TreeTurn}
use Rattle.up_calls.specs.Routes.{LogName, Question, log_asked, refusal}
use Rattle.up_calls.specs.Turns.{IsReplied}
use Rattle.up_calls.specs.Views.{SeenTree, Views, log_after}
use Rattle.up_calls.specs.declared.event.Event.{Event}
use Rattle.up_names.specs.Texts.{UserName}
use Rattle.up_peer.specs.declared.loader.Loader.{Ghosts}
use Rattle.up_log_tree.specs.Logs.{Log}
use Rattle.up_wire.specs.declared.replies.Reply.TheVariants as reply

-- the answer over the log at the event's position is also that over a log that agrees with it
said_alike : (v w : SeenTree) (q : Question) (e : Event) (other : Log) → IsReplied (TreeSays w q e) v w e → IsWhole other → Agree q.user (used q.request e.loaded ∷ []) (log_after w e.position) other
    → answer other e.loaded e.fetched q.user q.request e.moment ≡ e.reply
said_alike v w q e other replied whole agree =
    sym (replied.reply.reply ∙ answers_agree q.user e.loaded e.fetched q.request e.moment (log_after w e.position) other replied.reply.legal whole agree)

turn_alike : (operator : UserName) (a b : Views) (v w x : SeenTree) (q : Question) (e : Event) (other : Log) → TreeTurn operator a b v x q e → x ≡ w → e.reply ≢ reply.Io → IsWhole other
    → Agree q.user (used q.request e.loaded ∷ []) (log_after w e.position) other → answer other e.loaded e.fetched q.user q.request e.moment ≡ e.reply
turn_alike operator a b v w x q e other (inl (replied, ready)) same not_io whole agree =
    said_alike v x q e other replied whole (subst (λ (y : SeenTree). Agree q.user (used q.request e.loaded ∷ []) (log_after y e.position) other) (sym same) agree)
turn_alike operator a b v w x q e other (inr (failed, ready)) same not_io whole agree = absurd (not_io failed.io)

-- so with whatever the question came to
outcome_alike : (operator : UserName) (a b : Views) (q : Question) (e : Event) → Outcome operator a b q e → (refusal b q ≡ None → refusal a q ≡ None) → (owner : UserName) (w : SeenTree) (other : Log)
    → refusal b q ≡ None → log_asked q ≡ Some (LogName.OfTree owner) → b.tree owner ≡ Some w → e.reply ≢ reply.Io → e.reply ≢ reply.OutOfMemory → IsWhole other
    → Agree q.user (used q.request e.loaded ∷ []) (log_after w e.position) other → answer other e.loaded e.fetched q.user q.request e.moment ≡ e.reply
outcome_alike operator a b q e (Outcome.Refused is at plain stays) before owner w other none log there not_io enough whole agree =
    let k : Some e.reply ≡ None = sym is ∙ before none in absurd (cc)
outcome_alike operator a b q e (Outcome.ByTree mine v x is at is_v is_x turn) before owner w other none log there not_io enough whole agree =
    let k : Some (LogName.OfTree mine) ≡ Some (LogName.OfTree owner) = sym at ∙ log in
    let owners : mine ≡ owner = cc in
    let l : Some x ≡ Some w = sym is_x ∙ ap b.tree owners ∙ there in
    let same : x ≡ w = cc in
    turn_alike operator a b v w x q e other turn same not_io whole agree
outcome_alike operator a b q e (Outcome.ByStore is at plain turn) before owner w other none log there not_io enough whole agree =
    let k : Some LogName.OfStore ≡ Some (LogName.OfTree owner) = sym at ∙ log in absurd (cc)
outcome_alike operator a b q e (Outcome.ByKeys is at plain turn) before owner w other none log there not_io enough whole agree =
    let k : Some LogName.OfKeys ≡ Some (LogName.OfTree owner) = sym at ∙ log in absurd (cc)
outcome_alike operator a b q e (Outcome.Wanting wants stays) before owner w other none log there not_io enough whole agree = absurd (enough wants)

pub tells_no_more : {L : Type 0} (loader : Ghosts L) (operator : UserName) (a b : Views) (old new : L) (q : Question) (e : Event) → Asked loader operator a old q e b new → TellsNoMore b q e
tells_no_more loader operator a b old new q e asked = record {
  alike = outcome_alike operator a b q e asked.outcome (λ none. sym (refusal_later a b asked.later q) ∙ none);
}
