-- Any tree that agrees for the user gives the same reply. This project's own.
use Rattle.std.specs.Prelude.{◌≡◌, ◌≢◌, [], ◌∷◌, Some, None}
use Rattle.up_answers.specs.Agreement.{Agree, used}
use Rattle.up_answers.specs.Answers.{answer}
use Rattle.up_answers.specs.Laws.{IsWhole}
use Rattle.up_calls.specs.Routes.{LogName, Question, log_asked, refusal}
use Rattle.up_calls.specs.Views.{SeenTree, Views, log_after}
use Rattle.up_calls.specs.declared.event.Event.{Event}
use Rattle.up_names.specs.Texts.{UserName}
use Rattle.up_log_tree.specs.Logs.{Log}
use Rattle.up_wire.specs.declared.replies.Reply.TheVariants as reply

-- Faults and want of memory aside, a tree's reply is also the answer of each other log that agrees, for the user and for what the request
-- uses of what was loaded, with the log over which it is the answer: with the same loaded and fetched, at the same moment. What such a
-- log has besides, and the user does not see, is not told.
pub record TellsNoMore (b : Views) (q : Question) (e : Event) : Type 0 where
  pub alike : (owner : UserName) (w : SeenTree) (other : Log) → refusal b q ≡ None
      → log_asked q ≡ Some (LogName.OfTree owner) → b.tree owner ≡ Some w
      → e.reply ≢ reply.Io → e.reply ≢ reply.OutOfMemory → IsWhole other
      → Agree q.user (used q.request e.loaded ∷ []) (log_after w e.position) other
      → answer other e.loaded e.fetched q.user q.request e.moment ≡ e.reply
