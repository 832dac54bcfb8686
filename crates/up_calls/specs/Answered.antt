-- What one call of whoever has the logs came to, besides what its caller sees of it. This project's own.
use Rattle.std.specs.Prelude.{◌≡◌, ◌≢◌, ◌≤◌, ℕ, List, [], length, map, Some, None}
use Rattle.up_answers.specs.Fetching.{Fetched}
use Rattle.up_answers.specs.Needs.{IsLoading}
use Rattle.up_calls.specs.Asks.{Asks}
use Rattle.up_calls.specs.Blocks.{Got}
use Rattle.up_calls.specs.Calls.{AsksLoader, Outcome}
use Rattle.up_calls.specs.Gathered.{BlocksGathered, missing_over}
use Rattle.up_calls.specs.Loads.{OwnTexts, group_answer, group_question, load_failed}
use Rattle.up_calls.specs.Rounds.{LoadedInRounds, bound}
use Rattle.up_calls.specs.Routes.{LogName, Question, log_asked, refusal}
use Rattle.up_calls.specs.Told.{IsSaid}
use Rattle.up_calls.specs.Views.{SeenTree, Views, log_seen}
use Rattle.up_calls.specs.declared.event.Event.{Event}
use Rattle.up_entry.specs.declared.entries.Location.{Location}
use Rattle.up_lists.specs.Counts.{Rose}
use Rattle.up_names.specs.Texts.{UserName}
use Rattle.up_peer.specs.declared.loader.Loader.{Ghosts}
use Rattle.up_wire.specs.declared.replies.Reply.TheVariants as reply

-- ---- a tree

-- The tree of an owner answered, with what was loaded for it in rounds, and with these blocks. What its last turn told is told of the
-- whole call, since no own record came to it before.
pub record TreeAnswered {L : Type 0} (loader : Ghosts L) (operator : UserName) (rises : Type 0) (a b : Views)
    (owner : UserName) (q : Question) (old new : L) (fetched : Fetched) (now : ℕ) (e : Event) : Type 0 where
  pub v : SeenTree
  pub w : SeenTree
  pub before : a.tree owner ≡ Some v
  pub after : b.tree owner ≡ Some w
  pub enough : e.reply ≢ reply.OutOfMemory
  pub said : IsSaid rises v w q e
  pub loading : IsLoading (log_seen w) (length v.seen) e.position q.user q.request e.loaded
  pub rounds : LoadedInRounds (missing_over w q) (length v.seen) e.position e.loaded
  pub few : length e.loaded ≤ bound
  pub texts : OwnTexts operator a b e.loaded
  pub asks : Asks loader.loads loader.faults loader.tied load_failed (group_question operator a) (group_answer a) old new e.loaded
  pub fetched_is : e.fetched ≡ fetched
  pub moment_is : e.moment ≡ now

-- The blocks at these locations were fetched, and then the tree answered.
pub record TreeServed {L : Type 0} (loader : Ghosts L) (operator : UserName) (rises : LogName → Type 0) (a b : Views)
    (owner : UserName) (q : Question) (old new : L) (locations : List Location) (now : ℕ) (e : Event) : Type 0 where
  pub between : L
  pub blocks : BlocksGathered loader (rises LogName.OfStore) a.store b.store old between [] e.fetched
  pub located : map (λ (got : Got). got.0) e.fetched ≡ locations
  pub answered : TreeAnswered loader operator (rises (LogName.OfTree owner)) a b owner q between new e.fetched now e

-- ---- one call

-- Where a log was asked, a call that answers of it leaves this, by the position of the answer.
pub record Leaves (left : LogName → ℕ → Type 0) (a : Views) (q : Question) (e : Event) : Type 0 where
  pub leaves : (log : LogName) → refusal a q ≡ None → log_asked q ≡ Some log → e.reply ≢ reply.OutOfMemory → left log e.position

-- Io has a cause: the disk of the log that was asked failed, or that of the store, of which a block was read; or the loader did.
pub data HasFailed (rises : LogName → Type 0) (before after : ℕ) (q : Question) : Type 0 where
  ByLog : (log : LogName) → log_asked q ≡ Some log → rises log → HasFailed rises before after q
  ByBlock : rises LogName.OfStore → HasFailed rises before after q
  ByLoader : Rose before after → HasFailed rises before after q

-- where Io is told, something failed in this call
pub record Risen (rises : LogName → Type 0) (before after : ℕ) (q : Question) (e : Event) : Type 0 where
  pub io : e.reply ≡ reply.Io → HasFailed rises before after q

-- What was loaded for the answer of a tree was loaded in rounds: each for what was missing over some first records, no fewer than the
-- caller had seen, and no more than those of the answer.
pub record LoadsInRounds (a b : Views) (q : Question) (e : Event) : Type 0 where
  pub rounds : (owner : UserName) (v w : SeenTree) → refusal a q ≡ None
      → log_asked q ≡ Some (LogName.OfTree owner) → e.reply ≢ reply.OutOfMemory
      → a.tree owner ≡ Some v → b.tree owner ≡ Some w → LoadedInRounds (missing_over w q) (length v.seen) e.position e.loaded

-- What a call came to, as its caller sees it and besides.
pub record Came {L : Type 0} (loader : Ghosts L) (operator : UserName) (left : LogName → ℕ → Type 0)
    (rises : LogName → Type 0) (a b : Views) (q : Question) (old new : L) (e : Event) : Type 0 where
  pub outcome : Outcome operator a b q e
  pub loads : AsksLoader loader operator a old new e
  pub leaves : Leaves left a q e
  pub risen : Risen rises (loader.faults old) (loader.faults new) q e
  pub rounds : LoadsInRounds a b q e
