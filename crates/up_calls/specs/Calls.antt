-- One call of a host, as its caller sees it. This project's own.
use Rattle.std.specs.Prelude.{◌≡◌, ◌≢◌, ◌≤◌, ◌⊎◌, ℕ, true, if◌then◌else◌, List, [], length, map, Some, None}
use Rattle.up_answers.specs.Answers.{added, answer}
use Rattle.up_answers.specs.Fetching.{is_failed}
use Rattle.up_answers.specs.Needs.{IsLoading}
use Rattle.up_edits.specs.Routes.{route_of}
use Rattle.up_commit.specs.Steps.{is_changed}
use Rattle.up_entry.specs.declared.records.Rec.{Rec}
use Rattle.up_calls.specs.Asks.{Asks, Tries}
use Rattle.up_calls.specs.Blocks.{Got, OwnBlocks, block_answer, block_question}
use Rattle.up_calls.specs.Loads.{OwnTexts, group_answer, group_question, load_failed}
use Rattle.up_calls.specs.Routes.{OwnStays, Question, LogName, locations_on, log_asked, refusal}
use Rattle.up_calls.specs.Services.{KeysSay, NeedsDisk, StoreSays, key_leads, store_leads}
use Rattle.up_calls.specs.Turns.{IsFailed, IsReplied}
use Rattle.up_calls.specs.Views.{Later, SeenKeys, SeenStore, SeenTree, Views, log_seen}
use Rattle.up_calls.specs.declared.event.Event.{Event}
use Rattle.up_names.specs.Texts.{UserName}
use Rattle.up_peer.specs.declared.loader.Loader.{Ghosts}
use Rattle.up_log_tree.specs.Fits.{IsLog}
use Rattle.up_wire.specs.declared.replies.Reply.{Reply}
use Rattle.up_wire.specs.declared.replies.Reply.TheVariants as reply

-- ---- what the loader was asked

-- The loader was asked for the blocks with an address, and then for the groups of owners that the host lacks: exactly those of the
-- event, in order, with their answers.
pub record IsAskedFor {L : Type 0} (loader : Ghosts L) (operator : UserName) (a : Views) (old new : L) (e : Event) : Type 0 where
  pub between : L
  pub blocks : Asks loader.fetches loader.faults loader.tied is_failed block_question block_answer old between e.fetched
  pub groups : Asks loader.loads loader.faults loader.tied load_failed (group_question operator a) (group_answer a) between new e.loaded

-- the loader was asked for some blocks, and then for some groups
pub record IsTried {L : Type 0} (loader : Ghosts L) (old new : L) : Type 0 where
  pub between : L
  pub blocks : Tries loader.fetches loader.faults loader.tied old between
  pub groups : Tries loader.loads loader.faults loader.tied between new

-- The loader was asked for what was fetched and loaded and nothing else; but where memory was wanting, for anything.
pub record AsksLoader {L : Type 0} (loader : Ghosts L) (operator : UserName) (a : Views) (old new : L) (e : Event) : Type 0 where
  pub all : e.reply ≢ reply.OutOfMemory → IsAskedFor loader operator a old new e
  pub some : IsTried loader old new

-- ---- a tree's answer

-- the answer over a list of records, each of which fits those before it, with what was loaded and fetched; its record is added where
-- it is a position
pub record TreeSays (view : SeenTree) (q : Question) (e : Event)
    (records : List Rec) (said : Reply) (records_added : List Rec) : Type 0 where
  pub legal : IsLog view.fixed.0 records
  pub reply : said ≡ answer (record (log_seen view) { records = records }) e.loaded e.fetched q.user q.request e.moment
  pub added : records_added
      ≡ (if is_changed said then added (record (log_seen view) { records = records }) e.loaded e.fetched q.user q.request e.moment else [])

-- the answer over these records would be a position, for which the disk is needed
abbrev pub TreeNeedsDisk : SeenTree → Question → Event → List Rec → Type 0
TreeNeedsDisk view q e records =
    is_changed (answer (record (log_seen view) { records = records }) e.loaded e.fetched q.user q.request e.moment) ≡ true

-- What was fetched and loaded for an answer over the first n records: one answer for each location, in order; a loading for n, of at
-- most 1,024 names; and what the host has itself came from its own store and trees.
pub record IsReady (operator : UserName) (a b : Views) (v w : SeenTree) (q : Question) (e : Event) (n : ℕ) : Type 0 where
  pub locations : map (λ (got : Got). got.0) e.fetched ≡ locations_on (route_of q.user q.request)
  pub blocks : OwnBlocks a.store b.store e.fetched
  pub loading : IsLoading (log_seen w) (length v.seen) n q.user q.request e.loaded
  pub few : length e.loaded ≤ 1024
  pub texts : OwnTexts operator a b e.loaded

-- a tree answered at one point of its log, or its disk failed
abbrev pub TreeTurn : UserName → Views → Views → SeenTree → SeenTree → Question → Event → Type 0
TreeTurn operator a b v w q e =
    (IsReplied (TreeSays w q e) v w e × IsReady operator a b v w q e e.position)
    ⊎ (IsFailed (TreeNeedsDisk w q e) v w e × IsReady operator a b v w q e (length w.seen))

-- ---- the store's and the keys'

-- nothing was loaded or fetched
pub record IsPlain (e : Event) : Type 0 where
  pub loaded : e.loaded ≡ []
  pub fetched : e.fetched ≡ []

-- the store answered at one point of its log, or its disk failed
abbrev pub StoreTurn : UserName → SeenStore → SeenStore → Question → Event → Type 0
StoreTurn operator v w q e =
    IsReplied (λ records. StoreSays records (store_leads operator q.user q.request w.fixed records)) v w e
    ⊎ IsFailed (λ records. NeedsDisk (store_leads operator q.user q.request w.fixed records)) v w e

-- the keys answered at one point of their log, or their disk failed
abbrev pub KeysTurn : SeenKeys → SeenKeys → Question → Event → Type 0
KeysTurn v w q e =
    IsReplied (λ records. KeysSay (key_leads q.user q.request w.fixed records)) v w e
    ⊎ IsFailed (λ records. NeedsDisk (key_leads q.user q.request w.fixed records)) v w e

-- ---- one call

-- What a question came to: no log was looked at; or a tree, the store or the keys answered; or memory was wanting, and no own
-- record came.
pub data Outcome (operator : UserName) (a b : Views) (q : Question) (e : Event) : Type 0 where
  Refused : refusal a q ≡ Some e.reply → e.position ≡ 0 → IsPlain e → OwnStays None a b → Outcome operator a b q e
  ByTree : (owner : UserName) (v w : SeenTree) → refusal a q ≡ None → log_asked q ≡ Some (LogName.OfTree owner)
      → a.tree owner ≡ Some v → b.tree owner ≡ Some w → TreeTurn operator a b v w q e → Outcome operator a b q e
  ByStore : refusal a q ≡ None → log_asked q ≡ Some LogName.OfStore → IsPlain e
      → StoreTurn operator a.store b.store q e → Outcome operator a b q e
  ByKeys : refusal a q ≡ None → log_asked q ≡ Some LogName.OfKeys → IsPlain e → KeysTurn a.keys b.keys q e → Outcome operator a b q e
  Wanting : e.reply ≡ reply.OutOfMemory → OwnStays None a b → Outcome operator a b q e

-- One call of a host: what its caller had of the logs and the loader before it, the question, what came of it, and what it has after
-- it. No own record came to any log but the one that the question goes to.
pub record Asked {L : Type 0} (loader : Ghosts L) (operator : UserName) (a : Views)
    (old : L) (q : Question) (e : Event) (b : Views) (new : L) : Type 0 where
  pub later : Later a b
  pub others : OwnStays (log_asked q) a b
  pub loads : AsksLoader loader operator a old new e
  pub outcome : Outcome operator a b q e
