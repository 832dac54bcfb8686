-- How the fetching of blocks and the loading of group texts go on, one by one, while others may write to the logs. This project's own.
use Rattle.std.specs.Prelude.{◌≡◌, ◌≤◌, ◌++◌, ◌∷◌, [], ℕ, Bool, true, false, List, length, Contains, Option, Some, None, is_some}
use Rattle.std.specs.List.{list_any}
use Rattle.up_answers.specs.Answers.{log_owner}
use Rattle.up_answers.specs.Fetching.{Fetched, is_failed}
use Rattle.up_answers.specs.Needs.{needs}
use Rattle.up_calls.specs.Asks.{Asks, EachAfter}
use Rattle.up_calls.specs.Blocks.{Got, OwnBlock, OwnBlocks, block_answer, block_question}
use Rattle.up_calls.specs.Loads.{IsFromOwn, OwnTexts, Pair, group_answer, group_question, load_failed}
use Rattle.up_calls.specs.Routes.{Question}
use Rattle.up_calls.specs.Rounds.{InRoundsOver}
use Rattle.up_calls.specs.Views.{SeenStore, SeenTree, Views, log_after}
use Rattle.up_entry.specs.declared.entries.Endpoint.{Endpoint}
use Rattle.up_entry.specs.declared.entries.Endpoint.TheVariants as endpoint
use Rattle.up_entry.specs.declared.entries.Location.{Location}
use Rattle.up_entry.specs.declared.fetch.Fetch.{Fetch}
use Rattle.up_entry.specs.declared.fetch.Fetch.TheVariants as fetch
use Rattle.up_lists.specs.Counts.{HasCause, StaysUnless}
use Rattle.up_names.specs.PathNames.{PathName}
use Rattle.up_names.specs.Texts.{UserName}
use Rattle.up_peer.specs.Loading.{GroupQuestion}
use Rattle.up_peer.specs.declared.loader.Loader.{Ghosts}
use Rattle.up_policy.specs.Loadings.{Loading}
use Rattle.up_policy.specs.declared.load_answer.LoadAnswer.{LoadAnswer}
use Rattle.up_policy.specs.declared.load_answer.LoadAnswer.TheVariants as loads

-- ---- one

-- the host lacks the tree of a name's owner, or that tree gave its operator this
abbrev pub OwnText : UserName → Views → Views → PathName → Option LoadAnswer → Type 0
OwnText operator a b name None = a.tree name.owner ≡ None
OwnText operator a b name (Some answer) =
    (v : SeenTree) × (w : SeenTree) × (a.tree name.owner ≡ Some v) × (b.tree name.owner ≡ Some w) × IsFromOwn operator v w (name, answer)

-- the loader was asked for one group
pub record AsksGroup {L : Type 0} (loader : Ghosts L) (old new : L) (question : GroupQuestion) (given : Option LoadAnswer) : Type 0 where
  pub given_is : loader.loads old question given new
  pub counts : HasCause (loader.faults old) (loader.faults new) (load_failed given ≡ true)
  pub quiet : StaysUnless (loader.faults old) (loader.faults new) (load_failed given ≡ true)
  pub tie : loader.tied old new

-- One name was loaded: its owner's tree is the host's, and gave it; or it is missing, its owner being the snapshot user of one whose
-- tree is the host's; or the loader was asked for it; or memory was wanting.
pub data NameLoaded {L : Type 0} (loader : Ghosts L) (operator : UserName) (a b : Views)
    (old new : L) (name : PathName) (given : Option LoadAnswer) : Type 0 where
  ByTree : (answer : LoadAnswer) → given ≡ Some answer → OwnText operator a b name (Some answer)
      → new ≡ old → NameLoaded loader operator a b old new name given
  ByUser : given ≡ Some loads.Missing → a.tree name.owner ≡ None → is_some (a.tree (log_owner name.owner)) ≡ true
      → new ≡ old → NameLoaded loader operator a b old new name given
  ByLoader : a.tree name.owner ≡ None → a.tree (log_owner name.owner) ≡ None
      → AsksGroup loader old new (record { asker = operator; name = name }) given
      → NameLoaded loader operator a b old new name given
  Wanting : given ≡ None → new ≡ old → NameLoaded loader operator a b old new name given

-- One name was loaded, and noted behind the others.
pub record AddsName {L : Type 0} (loader : Ghosts L) (operator : UserName) (a b : Views)
    (old new : L) (name : PathName) (before after : Loading) : Type 0 where
  pub answer : LoadAnswer
  pub whole : after ≡ before ++ (name, answer) ∷ []
  pub loaded : NameLoaded loader operator a b old new name (Some answer)

-- the own store could not read it
abbrev pub own_failed : Endpoint → Fetch → Bool
own_failed endpoint.Local fetch.Failed = true
own_failed at other = false

-- One block was fetched: the own store gave it, or failed, which whoever has it counts as `rises` says; or the loader was asked for it.
pub record BlockGathered {L : Type 0} (loader : Ghosts L) (rises : Type 0)
    (v w : SeenStore) (old new : L) (location : Location) (given : Fetch) : Type 0 where
  pub own : OwnBlock v w location.endpoint location.reference given
  pub rose : own_failed location.endpoint given ≡ true → rises
  pub asks : Asks loader.fetches loader.faults loader.tied is_failed block_question block_answer old new ((location, given) ∷ [])

-- ---- all

-- More was loaded behind what was loaded before: each name was wanted with those before it; the host's own trees gave what is theirs,
-- at a position between what the caller had seen and what it has seen; and the loader was asked for the others.
pub record Gathered {L : Type 0} (loader : Ghosts L) (operator : UserName) (a b : Views)
    (wanted : Loading → PathName → Type 0) (old new : L) (before after : Loading) : Type 0 where
  pub more : Loading
  pub whole : after ≡ before ++ more
  pub needed : EachAfter (λ so_far (pair : Pair). wanted so_far pair.0) before more
  pub own : OwnTexts operator a b more
  pub asks : Asks loader.loads loader.faults loader.tied load_failed (group_question operator a) (group_answer a) old new more

-- More was fetched behind what was fetched before: the own store gave what is its own, or failed, which whoever has it counts as
-- `rises` says; and the loader was asked for the others.
pub record BlocksGathered {L : Type 0} (loader : Ghosts L) (rises : Type 0)
    (v w : SeenStore) (old new : L) (before after : Fetched) : Type 0 where
  pub more : Fetched
  pub whole : after ≡ before ++ more
  pub own : OwnBlocks v w more
  pub rose : list_any (λ (got : Got). own_failed got.0.endpoint got.1) more ≡ true → rises
  pub asks : Asks loader.fetches loader.faults loader.tied is_failed block_question block_answer old new more

-- ---- over one tree

-- what is missing for a request over the first n records that were seen
abbrev pub missing_over : SeenTree → Question → ℕ → Loading → List PathName
missing_over w q n so_far = needs (log_after w n) so_far q.user q.request

-- A name is needed for a request to the tree of an owner, with what is loaded so far: over some first records, no fewer than the caller
-- had seen, and no more than it has seen.
pub record IsWanted (a b : Views) (owner : UserName) (q : Question) (so_far : Loading) (name : PathName) : Type 0 where
  pub v : SeenTree
  pub w : SeenTree
  pub before : a.tree owner ≡ Some v
  pub after : b.tree owner ≡ Some w
  pub position : ℕ
  pub from : length v.seen ≤ position
  pub to : position ≤ length w.seen
  pub stood : Contains (missing_over w q position so_far) name

-- Rounds of loads were made for a request to the tree of an owner, up to a position that the caller has seen.
pub record HasRounds (a b : Views) (owner : UserName) (q : Question) (loaded : Loading) : Type 0 where
  pub v : SeenTree
  pub w : SeenTree
  pub before : a.tree owner ≡ Some v
  pub after : b.tree owner ≡ Some w
  pub position : ℕ
  pub within : position ≤ length w.seen
  pub rounds : InRoundsOver (missing_over w q) (length v.seen) position [] loaded
