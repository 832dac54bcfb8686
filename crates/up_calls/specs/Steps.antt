-- What is done in one turn of one log, over its state. This project's own.
use Rattle.std.specs.Prelude.{◌≡◌, ◌≢◌, ◌≤◌, ◌⊎◌, ◌+◌, ◌++◌, ◌∷◌, ℕ, List, [], length, Option, Some, None, Result, Ok, Err}
use Rattle.up_commit.specs.Steps.{IsApplied, Steps}
use Rattle.up_answers.specs.Answers.{added, answer}
use Rattle.up_answers.specs.Fetching.{Fetched}
use Rattle.up_answers.specs.Needs.{needs}
use Rattle.up_blocks.specs.declared.fault.BlockWhy.{BlockWhy}
use Rattle.up_blocks.specs.declared.fault.BlockWhy.TheVariants as why
use Rattle.up_blocks.specs.declared.record.BlockRecord.{BlockRecord}
use Rattle.up_calls.specs.Blocks.{GivenBy}
use Rattle.up_calls.specs.Done.{IsDone}
use Rattle.up_calls.specs.Routes.{Question}
use Rattle.up_calls.specs.Rounds.{IsWhole, bound}
use Rattle.up_calls.specs.Services.{KeysSay, StoreSays, key_fault, key_leads, store_fault, store_leads}
use Rattle.up_calls.specs.Settled.{KeepsSettled}
use Rattle.up_calls.specs.Views.{Seen}
use Rattle.up_calls.specs.declared.logs.Turn.{Turn}
use Rattle.up_calls.specs.declared.logs.Turn.TheVariants as turn
use Rattle.up_disk.specs.declared.disk.Disk.{Ghosts}
use Rattle.up_entry.specs.declared.fetch.Fetch.{Fetch}
use Rattle.up_entry.specs.declared.fetch.Fetch.TheVariants as fetch
use Rattle.up_journal.specs.Logs.{LogState}
use Rattle.up_lists.specs.Counts.{Rose, StaysUnless}
use Rattle.up_names.specs.PathNames.{PathName}
use Rattle.up_names.specs.Texts.{UserName}
use Rattle.up_policy.specs.Loadings.{Loading}
use Rattle.up_log_tree.specs.Fits.{IsLog}
use Rattle.up_tree.specs.States.{State, log_of}
use Rattle.up_wire.specs.declared.keys.KeyRecord.{KeyRecord}
use Rattle.up_wire.specs.declared.replies.Reply.{Reply}
use Rattle.up_wire.specs.declared.replies.Reply.TheVariants as reply

-- ---- any log

-- What a turn of a log left of what its caller has: all of the log was seen, and a record that came is an own one. `rises` says how
-- whoever has the logs counts that its disk failed.
pub record Takes {E F : Type 0} (before after : List E) (v w : Seen E F) (faults_before faults_after : ℕ) (rises : Type 0) : Type 0 where
  pub from : length v.seen ≤ length before
  pub seen : w.seen ≡ after
  pub same : after ≡ before → w.own ≡ v.own
  pub one : (x : E) → after ≡ before ++ x ∷ [] → w.own ≡ v.own ++ (length before + 1) ∷ []
  pub rose : Rose faults_before faults_after → Rose v.failed w.failed × rises

-- ---- a tree

-- A tree answered: nothing is needed over its log, or as many names are loaded as one call may load. Its disk's count is as before where
-- the reply is not Io.
pub record Answers {D : Type 0} (disks : Ghosts D) (q : Question) (loaded : Loading)
    (fetched : Fetched) (now : ℕ) (old new : State D) (said : Reply) (position : ℕ) : Type 0 where
  pub enough : said ≢ reply.OutOfMemory
  pub whole : IsWhole (needs (log_of old) loaded q.user q.request) loaded
  pub position_is : position ≡ length old.log
  pub steps : Steps disks (answer (log_of old) loaded fetched q.user q.request now)
      (added (log_of old) loaded fetched q.user q.request now) old new said
  pub legal : IsLog old.owner old.log
  pub quiet : StaysUnless (disks.faults old.disk) (disks.faults new.disk) (said ≡ reply.Io)

-- Memory was wanting: its log stays, and perhaps a doubtful record was settled; its disk did not fail.
pub record Wants {D : Type 0} (disks : Ghosts D) (q : Question) (loaded : Loading)
    (fetched : Fetched) (now : ℕ) (old new : State D) : Type 0 where
  pub log : new.log ≡ old.log
  pub stands : (new ≡ old) ⊎ IsApplied disks (added (log_of old) loaded fetched q.user q.request now) old new reply.OutOfMemory
  pub quiet : disks.faults new.disk ≡ disks.faults old.disk

-- Some groups are needed over its log, and fewer names are loaded than one call may load; the tree stays.
pub record Lacks {D : Type 0} (q : Question) (loaded : Loading) (old new : State D) (names : List PathName) : Type 0 where
  pub stays : new ≡ old
  pub needed : names ≡ needs (log_of old) loaded q.user q.request
  pub some : names ≢ []
  pub few : length loaded ≢ bound

-- the turn that a reply at a position is
abbrev pub said_at : Reply → ℕ → Turn
said_at reply.OutOfMemory position = turn.Wanting
said_at other position = turn.Said other position

-- one turn of a tree came to this
abbrev pub Tried : {D : Type 0} → Ghosts D → Question → Loading → Fetched → ℕ → State D → State D → Turn → Type 0
Tried disks q loaded fetched now old new (turn.Missing names) = Lacks q loaded old new names
Tried disks q loaded fetched now old new (turn.Said said position) = Answers disks q loaded fetched now old new said position
Tried disks q loaded fetched now old new turn.Wanting = Wants disks q loaded fetched now old new

-- ---- the store and the keys

-- blocks of a store were read: its log stays
pub record StoreReads {D : Type 0} (disks : Ghosts D) (old new : LogState D BlockRecord) : Type 0 where
  pub log : new.log ≡ old.log
  pub limits : new.limits ≡ old.limits
  pub later : disks.faults old.disk ≤ disks.faults new.disk
  pub stays : KeepsSettled disks old new

-- what is fetched where the store gave this
abbrev pub FetchedAs : Result (List ℕ) BlockWhy → Option Fetch → Type 0
FetchedAs (Ok bytes) given = given ≡ Some (fetch.Got bytes)
FetchedAs (Err why.NotExist) given = given ≡ Some fetch.Missing
FetchedAs (Err why.Fault) given = given ≡ Some fetch.Failed
FetchedAs (Err (why.Full records)) given = Unit {0}
FetchedAs (Err why.OutOfMemory) given = given ≡ None

-- what the store's log gives for a reference, or its disk failed, whose count rose
abbrev pub BlockRead : {D : Type 0} → Ghosts D → LogState D BlockRecord → LogState D BlockRecord → List ℕ → Fetch → Type 0
BlockRead disks old new reference given =
    GivenBy old.log reference given ⊎ ((given ≡ fetch.Failed) × Rose (disks.faults old.disk) (disks.faults new.disk))

-- The store answered, over so many records.
pub record StoreTried {D : Type 0} (disks : Ghosts D) (operator : UserName) (q : Question)
    (old new : LogState D BlockRecord) (said : Reply) (position : ℕ) : Type 0 where
  pub done : IsDone StoreSays (store_fault q.request) (store_leads operator q.user q.request old.limits old.log)
      old.log new.log (disks.faults old.disk) (disks.faults new.disk) said
  pub rose : said ≡ reply.Io → Rose (disks.faults old.disk) (disks.faults new.disk)
  pub quiet : StaysUnless (disks.faults old.disk) (disks.faults new.disk) (said ≡ reply.Io)
  pub stays : KeepsSettled disks old new
  pub position_is : position ≡ length old.log

-- the keys were asked in one turn, as the store is
pub record KeysTried {D : Type 0} (disks : Ghosts D) (q : Question)
    (old new : LogState D KeyRecord) (said : Reply) (position : ℕ) : Type 0 where
  pub done : IsDone (λ log. KeysSay) (key_fault q.request) (key_leads q.user q.request old.limits old.log)
      old.log new.log (disks.faults old.disk) (disks.faults new.disk) said
  pub rose : said ≡ reply.Io → Rose (disks.faults old.disk) (disks.faults new.disk)
  pub quiet : StaysUnless (disks.faults old.disk) (disks.faults new.disk) (said ≡ reply.Io)
  pub stays : KeepsSettled disks old new
  pub position_is : position ≡ length old.log
