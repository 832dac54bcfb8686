-- What is done in the turns of a shared host. This project's own.
use Rattle.std.specs.Prelude.{◌≡◌, List, ℕ, Option, Some, Result, Ok, Err, IfOk}
use Rattle.up_blocks.specs.declared.record.BlockRecord.{BlockRecord}
use Rattle.up_calls.specs.Loads.{group_text_answer, load_of}
use Rattle.up_calls.specs.Steps.{BlockRead, StoreReads}
use Rattle.up_disk.specs.declared.disk.Disk.{Ghosts}
use Rattle.up_entry.specs.declared.fetch.Fetch.{Fetch}
use Rattle.up_entry.specs.declared.fetch.Fetch.TheVariants as fetch
use Rattle.up_journal.specs.Logs.{LogState}
use Rattle.up_lists.specs.Counts.{StaysUnless}
use Rattle.up_names.specs.PathNames.{PathName}
use Rattle.up_names.specs.Texts.{UserName}
use Rattle.up_policy.specs.declared.load_answer.LoadAnswer.{LoadAnswer}
use Rattle.up_tree.specs.States.{State, log_of}

-- The text of a group was read, and the tree stays.
pub record ReadsText {D E : Type 0} (operator : UserName) (name : PathName) (old new : State D) (given : Result LoadAnswer E) : Type 0 where
  pub stays : new ≡ old
  pub text : IfOk given (λ answer. answer ≡ load_of name.owner (group_text_answer (log_of old) operator name))

-- A block was read, and the log stays; its disk's count is as before where it could be read.
pub record ReadsBlock {D E : Type 0} (disks : Ghosts D) (reference : List ℕ)
    (old new : LogState D BlockRecord) (given : Result Fetch E) : Type 0 where
  pub reads : StoreReads disks old new
  pub block : IfOk given (BlockRead disks old new reference)
  pub quiet : StaysUnless (disks.faults old.disk) (disks.faults new.disk) (given ≡ Ok fetch.Failed)

-- what was loaded is there
abbrev pub there : {A E : Type 0} → Result A E → Result (Option A) E
there (Ok answer) = Ok (Some answer)
there (Err e) = Err e
