-- What comes of `upspin audit`. This project's own.
use Rattle.std.specs.Prelude.{◌≡◌, ℕ, List, Option}
use Rattle.up_audit.specs.Texts.{audit_answer}
use Rattle.up_blocks.specs.declared.record.BlockRecord.{BlockRecord}
use Rattle.up_disk.specs.declared.disk.Disk.{Ghosts}
use Rattle.up_journal.specs.Logs.{LogState}
use Rattle.up_journal.specs.declared.limits.Limits.{Limits}
use Rattle.up_names.specs.Texts.{Text, UserName}
use Rattle.up_reports.specs.Opens.{OpensLogs, RefusesLogs, disks_of, logs_of}
use Rattle.up_reports.specs.Telling.{AnswersOne, told_of}
use Rattle.up_reports.specs.declared.refused.Refused.{Refused}
use Rattle.up_tree.specs.States as tree

-- What came of an audit of these owners' trees and of the store over these disks, and with which status. Either a log did not open, and
-- what is printed of that was printed; or all did, and the audit of them was printed. The disks are back in their places.
module _ {D : Type 0} (disks : Ghosts D) (limits : Limits) (owners : List UserName) (given now : List D) (held held_now : Option Text) where
  -- a log did not open, and this was told of it; or all opened, and this was told of them
  pub data Audits : ℕ → Type 0 where
    refused : {refusal : Refused} {status : ℕ} → RefusesLogs disks limits (logs_of owners) given now refusal
        → AnswersOne held held_now (told_of refusal) status → Audits status
    audited : {trees : List (tree.State D)} {store : LogState D BlockRecord} {status : ℕ}
        → OpensLogs disks limits owners given trees store → now ≡ disks_of trees store
        → AnswersOne held held_now (audit_answer trees store) status → Audits status
