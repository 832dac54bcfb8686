-- What comes of `upspin share`. This project's own.
use Rattle.std.specs.Prelude.{◌≡◌, ◌≢◌, ◌≤◌, ◌⊎◌, ℕ, List, [], ◌∷◌, length, Option, None}
use Rattle.std.specs.List.{sum_by}
use Rattle.up_disk.specs.declared.disk.Disk.{Ghosts}
use Rattle.up_journal.specs.declared.limits.Limits.{Limits}
use Rattle.up_lists.specs.Counts.{Rose}
use Rattle.up_names.specs.Texts.{Text, UserName}
use Rattle.up_log_tree.specs.Trees.{tree_of}
use Rattle.up_reports.specs.declared.refused.Refused.{Refused}
use Rattle.up_reports.specs.Opens.{AreLogs, OpensTree, RefusesLogs, trees_of}
use Rattle.up_reports.specs.Telling.{AnswersOne, Stays, told_of}
use Rattle.up_command.specs.Statuses.{Answer, IsOneOf}
use Rattle.up_share.specs.Plans.{plan_of}
use Rattle.up_share.specs.Report.{report}
use Rattle.up_tree.specs.States as tree

-- the words do not fit, or there is not exactly one disk
abbrev pub FitsNot : {D : Type 0} → List Text → List D → Type 0
FitsNot words disks = (plan_of words ≡ None) ⊎ (length disks ≢ 1)

-- the report on an owner's tree, with status 0
abbrev pub whole_report : {D : Type 0} → tree.State D → Answer
whole_report state = record { text = report state.owner (tree_of state.log); status = 0 }

-- The log was opened as the owner's tree, and its report was printed; a front of it where the sink failed or memory was wanting.
pub record Tells {D : Type 0} (disks : Ghosts D) (limits : Limits) (owner : UserName)
    (given now : List D) (held held_now : Option Text) (status : ℕ) : Type 0 where
  pub disk : D
  pub state : tree.State D
  pub given_is : given ≡ disk ∷ []
  pub opened : OpensTree disks limits owner disk state
  pub back_is : now ≡ state.disk ∷ []
  pub answers : AnswersOne held held_now (whole_report state) status

-- The log did not open, and the line that tells why was printed; the disk is back.
pub record Refuses {D : Type 0} (disks : Ghosts D) (limits : Limits) (owner : UserName)
    (given now : List D) (held held_now : Option Text) (status : ℕ) : Type 0 where
  pub refused : Refused
  pub refuses : RefusesLogs disks limits (trees_of (owner ∷ [])) given now refused
  pub answers : AnswersOne held held_now (told_of refused) status

-- Nothing was done, for want of memory.
pub record Wants {D : Type 0} (given now : List D) (held held_now : Option Text) (status : ℕ) : Type 0 where
  pub status_is : status ≡ 4
  pub back_is : now ≡ given
  pub held_is : held_now ≡ held

-- What came of sharing an owner's tree: its report was printed, or its log was refused, or nothing was done for want of memory.
abbrev pub Shares : {D : Type 0} → Ghosts D → Limits → UserName → List D → List D → Option Text → Option Text → ℕ → Type 0
Shares disks limits owner given now held held_now status =
    Tells disks limits owner given now held held_now status
    ⊎ (Refuses disks limits owner given now held held_now status
    ⊎ Wants given now held held_now status)

-- the cause of each status: 3 comes only where the sink's count of faults rose, 6 only where a disk's did; no count falls
pub record HasCauses {D : Type 0} (disks : Ghosts D) (given now : List D) (sink sink_now : ℕ) (status : ℕ) : Type 0 where
  pub write_fault : status ≡ 3 → Rose sink sink_now
  pub disk_fault : status ≡ 6 → Rose (sum_by disks.faults given) (sum_by disks.faults now)
  pub sink_counts : sink ≤ sink_now
  pub disk_counts : sum_by disks.faults given ≤ sum_by disks.faults now

-- Where the disk tells a log of the owner's tree and no count rises, all was printed, or memory was wanting.
abbrev pub IsComplete : {D : Type 0} → Ghosts D → Limits → UserName → List D → List D → ℕ → ℕ → ℕ → Type 0
IsComplete disks limits owner given now sink sink_now status =
    AreLogs disks limits (trees_of (owner ∷ [])) given → Stays sink sink_now → Stays (sum_by disks.faults given) (sum_by disks.faults now)
    → IsOneOf (0 ∷ 4 ∷ []) status
