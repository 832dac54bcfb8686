-- What contracts see of a tree over its log, and what its calls make of it. This project's own.
use Rattle.std.specs.declared.alloc.AllocError.{AllocError}
use Rattle.std.specs.Prelude.{◌≡◌, ◌≢◌, ℕ, Bool, true, List, length, Option, Some, None, Result, Ok, Err, IfErr, IsErrOf, alloc_error}
use Rattle.std.specs.Result.{result_ok}
use Rattle.up_bytes.specs.declared.fault.FieldFault.{FieldFault}
use Rattle.up_bytes.specs.declared.fault.FieldFault.TheVariants.{Short, Spelling, OutOfMemory}
use Rattle.up_disk.specs.declared.disk.Disk.{Ghosts}
use Rattle.up_entry.specs.Reading.{rec_of}
use Rattle.up_entry.specs.Spelling as spelling
use Rattle.up_entry.specs.declared.records.Rec.{Rec}
use Rattle.up_lists.specs.Counts.{HasCause}
use Rattle.up_journal.specs.Damages.{Damage}
use Rattle.up_journal.specs.Journal as journal
use Rattle.up_journal.specs.Journal.{is_full}
use Rattle.up_journal.specs.Logs.{AddsRecord, KeepsLog, LogState, OpensLog, ResolvesLog, further_record, log_in}
use Rattle.up_journal.specs.declared.fault.AppendWhy.{AppendWhy}
use Rattle.up_journal.specs.declared.fault.AppendWhy.TheVariants as why
use Rattle.up_journal.specs.declared.fault.OpenFault.{OpenFault}
use Rattle.up_journal.specs.declared.limits.Limits.{Limits}
use Rattle.up_journal.specs.declared.fault.OpenWhy.{OpenWhy}
use Rattle.up_names.specs.Texts.{UserName}
use Rattle.up_mem_tree.specs.MemTrees.{TreeLog}
use Rattle.up_log_tree.specs.Fits.{fits}
use Rattle.up_log_tree.specs.Logs.{Log}
use Rattle.up_log_tree.specs.Sizes.{size_of, sizes_of}

-- the record that a payload spells
abbrev pub record_in : List ℕ → Option Rec
record_in payload = result_ok (rec_of payload)

-- the record that was read, or none where the bytes are none's; memory is wanting only where it was for the reading
abbrev pub told : Result Rec FieldFault → Result (Option Rec) AllocError
told (Ok rec) = Ok (Some rec)
told (Err OutOfMemory) = Err alloc_error
told (Err Short) = Ok None
told (Err (Spelling place)) = Ok None

-- The records of an image, each of which fits those before it; or its damage; or, where all gates are good, damage at the gate of
-- the first record that does not decode or does not fit.
abbrev pub records_in : UserName → ℕ → List ℕ → Result (List Rec) Damage
records_in owner largest image = log_in record_in (fits owner) largest image

-- A tree over its log: the owner, the disk, the limits, the records, whether one more record is doubtful, and that record, where the
-- disk tells its content.
pub record State (D : Type 0) : Type 0 where
  pub owner : UserName
  pub disk : D
  pub limits : Limits
  pub log : List Rec
  pub doubtful : Bool
  pub further : Option Rec

-- a tree's log without its owner: a log of records over a journal
abbrev pub over_journal : {D : Type 0} → State D → LogState D Rec
over_journal state =
    record { disk = state.disk; limits = state.limits; log = state.log; doubtful = state.doubtful; further = state.further }

-- the log that the state has
abbrev pub log_of : {D : Type 0} → State D → Log
log_of state = record { owner = state.owner; limits = state.limits; records = state.log }

-- the records and the part that stays, for what is told of every state that only grows
abbrev pub entries_of : {D : Type 0} → State D → List Rec
entries_of state = state.log

-- the part of a tree that stays: its owner and its limits
abbrev pub fixed_of : {D : Type 0} → State D → UserName × Limits
fixed_of state = (state.owner, state.limits)

-- the disk after opening: the tree's, or the one that is handed back
abbrev pub disk_after : {D : Type 0} → Result (State D) (OpenFault D) → D
disk_after (Ok state) = state.disk
disk_after (Err fault) = fault.disk

-- A device was opened as the tree of this owner: the records are those of the content, where it is told, and each crash now leaves
-- them.
pub record Opens {D : Type 0} (disks : Ghosts D) (owner : UserName) (limits : Limits) (disk : D) (opened : State D) : Type 0 where
  pub owner_is : opened.owner ≡ owner
  pub opens : OpensLog disks (records_in owner) limits disk (over_journal opened)

-- A record was added, or was refused and the log is as before. It is full exactly at the limits; but for a fault, a refusal leaves all
-- as it was.
pub record Applies {D : Type 0} (disks : Ghosts D) (rec : Rec) (old new : State D) (result : Result ℕ AppendWhy) : Type 0 where
  pub added : AddsRecord disks (records_in old.owner) rec (over_journal old) (over_journal new) result
  pub owner : new.owner ≡ old.owner
  pub full : is_full old.limits (sizes_of old.log) (size_of rec) ≡ true
      → result ≢ Err why.OutOfMemory → result ≡ Err (why.Full (length old.log))
  pub full_only : (n : ℕ) → result ≡ Err (why.Full n) → (is_full old.limits (sizes_of old.log) (size_of rec) ≡ true) × (n ≡ length old.log)
  pub untouched : IfErr result (λ reason. reason ≢ why.Fault → new ≡ old)
  pub cause : HasCause (disks.faults old.disk) (disks.faults new.disk) (IsErrOf result why.Fault)

-- A doubtful record was settled, or is as before.
pub record Resolves {D E : Type 0} (disks : Ghosts D) (old new : State D) (result : Result (Unit {0}) E) : Type 0 where
  pub resolved : ResolvesLog disks (records_in old.owner) (over_journal old) (over_journal new) result
  pub owner : new.owner ≡ old.owner

-- ---- what is kept

-- the state of a tree of this owner whose records a journal has
abbrev pub state_of : {D : Type 0} → UserName → journal.State D → List Rec → State D
state_of owner journal log = record {
  owner = owner;
  disk = journal.disk;
  limits = journal.limits;
  log = log;
  doubtful = journal.doubtful;
  further = further_record record_in journal.further;
}

-- what comes of a journal's records that were read as a tree, or were not for a reason: the state, or the disk, handed back for that
abbrev pub read_by : {D : Type 0} → journal.State D → Result TreeLog OpenWhy → Result (State D) (OpenFault D)
read_by journal (Ok tree) = Ok (state_of tree.owner journal tree.log)
read_by journal (Err why) = Err (record { disk = journal.disk; why = why })

-- the journal has the records of the tree, and these limits
pub record IsKept {D : Type 0} (disks : Ghosts D) (owner : UserName)
    (journal : journal.State D) (log : List Rec) (limits : Limits) : Type 0 where
  pub keeps : KeepsLog disks record_in (fits owner) spelling.rec journal log
  pub limits_are : limits ≡ journal.limits
