-- What contracts see of a store. This project's own.
use Rattle.std.specs.Prelude.{◌≡◌, ◌≢◌, ℕ, Bool, true, false, if◌then◌else◌, List, length, is_some, IsSome, Some}
use Rattle.std.specs.Prelude.{Result, Ok, Err, IfErr, IfOk, IsErrOf}
use Rattle.up_blocks.specs.Kept.{kept_of, record_of, untold}
use Rattle.up_blocks.specs.Records.{block_in, blocks_in, holds, put_record, size_in, size_of, sizes_of}
use Rattle.up_blocks.specs.declared.fault.BlockWhy.{BlockWhy}
use Rattle.up_blocks.specs.declared.fault.BlockWhy.TheVariants as why
use Rattle.up_blocks.specs.declared.record.BlockRecord.{BlockRecord}
use Rattle.up_blocks.specs.declared.record.BlockRecord.TheVariants.{Delete}
use Rattle.up_disk.specs.declared.disk.Disk.{Ghosts}
use Rattle.up_lists.specs.Counts.{HasCause}
use Rattle.up_disk.specs.Leaving.{Leaves}
use Rattle.up_journal.specs.Journal.{is_full}
use Rattle.up_journal.specs.Logs.{AddsRecord, LogState, StandsForLog}
use Rattle.up_journal.specs.declared.fault.AppendWhy.{AppendWhy}
use Rattle.up_journal.specs.declared.fault.AppendWhy.TheVariants as append
use Rattle.up_journal.specs.declared.fault.OpenFault.{OpenFault}
use Rattle.up_journal.specs.declared.fault.ReadWhy.{ReadWhy}
use Rattle.up_journal.specs.declared.fault.ReadWhy.TheVariants as read
use Rattle.up_journal.specs.declared.limits.Limits.{Limits}
use Rattle.up_refs.specs.Sha256.{sha256}

-- the disk after opening: the store's, or the one that is handed back
abbrev pub disk_after : {D : Type 0} → Result (LogState D BlockRecord) (OpenFault D) → D
disk_after (Ok blocks) = blocks.disk
disk_after (Err fault) = fault.disk

-- the records and the part that stays, for what is told of every state that only grows
abbrev pub log_of : {D : Type 0} → LogState D BlockRecord → List BlockRecord
log_of blocks = blocks.log

-- the part of a store's log that stays: its limits
abbrev pub limits_of : {D : Type 0} → LogState D BlockRecord → Limits
limits_of blocks = blocks.limits

-- why a block is not kept or deleted whose record is not appended, or not given whose record is not read
abbrev pub why_of : AppendWhy → BlockWhy
why_of (append.Full records) = why.Full records
why_of append.Fault = why.Fault
why_of append.OutOfMemory = why.OutOfMemory

-- why a block is not given whose record is not read
abbrev pub why_of_read : ReadWhy → BlockWhy
why_of_read read.Fault = why.Fault
why_of_read read.OutOfMemory = why.OutOfMemory

-- A record was added, or refused. It is full exactly at the limits; but for a fault, a refused one leaves all as it was.
pub record AddsBlock {D : Type 0} (disks : Ghosts D) (rec : BlockRecord)
    (old new : LogState D BlockRecord) (result : Result ℕ BlockWhy) : Type 0 where
  pub added : AddsRecord disks blocks_in rec old new result
  pub full : is_full old.limits (sizes_of old.log) (size_of rec) ≡ true
      → result ≢ Err why.OutOfMemory → result ≡ Err (why.Full (length old.log))
  pub full_only : (n : ℕ) → result ≡ Err (why.Full n) → (is_full old.limits (sizes_of old.log) (size_of rec) ≡ true) × (n ≡ length old.log)
  pub held : result ≢ Err why.NotExist
  pub untouched : IfErr result (λ reason. reason ≢ why.Fault → new ≡ old)
  pub cause : HasCause (disks.faults old.disk) (disks.faults new.disk) (IsErrOf result why.Fault)

-- the reference, once the record of its block is added
abbrev pub with_reference : List ℕ → Result ℕ BlockWhy → Result (List ℕ) BlockWhy
with_reference reference (Ok position) = Ok reference
with_reference reference (Err reason) = Err reason

-- A block was kept, or refused. One that is held changes nothing; else its record is added, with its bytes where the disk tells
-- them.
pub record PutsBlock {D : Type 0} (disks : Ghosts D) (bytes : List ℕ)
    (old new : LogState D BlockRecord) (result : Result (List ℕ) BlockWhy) : Type 0 where
  pub held : holds old.log (sha256 bytes) ≡ true → (result ≡ Ok (sha256 bytes)) × (new ≡ old)
  pub fresh : holds old.log (sha256 bytes) ≡ false
      → (added : Result ℕ BlockWhy) × (result ≡ with_reference (sha256 bytes) added)
      × AddsBlock disks (put_record (is_some (disks.content old.disk)) bytes) old new added

-- A block was deleted, or refused.
pub record DeletesBlock {D : Type 0} (disks : Ghosts D) (reference : List ℕ)
    (old new : LogState D BlockRecord) (result : Result ℕ BlockWhy) : Type 0 where
  pub missing : holds old.log reference ≡ false → (result ≡ Err why.NotExist) × (new ≡ old)
  pub held : holds old.log reference ≡ true → AddsBlock disks (Delete reference) old new result

-- A block was given, or refused: where the disk tells them, its bytes, and else as many bytes as it has. Nothing is changed but what
-- a read does to a disk.
pub record GivesBlock {D : Type 0} (disks : Ghosts D) (reference : List ℕ)
    (old new : LogState D BlockRecord) (result : Result (List ℕ) BlockWhy) : Type 0 where
  pub missing : holds old.log reference ≡ false → result ≡ Err why.NotExist
  pub there : result ≡ Err why.NotExist → holds old.log reference ≡ false
  pub found : IfOk result (λ bytes. IsSome (disks.content old.disk) → block_in old.log reference ≡ Some (Some bytes))
  pub size : IfOk result (λ bytes. size_in old.log reference ≡ Some (length bytes))
  pub never_full : (n : ℕ) → result ≢ Err (why.Full n)
  pub unchanged : new ≡ record old { disk = new.disk }
  pub content : disks.content new.disk ≡ disks.content old.disk
  pub untouched : IfErr result (λ reason. reason ≢ why.Fault → new ≡ old)
  pub cause : HasCause (disks.faults old.disk) (disks.faults new.disk) (IsErrOf result why.Fault)
  pub crash : Leaves disks old.disk new.disk (StandsForLog (blocks_in new.limits.largest) new.log new.further)
      (StandsForLog (blocks_in old.limits.largest) old.log old.further)

-- the record that a payload is, with the bytes where they are told
abbrev pub recorded : Bool → List ℕ → BlockRecord
recorded told payload = if told then record_of payload else untold (kept_of (record_of payload))
