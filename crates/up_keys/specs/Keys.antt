-- What contracts see of a key server's log, and what it keeps. This project's own.
use Rattle.std.specs.Prelude.{◌≡◌, ◌≢◌, ◌≤◌, ℕ, true, List, length, map, Some, Result, Ok, Err, IfErr, IsErrOf}
use Rattle.up_disk.specs.declared.disk.Disk.{Ghosts}
use Rattle.up_lists.specs.Counts.{HasCause}
use Rattle.up_journal.specs.Journal.{State, is_full}
use Rattle.up_journal.specs.Logs.{AddsRecord, EachFits, KeepsLog, LogState}
use Rattle.up_journal.specs.declared.fault.AppendWhy.{AppendWhy}
use Rattle.up_journal.specs.declared.fault.AppendWhy.TheVariants as append
use Rattle.up_journal.specs.declared.fault.OpenFault.{OpenFault}
use Rattle.up_journal.specs.declared.limits.Limits.{Limits}
use Rattle.up_keys.specs.Records.{decoded, fits, keys_of, largest_room, records_in}
use Rattle.up_maps.specs.Numbers.{AreNumbers}
use Rattle.up_names.specs.Texts.{UserName}
use Rattle.up_wire.specs.Keys.{logged}
use Rattle.up_wire.specs.declared.keys.KeyRecord.{KeyRecord}

-- the disk after opening: that of the log, or the one that is handed back
abbrev pub disk_after : {D : Type 0} → Result (LogState D KeyRecord) (OpenFault D) → D
disk_after (Ok keys) = keys.disk
disk_after (Err fault) = fault.disk

-- the bytes of the records of a log
abbrev pub sizes_of : List KeyRecord → List ℕ
sizes_of log = map (λ known. length (logged known)) log

-- the records and the part that stays, for what is told of every state that only grows
abbrev pub log_of : {D : Type 0} → LogState D KeyRecord → List KeyRecord
log_of keys = keys.log

-- the part of the log of the keys that stays: its limits
abbrev pub limits_of : {D : Type 0} → LogState D KeyRecord → Limits
limits_of keys = keys.limits

-- A record was added, or refused. It is full exactly at the limits; but for a fault, a refused one leaves all as it was.
pub record PutsRecord {D : Type 0} (disks : Ghosts D) (known : KeyRecord)
    (old new : LogState D KeyRecord) (result : Result ℕ AppendWhy) : Type 0 where
  pub added : AddsRecord disks records_in known old new result
  pub full : is_full old.limits (sizes_of old.log) (length (logged known)) ≡ true
      → result ≢ Err append.OutOfMemory → result ≡ Err (append.Full (length old.log))
  pub full_only : (n : ℕ) → result ≡ Err (append.Full n)
      → (is_full old.limits (sizes_of old.log) (length (logged known)) ≡ true) × (n ≡ length old.log)
  pub untouched : IfErr result (λ why. why ≢ append.Fault → new ≡ old)
  pub cause : HasCause (disks.faults old.disk) (disks.faults new.disk) (IsErrOf result append.Fault)

-- the numbers are those of the last records of the users
abbrev pub AreLast : List KeyRecord → List (UserName × ℕ) → Type 0
AreLast records last = AreNumbers Some records last (keys_of records)

-- the journal has the records, each of which fits, the numbers are those of the last ones, and a record keeps the journal's limit
pub record IsKeys {D : Type 0} (disks : Ghosts D) (journal : State D) (records : List KeyRecord) (last : List (UserName × ℕ)) : Type 0 where
  pub keeps : KeepsLog disks decoded fits logged journal records
  pub fitting : EachFits fits records
  pub last_are : AreLast records last
  pub room : largest_room ≤ journal.limits.largest
