-- What the records of a journal stand for where the state is the list of them, whatever they are: a reader above the journal says
-- which record a payload decodes to, and which record fits after others. This project's own.
use Rattle.std.specs.Prelude.{◌≡◌, ◌≢◌, ◌⊎◌, ℕ, Bool, true, false, if◌then◌else◌, List, [], ◌∷◌, ◌++◌, length, map, take, slice_get, is_ok}
use Rattle.std.specs.Prelude.{is_some, Option, Some, None, option_and_then, Result, Ok, IfOk, IfSome, OnErr, OnOk}
use Rattle.up_disk.specs.declared.disk.Disk.{Ghosts}
use Rattle.up_disk.specs.Leaving.{Leaves, LeavesNow}
use Rattle.up_journal.specs.Damages.{Damage}
use Rattle.up_journal.specs.Journal.{IsReadAs, State, StandsFor}
use Rattle.up_journal.specs.Opened.{IsDamageOf}
use Rattle.up_journal.specs.Records.{Replays, by_record, state_of}
use Rattle.up_journal.specs.declared.fault.OpenFault.{OpenFault}
use Rattle.up_journal.specs.declared.fault.OpenWhy.TheVariants as open_why
use Rattle.up_journal.specs.declared.limits.Limits.{Limits}

-- the log with a record at its end, where it fits
abbrev pub grown : {R : Type 0} → (List R → R → Bool) → List R → R → Option (List R)
grown fits log rec = if fits log rec then Some (log ++ rec ∷ []) else None

-- each record fits those before it
pub record EachFits {R : Type 0} (fits : List R → R → Bool) (log : List R) : Type 0 where
  pub each : (n : ℕ) (rec : R) → slice_get log n ≡ Some rec → fits (take n log) rec ≡ true

-- the log with a payload's record at its end, where it decodes and fits
abbrev pub log_step : {R : Type 0} → (List ℕ → Option R) → (List R → R → Bool) → List R → List ℕ → Option (List R)
log_step decode fits = by_record decode (grown fits)

-- The log of records that an image has; or its damage; or, where all gates are good, damage at the gate of the first record that
-- does not decode or does not fit.
abbrev pub log_in : {R : Type 0} → (List ℕ → Option R) → (List R → R → Bool) → ℕ → List ℕ → Result (List R) Damage
log_in decode fits largest image = state_of (log_step decode fits) [] largest image

-- the further record is there, and the image has the log with it
pub record HasOneMore {R : Type 0} (read : List ℕ → Result (List R) Damage)
    (log : List R) (further : Option R) (image : List ℕ) : Type 0 where
  pub rec : R
  pub held : further ≡ Some rec
  pub has : read image ≡ Ok (log ++ rec ∷ [])

-- the image has the log, or the log with the further record
abbrev pub StandsForLog : {R : Type 0} → (List ℕ → Result (List R) Damage) → List R → Option R → List ℕ → Type 0
StandsForLog read log further image = (read image ≡ Ok log) ⊎ HasOneMore read log further image

-- the image has the log, or the log with the further record or with that record
abbrev pub MayHaveLog : {R : Type 0} → (List ℕ → Result (List R) Damage) → List R → Option R → R → List ℕ → Type 0
MayHaveLog read log further rec image = StandsForLog read log further image ⊎ (read image ≡ Ok (log ++ rec ∷ []))

-- the record that is further, if one is: that to which the doubtful payload decodes
abbrev pub further_record : {R : Type 0} → (List ℕ → Option R) → Option (List ℕ) → Option R
further_record decode further = option_and_then decode further

-- what may be further after a record was not added: nothing, what was, or that record
abbrev pub IsFurther : {R : Type 0} → Option R → R → Option R → Type 0
IsFurther old rec new = (new ≡ None) ⊎ ((new ≡ old) ⊎ (new ≡ Some rec))

-- ---- what contracts see of a log of records over a journal, and what its calls make of it

-- A disk, the limits, the log, whether a record is doubtful, and that record, where the disk tells its content.
pub record LogState (D R : Type 0) : Type 0 where
  pub disk : D
  pub limits : Limits
  pub log : List R
  pub doubtful : Bool
  pub further : Option R

-- no record is doubtful
pub record IsSettledLog {D R : Type 0} (state : LogState D R) : Type 0 where
  pub settled : state.doubtful ≡ false
  pub nothing : state.further ≡ None

-- A device was opened: the log is that of the content, where it is told, and each crash now leaves it.
pub record OpensLog {D R : Type 0} (disks : Ghosts D) (read : ℕ → List ℕ → Result (List R) Damage)
    (limits : Limits) (disk : D) (opened : LogState D R) : Type 0 where
  pub log : IfSome (disks.content disk) (λ bytes. read limits.largest bytes ≡ Ok opened.log)
  pub settled : IsSettledLog opened
  pub limits_are : opened.limits ≡ limits
  pub safe : LeavesNow disks opened.disk (λ image. read limits.largest image ≡ Ok opened.log)

-- A device was refused: for the damage of the content, where it is told, or for a fault of the disk, or for want of memory. But for a
-- fault, the disk was synced.
pub record RefusesLog {D R : Type 0} (disks : Ghosts D) (read : ℕ → List ℕ → Result (List R) Damage)
    (limits : Limits) (disk : D) (fault : OpenFault D) : Type 0 where
  pub damaged : IsDamageOf (read limits.largest) (disks.content disk) fault.why
  pub synced : fault.why ≢ open_why.Fault → LeavesNow disks fault.disk (IsReadAs limits.largest (disks.content disk))

-- A record was added, or was refused and the log is as before. Once it is acknowledged, each crash leaves the log with it. A crash
-- since the call began left the log, or the log with the doubtful record or with the one in hand. The disk tells its content after
-- the call exactly where it did before.
pub record AddsRecord {D R E : Type 0} (disks : Ghosts D) (read : ℕ → List ℕ → Result (List R) Damage)
    (rec : R) (old new : LogState D R) (result : Result ℕ E) : Type 0 where
  pub log : new.log ≡ (if is_ok result then old.log ++ rec ∷ [] else old.log)
  pub position : IfOk result (λ position. position ≡ length new.log)
  pub settled : OnOk result (IsSettledLog new)
  pub limits : new.limits ≡ old.limits
  pub further : OnErr result (IsFurther old.further rec new.further)
  pub told : is_some (disks.content new.disk) ≡ is_some (disks.content old.disk)
  pub acknowledged : OnOk result (LeavesNow disks new.disk (λ image. read new.limits.largest image ≡ Ok new.log))
  pub crash : Leaves disks old.disk new.disk (StandsForLog (read new.limits.largest) new.log new.further)
      (MayHaveLog (read old.limits.largest) old.log old.further rec)

-- A doubtful record was settled, or is as before. The disk tells its content after the call exactly where it did before.
pub record ResolvesLog {D R E : Type 0} (disks : Ghosts D) (read : ℕ → List ℕ → Result (List R) Damage)
    (old new : LogState D R) (result : Result (Unit {0}) E) : Type 0 where
  pub log : new.log ≡ old.log
  pub settled : OnOk result (IsSettledLog new)
  pub limits : new.limits ≡ old.limits
  pub refused : OnErr result ((new.doubtful ≡ old.doubtful) × (new.further ≡ old.further))
  pub told : is_some (disks.content new.disk) ≡ is_some (disks.content old.disk)
  pub acknowledged : OnOk result (LeavesNow disks new.disk (λ image. read new.limits.largest image ≡ Ok new.log))
  pub crash : Leaves disks old.disk new.disk (StandsForLog (read new.limits.largest) new.log new.further)
      (StandsForLog (read old.limits.largest) old.log old.further)

-- ---- what a reader keeps

-- the log over a journal, as contracts see it
abbrev pub log_state : {D R : Type 0} → (List ℕ → Option R) → State D → List R → LogState D R
log_state decode journal log = record {
  disk = journal.disk;
  limits = journal.limits;
  log = log;
  doubtful = journal.doubtful;
  further = further_record decode journal.further;
}

-- What a reader keeps over its journal: the sizes are those of the spellings of its records, the payloads lead to them, and a crash
-- leaves what the journal says.
pub record KeepsLog {D R : Type 0} (disks : Ghosts D) (decode : List ℕ → Option R)
    (fits : List R → R → Bool) (spelling : R → List ℕ) (journal : State D) (log : List R) : Type 0 where
  pub sizes : journal.sizes ≡ map (λ rec. length (spelling rec)) log
  pub replays : Replays (log_step decode fits) [] journal.log journal.further log
  pub safe : LeavesNow disks journal.disk (StandsFor journal.limits.largest journal.log journal.further)
