-- What the text of users to be enrolled comes to at a host. This project's own.
use Rattle.std.specs.Prelude.{◌≡◌, ◌+◌, ℕ, Bool, true, false, if◌then◌else◌, is_some, List, [], ◌∷◌, ◌++◌, length, Option, Some, None}
use Rattle.std.specs.Prelude.{Result, Ok, Err, OnErr}
use Rattle.up_disk.specs.declared.disk.Disk.{Ghosts}
use Rattle.up_host.specs.Alone.{HostState}
use Rattle.up_journal.specs.Journal.{is_full}
use Rattle.up_journal.specs.Logs.{LogState}
use Rattle.up_journal.specs.declared.fault.AppendWhy.{AppendWhy}
use Rattle.up_journal.specs.declared.fault.AppendWhy.TheVariants as append
use Rattle.up_journal.specs.declared.limits.Limits.{Limits}
use Rattle.up_keys.specs.Keys.{sizes_of}
use Rattle.up_keys.specs.Records.{record_in}
use Rattle.up_lists.specs.Begins.{Begins}
use Rattle.up_lists.specs.Counts.{HasCause, StaysUnless}
use Rattle.up_names.specs.Texts.{Text}
use Rattle.up_serve.specs.EnrolLines.{enrol_line}
use Rattle.up_serve.specs.declared.enrol_line.EnrolLine.{EnrolLine}
use Rattle.up_serve.specs.declared.enrol_line.EnrolLine.TheVariants as lines
use Rattle.up_serve.specs.declared.enrolling.EnrolStop.{EnrolStop}
use Rattle.up_serve.specs.declared.enrolling.EnrolStop.TheVariants as stop
use Rattle.up_text.specs.Lines.{script_lines}
use Rattle.up_wire.specs.Keys.{logged}
use Rattle.up_wire.specs.declared.keys.KeyRecord.{KeyRecord}

-- ---- over a log of keys alone, where nothing fails

-- a user's record is put where none is held, unless the log is full
abbrev pub with_user : Limits → List KeyRecord → KeyRecord → Result (List KeyRecord) EnrolStop
with_user limits log card =
    if is_some (record_in log card.user) then Ok log
    else if is_full limits (sizes_of log) (length (logged card)) then Err (stop.Full (length log))
    else Ok (log ++ card ∷ [])

-- the log after what the line of this number says, or why it stops there
abbrev pub after_line : Limits → ℕ → List KeyRecord → Option EnrolLine → Result (List KeyRecord) EnrolStop
after_line limits number log None = Err (stop.BadLine number)
after_line limits number log (Some lines.Silent) = Ok log
after_line limits number log (Some (lines.User card)) = with_user limits log card

-- the log in the end, and where it stopped before the last line, why
pub record Enrolment : Type 0 where
  pub log : List KeyRecord
  pub stop : Option EnrolStop

-- this log, and why enrolling stopped, if it did
abbrev pub ended : List KeyRecord → Option EnrolStop → Enrolment
ended log stop = record { log = log; stop = stop }

-- the enrolment of these lines, the first of which has this number
abbrev pub after_lines : Limits → ℕ → List KeyRecord → List Text → Enrolment
after_lines limits number log [] = ended log None
after_lines limits number log (line ∷ lines) = elim (after_line limits number log (enrol_line line)) [
  | Err why ↦ ended log (Some why)
  | Ok grown ↦ after_lines limits (number + 1) grown lines
]

-- the enrolment of a whole text, whose lines are numbered from 1
unfoldable pub enrolment : Limits → List KeyRecord → Text → Enrolment
enrolment limits log text = after_lines limits 1 log (script_lines text)

-- ---- at a host

-- why enrolling stopped, if it did
abbrev pub stop_of : Result (Unit {0}) EnrolStop → Option EnrolStop
stop_of (Ok done) = None
stop_of (Err why) = Some why

-- whether enrolling was cut short by a fault of the disk, or for want of memory
abbrev pub is_cut : Result (Unit {0}) EnrolStop → Bool
is_cut (Err stop.DiskFault) = true
is_cut (Err stop.OutOfMemory) = true
is_cut (Err (stop.BadLine number)) = false
is_cut (Err (stop.Full records)) = false
is_cut (Ok done) = false

-- Nothing of the host changed but its keys, whose log grew or stayed, and whose disk failed where the result says so, and nowhere else.
pub record KeepsHost {D : Type 0} (disks : Ghosts D) (host after : HostState D) (fault : Type 0) : Type 0 where
  pub state : LogState D KeyRecord
  pub whole : after ≡ record host { keys = record { state = state; base = host.keys.base } }
  pub limits : state.limits ≡ host.keys.state.limits
  pub begins : Begins host.keys.state.log state.log
  pub told : is_some (disks.content state.disk) ≡ is_some (disks.content host.keys.state.disk)
  pub counts : HasCause (disks.faults host.keys.state.disk) (disks.faults state.disk) fault
  pub quiet : StaysUnless (disks.faults host.keys.state.disk) (disks.faults state.disk) fault

-- The users of a text were enrolled, in the order of its lines: the log of keys is what it should be, and it stopped where it should;
-- cut short by a fault or want of memory, the log is a front of that.
pub record EnrolsUsers {D : Type 0} (disks : Ghosts D) (text : Text)
    (host after : HostState D) (result : Result (Unit {0}) EnrolStop) : Type 0 where
  pub kept : KeepsHost disks host after (result ≡ Err stop.DiskFault)
  pub exact : is_cut result ≡ false
      → enrolment host.keys.state.limits host.keys.state.log text ≡ ended after.keys.state.log (stop_of result)
  pub front : Begins after.keys.state.log (enrolment host.keys.state.limits host.keys.state.log text).log

-- why enrolling stops where a record was not put
abbrev pub stop_by : AppendWhy → EnrolStop
stop_by (append.Full records) = stop.Full records
stop_by append.Fault = stop.DiskFault
stop_by append.OutOfMemory = stop.OutOfMemory

-- ---- on the way

-- the log is what it should be, or it stopped for what it should
abbrev pub IsAfter : List KeyRecord → Result (Unit {0}) EnrolStop → Result (List KeyRecord) EnrolStop → Type 0
IsAfter log (Ok done) meant = meant ≡ Ok log
IsAfter log (Err why) meant = meant ≡ Err why

-- a user's record was put where none was held, or why it was not
pub record PutsUser {D : Type 0} (disks : Ghosts D) (card : KeyRecord)
    (host after : HostState D) (result : Result (Unit {0}) EnrolStop) : Type 0 where
  pub kept : KeepsHost disks host after (result ≡ Err stop.DiskFault)
  pub exact : is_cut result ≡ false → IsAfter after.keys.state.log result (with_user host.keys.state.limits host.keys.state.log card)
  pub same : OnErr result (after.keys.state.log ≡ host.keys.state.log)

-- what a line says was done, or why it was not
pub record DoesLine {D : Type 0} (disks : Ghosts D) (number : ℕ) (line : Text)
    (host after : HostState D) (result : Result (Unit {0}) EnrolStop) : Type 0 where
  pub kept : KeepsHost disks host after (result ≡ Err stop.DiskFault)
  pub exact : is_cut result ≡ false
      → IsAfter after.keys.state.log result (after_line host.keys.state.limits number host.keys.state.log (enrol_line line))
  pub same : OnErr result (after.keys.state.log ≡ host.keys.state.log)
