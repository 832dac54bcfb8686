-- A host is opened over the next disks of a script, and a user is enrolled at a host. This project's own.
use Rattle.std.specs.Prelude.{◌≡◌, ◌+◌, ℕ, Bool, true, false, List, [], ◌∷◌, ◌++◌, length, is_some, Result, Ok, Err}
use Rattle.std.specs.List.{AllByRecursion}
use Rattle.up_disk.specs.declared.disk.Disk.{Ghosts}
use Rattle.up_host.specs.Alone.{Enrols, HostState}
use Rattle.up_host.specs.Opens.{OpensHost, RefusesHost}
use Rattle.up_host.specs.Settled.{StaysSettled}
use Rattle.up_host.specs.declared.fault.HostFault.{HostFault}
use Rattle.up_disk.specs.Leaving.{LeavesNow}
use Rattle.up_journal.specs.Format2.{log_of}
use Rattle.up_journal.specs.declared.fault.AppendWhy.{AppendWhy}
use Rattle.up_journal.specs.declared.fault.OpenWhy.{OpenWhy}
use Rattle.up_journal.specs.declared.fault.OpenWhy.TheVariants as reason
use Rattle.up_journal.specs.declared.limits.Limits.{Limits}
use Rattle.up_names.specs.Texts.{UserName}
use Rattle.up_sessions.specs.Worlds.{AtHost, Hosts}
use Rattle.up_sessions.specs.declared.fault.LineFault.{LineFault}
use Rattle.up_sessions.specs.declared.fault.LineFault.TheVariants as fault
use Rattle.up_wire.specs.declared.keys.KeyRecord.{KeyRecord}

-- the first disks were taken for a host, in order, and it stands behind the others
pub record AddsHost {D : Type 0} (disks : Ghosts D) (limits : Limits) (name : List ℕ)
    (operator : UserName) (owners : List UserName) (a b : Hosts D) : Type 0 where
  pub given : List D
  pub free_is : a.free ≡ given ++ b.free
  pub host : HostState D
  pub opens : OpensHost disks limits name operator owners given host
  pub hosts_are : b.hosts ≡ a.hosts ++ host ∷ []
  pub sessions_are : b.sessions ≡ a.sessions

-- the reason for which a host was refused, where the line that opens it stops for this fault
abbrev pub why_refused : LineFault → OpenWhy
why_refused fault.Fault = reason.Fault
why_refused fault.OutOfMemory = reason.OutOfMemory

-- whether a host is refused for what one of its logs holds, and not for a fault or for want of memory
abbrev pub is_damage : OpenWhy → Bool
is_damage reason.Fault = false
is_damage reason.OutOfMemory = false
is_damage other = true

-- A disk without a record: it tells its content, and each image that a crash may leave opens as a log that has none.
pub record HasNoRecord {D : Type 0} (disks : Ghosts D) (disk : D) : Type 0 where
  pub told : is_some (disks.content disk) ≡ true
  pub empty : LeavesNow disks disk (λ image. (largest : ℕ) → log_of largest image ≡ Ok [])

-- One of the first disks was refused, for a fault of it or for want of memory. All of them are back in their places, without a record, and
-- nothing else changed.
pub record RefusesNext {D : Type 0} (disks : Ghosts D) (limits : Limits)
    (owners : List UserName) (why : LineFault) (a b : Hosts D) : Type 0 where
  pub given : List D
  pub rest : List D
  pub free_is : a.free ≡ given ++ rest
  pub as_many : length given ≡ length owners + 2
  pub refused : HostFault D
  pub refuses : RefusesHost disks limits owners given refused
  pub why_is : refused.why ≡ why_refused why
  pub empty : AllByRecursion (HasNoRecord disks) refused.disks.disks
  pub whole : b ≡ record a { free = refused.disks.disks ++ rest }

-- a host was opened over the next free disks, or refused
abbrev pub OpensNext : {D : Type 0} → Ghosts D → Limits → List ℕ → UserName
    → List UserName → Hosts D → Result (Unit {0}) LineFault → Hosts D → Type 0
OpensNext disks limits name operator owners a (Ok done) b = AddsHost disks limits name operator owners a b
OpensNext disks limits name operator owners a (Err why) b = RefusesNext disks limits owners why a b

-- a user's key record that names no endpoints
abbrev pub plain_card : UserName → List ℕ → KeyRecord
plain_card user key = record { user = user; dirs = []; stores = []; key = key }

-- a key record was put to the keys of a host, or refused; the logs stay settled but for a fault
pub record EnrolsOne {D : Type 0} (disks : Ghosts D) (card : KeyRecord)
    (host after : HostState D) (result : Result ℕ AppendWhy) : Type 0 where
  pub enrols : Enrols disks card host after result
  pub settled : StaysSettled disks host after

-- a user was enrolled at the host at a place, by a record without endpoints, or refused
abbrev pub EnrolsAt : {D : Type 0} → Ghosts D → ℕ → UserName → List ℕ → Hosts D → Result ℕ AppendWhy → Hosts D → Type 0
EnrolsAt disks place user key a result b = AtHost place (λ host after. EnrolsOne disks (plain_card user key) host after result) a b
