-- Disks are taken for a host, or put back, on the way to its opening. This project's own.
use Rattle.std.specs.Prelude.{◌≡◌, ◌+◌, ℕ, List, ◌++◌, length}
use Rattle.std.specs.List.{AllByRecursion}
use Rattle.up_disk.specs.Spare.{Spared}
use Rattle.up_disk.specs.declared.disk.Disk.{Ghosts}
use Rattle.up_host.specs.Alone.{HostState}
use Rattle.up_host.specs.Opens.{OpensHost, RefusesHost}
use Rattle.up_host.specs.declared.fault.HostFault.{HostFault}
use Rattle.up_journal.specs.declared.limits.Limits.{Limits}
use Rattle.up_names.specs.Texts.{UserName}
use Rattle.up_sessions.specs.Opening.{HasNoRecord, why_refused}
use Rattle.up_sessions.specs.declared.fault.LineFault.{LineFault}

-- the first disks were taken for a host that was opened, and there is room for them
pub record TakesHost {D : Type 0} (disks : Ghosts D) (limits : Limits) (name : List ℕ) (operator : UserName)
    (owners : List UserName) (old new : Spared D) (host : HostState D) : Type 0 where
  pub given : List D
  pub taken : old.disks ≡ given ++ new.disks
  pub opens : OpensHost disks limits name operator owners given host
  pub room : new.spare ≡ old.spare + (length owners + 2)

-- The first disks were taken for a host that was refused; they were handed back without a record, and stand in their places.
pub record HandsBack {D : Type 0} (disks : Ghosts D) (limits : Limits)
    (owners : List UserName) (why : LineFault) (old new : Spared D) : Type 0 where
  pub given : List D
  pub rest : List D
  pub taken : old.disks ≡ given ++ rest
  pub as_many : length given ≡ length owners + 2
  pub refused : HostFault D
  pub refuses : RefusesHost disks limits owners given refused
  pub why_is : refused.why ≡ why_refused why
  pub empty : AllByRecursion (HasNoRecord disks) refused.disks.disks
  pub back : new.disks ≡ refused.disks.disks ++ rest
  pub room : new.spare ≡ old.spare
