-- The disks of a script, in their places. This project's own.
use Rattle.std.specs.Prelude.{ℕ, List, ◌++◌, take, drop}
use Rattle.std.specs.List.{AllByRecursion, flat_map}
use Rattle.up_disk.specs.declared.disk.Disk.{Ghosts}
use Rattle.up_disk.specs.Leaving.{IsBlank}
use Rattle.up_host.specs.Opens.{LeavesHost, disks_of}
use Rattle.up_sessions.specs.Opening.{HasNoRecord}
use Rattle.up_sessions.specs.Worlds.{Hosts}

-- the disks of all hosts in order, and then those that are free
abbrev pub all_disks : {D : Type 0} → Hosts D → List D
all_disks a = flat_map disks_of a.hosts ++ a.free

-- a crash now leaves of each log of each host that log, or it with its doubtful record
abbrev pub LeavesAll : {D : Type 0} → Ghosts D → Hosts D → Type 0
LeavesAll disks a = AllByRecursion (LeavesHost disks) a.hosts

-- The disks that no host has: the first so many, which a host that was refused handed back, have no record, and all behind them are blank.
pub record AreFree {D : Type 0} (disks : Ghosts D) (tried : ℕ) (free : List D) : Type 0 where
  pub empty : AllByRecursion (HasNoRecord disks) (take tried free)
  pub blank : AllByRecursion (IsBlank disks) (drop tried free)
