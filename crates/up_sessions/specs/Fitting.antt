-- What the hosts of a script over 80 empty disks keep. This project's own.
use Rattle.std.specs.Prelude.{◌≡◌, ◌≤◌, length}
use Rattle.std.specs.List.{AllByRecursion}
use Rattle.up_disk.specs.declared.disk.Disk.{Ghosts}
use Rattle.up_host.specs.Alone.{HostState}
use Rattle.up_sessions.specs.Keeping.{all_places}
use Rattle.up_disk.specs.Leaving.{IsBlank}
use Rattle.up_sessions.specs.Worlds.{Hosts}

-- a host has at most eight trees
abbrev pub HasFew : {D : Type 0} → HostState D → Type 0
HasFew host = length host.trees ≤ 8

-- each host has at most eight trees, there are 80 disks, and those that are free are empty
pub record IsFit {D : Type 0} (disks : Ghosts D) (a : Hosts D) : Type 0 where
  pub few : AllByRecursion HasFew a.hosts
  pub eighty : length (all_places a) ≡ 80
  pub blank : AllByRecursion (IsBlank disks) a.free
