-- What every call leaves of a host that is not shared. This project's own.
use Rattle.std.specs.Prelude.{◌≡◌, ◌≢◌, ◌≤◌, Option, Some}
use Rattle.up_calls.specs.Routes.{LogName, OwnStays}
use Rattle.up_calls.specs.Views.{Later, SeenTree}
use Rattle.up_disk.specs.declared.disk.Disk.{Ghosts}
use Rattle.up_host.specs.Alone.{AddsOwn, HostState, disk_faults, views}
use Rattle.up_host.specs.Settled.{StaysSettled}
use Rattle.up_lists.specs.Counts.{Rose}
use Rattle.up_names.specs.Texts.{UserName}

-- Its name and operator stay; no log is changed but perhaps this one, and no disk is touched but that of this log and the store's;
-- what comes to a log is its caller's own; the logs stay settled but for a fault, and the disks' count of faults never falls.
pub record IsTied {D : Type 0} (disks : Ghosts D) (but : Option LogName) (host after : HostState D) : Type 0 where
  pub name : after.name ≡ host.name
  pub operator : after.operator ≡ host.operator
  pub trees : (owner : UserName) → but ≢ Some (LogName.OfTree owner) → (views disks after).tree owner ≡ (views disks host).tree owner
  pub keys : but ≢ Some LogName.OfKeys → (views disks after).keys ≡ (views disks host).keys
  pub later : Later (views disks host) (views disks after)
  pub own : OwnStays but (views disks host) (views disks after)
  pub tree_grown : (owner : UserName) (v w : SeenTree) → (views disks host).tree owner ≡ Some v
      → (views disks after).tree owner ≡ Some w → AddsOwn v w
  pub store_grown : AddsOwn (views disks host).store (views disks after).store
  pub keys_grown : AddsOwn (views disks host).keys (views disks after).keys
  pub stays : StaysSettled disks host after
  pub counts : disk_faults disks host ≤ disk_faults disks after

-- a disk of it failed: their count of faults rose
pub record DiskRose {D : Type 0} (disks : Ghosts D) (host after : HostState D) : Type 0 where
  pub later : disk_faults disks host ≤ disk_faults disks after
  pub rose : Rose (disk_faults disks host) (disk_faults disks after)
