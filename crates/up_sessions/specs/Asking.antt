-- A request to a host among the others of a script. This project's own.
use Rattle.std.specs.Prelude.{◌≡◌, ℕ, List}
use Rattle.up_disk.specs.declared.disk.Disk as disk
use Rattle.up_host.specs.Alike.{TellsNoMore}
use Rattle.up_host.specs.Alone.{Counts, HostState, IsAlone, RisesAsShown, disk_faults, views}
use Rattle.up_host.specs.Calls.{Asked}
use Rattle.up_host.specs.Routes.{Question}
use Rattle.up_host.specs.Settled.{StaysSettled}
use Rattle.up_calls.specs.declared.event.Event.{Event}
use Rattle.up_peer.specs.declared.loader.Loader.{Ghosts}
use Rattle.up_sessions.specs.Others.{behind, others}
use Rattle.up_sessions.specs.Worlds.{AtHost, Hosts}

-- a host has its name and its operator still, and its logs in their places, settled as before but for a fault
pub record StaysHost {D : Type 0} (disks : disk.Ghosts D) (host after : HostState D) : Type 0 where
  pub name_is : after.name ≡ host.name
  pub operator_is : after.operator ≡ host.operator
  pub settled : StaysSettled disks host after

-- One call of a host at a moment: what came of it, by its logs and by who stands behind it; and it tells no more than the user sees.
pub record AsksOne {D P : Type 0} (disks : disk.Ghosts D) (loader : Ghosts P) (hosts : List (HostState D))
    (q : Question) (moment : ℕ) (e : Event) (host after : HostState D) (old new : P) : Type 0 where
  pub asked : Asked (behind loader hosts) host.operator (views disks host) old q e (views disks after) new
  pub alone : IsAlone (views disks host) (views disks after) q e
  pub alike : TellsNoMore (views disks after) q e
  pub counts : Counts (disk_faults disks host) (disk_faults disks after) (loader.faults old) (loader.faults new) e
  pub quiet : RisesAsShown (views disks host) (views disks after) q e
  pub moment_is : e.moment ≡ moment
  pub stays : StaysHost disks host after

-- the host at a place was asked, before the other hosts and the peers, and nothing else changed
abbrev pub AsksHost : {D P : Type 0} → disk.Ghosts D → Ghosts P → ℕ → Question → ℕ → Event → Hosts D → P → Hosts D → P → Type 0
AsksHost disks loader place q moment e a old b new =
    AtHost place (λ host after. AsksOne disks loader (others place a.hosts) q moment e host after old new) a b
