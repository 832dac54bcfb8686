-- Whether each disk of a script is settled, or failed. This project's own.
use Rattle.std.specs.Prelude.{◌≡◌, ◌⊎◌, ◌≤◌, ◌&&◌, Bool, true, not, is_none, is_some, List, [], ◌∷◌, ◌++◌, map}
use Rattle.std.specs.List.{AllZip, flat_map}
use Rattle.up_disk.specs.declared.disk.Disk.{Ghosts}
use Rattle.up_lists.specs.Counts.{Rose}
use Rattle.up_host.specs.Alone.{HostState}
use Rattle.up_host.specs.declared.held.Held.{Held}
use Rattle.up_journal.specs.Logs.{LogState}
use Rattle.up_sessions.specs.Worlds.{Hosts}
use Rattle.up_tree.specs.States.{State, over_journal}

-- a disk, and whether it is settled: no record of its log is doubtful, or it has no log
abbrev pub Place : Type 0 → Type 0
Place D = D × Bool

-- a log's disk, and whether no record of the log is doubtful
abbrev pub place_of : {D R : Type 0} → LogState D R → Place D
place_of log = (log.disk, not log.doubtful && is_none log.further)

-- the disk of a tree's log, and whether no record of that log is doubtful
abbrev pub place_of_tree : {D : Type 0} → Held (State D) → Place D
place_of_tree held = place_of (over_journal held.state)

-- the disks of a host, in the order of its logs: those of its trees, that of its store, that of its keys
abbrev pub places_of : {D : Type 0} → HostState D → List (Place D)
places_of host = map place_of_tree host.trees ++ place_of host.store.state ∷ place_of host.keys.state ∷ []

-- the disks of all hosts in order, and then those that are free
abbrev pub all_places : {D : Type 0} → Hosts D → List (Place D)
all_places a = flat_map places_of a.hosts ++ map (λ disk. (disk, true)) a.free

-- A disk's count never falls, and it tells its content exactly where it did before. A settled disk stays settled, or its count rose.
pub record StaysIn {D : Type 0} (disks : Ghosts D) (old new : Place D) : Type 0 where
  pub later : disks.faults old.0 ≤ disks.faults new.0
  pub told : is_some (disks.content new.0) ≡ is_some (disks.content old.0)
  pub settled : old.1 ≡ true → (new.1 ≡ true) ⊎ Rose (disks.faults old.0) (disks.faults new.0)

-- In each place the disk's count never falls, and it tells its content exactly where it did before; a settled disk stays settled, or its
-- count rose.
abbrev pub AllStayIn : {D : Type 0} → Ghosts D → Hosts D → Hosts D → Type 0
AllStayIn disks a b = AllZip (StaysIn disks) (all_places a) (all_places b)
