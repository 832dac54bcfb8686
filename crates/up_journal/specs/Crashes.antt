-- What a call over a disk leaves to a crash, for a journal and all that stands over one. This project's own.
use Rattle.std.specs.Prelude.{◌≡◌, ◌⊎◌, ◌<◌, ℕ, List, is_some}
use Rattle.up_disk.specs.Disk.{LeavesOnly, Only}
use Rattle.up_disk.specs.declared.disk.Disk.{Ghosts}
use Rattle.up_journal.specs.Gates.{new_size}
use Rattle.up_journal.specs.Journal.{IsReadAs}

-- A run of calls whose first sync succeeded. Until then a crash left what it might have left before, then what a read gave, and
-- from then on an image that has this.
pub record SyncsFirst {D : Type 0} (disks : Ghosts D) (old new : D) (since : List ℕ → Type 0) : Type 0 where
  -- the disk at the moment at which that sync had succeeded
  pub synced : D
  pub until : LeavesOnly disks.moment disks.left_since old synced (disks.may_leave old)
  pub settled : Only (disks.content old) (disks.may_leave synced)
  pub behind : LeavesOnly disks.moment disks.left_since synced new since

-- A run of calls that failed before a sync succeeded. A crash left what it might have left before.
pub record FailsFirst {D : Type 0} (disks : Ghosts D) (old new : D) (fault : Type 0) : Type 0 where
  pub failed : fault
  pub until : LeavesOnly disks.moment disks.left_since old new (disks.may_leave old)

-- What opening makes of a disk, whatever the answer. It tells its content as before, and the same, but where it is new. Until its
-- first sync has succeeded a crash left what it might have left before the call, and from then on an image that is read as the
-- content is. It was synced, but for a fault.
pub record IsOpened {D : Type 0} (disks : Ghosts D) (largest : ℕ) (old new : D) (fault : Type 0) : Type 0 where
  pub told : is_some (disks.content new) ≡ is_some (disks.content old)
  pub unchanged : new_size < disks.size_of old → disks.content new ≡ disks.content old
  pub any_moment : FailsFirst disks old new fault ⊎ SyncsFirst disks old new (IsReadAs largest (disks.content old))
