-- That a log stays settled but for a fault. This project's own.
use Rattle.std.specs.Prelude.{◌≡◌, ◌≤◌, ◌⊎◌, is_some}
use Rattle.up_disk.specs.declared.disk.Disk.{Ghosts}
use Rattle.up_journal.specs.Logs.{IsSettledLog, LogState}
use Rattle.up_lists.specs.Counts.{Rose}

-- A settled log stays settled, or its disk failed, whose count rose; the disk tells its content exactly where it did before, and its
-- count never falls.
pub record KeepsSettled {D R : Type 0} (disks : Ghosts D) (old new : LogState D R) : Type 0 where
  pub settled : IsSettledLog old → IsSettledLog new ⊎ Rose (disks.faults old.disk) (disks.faults new.disk)
  pub told : is_some (disks.content new.disk) ≡ is_some (disks.content old.disk)
  pub later : disks.faults old.disk ≤ disks.faults new.disk
