-- What becomes of two disks while a log is moved from the one to the other.
use Rattle.std.proofs.Common.{◌≡◌, ◌≤◌, sym, ◌∙◌}
use Rattle.up_disk.specs.Disk.{Only}
use Rattle.up_disk.specs.declared.disk.Disk.{Ghosts}
use Rattle.up_journal.specs.Cells.{OnlyRead}
use Rattle.up_journal.specs.Moving.{WasSynced}

module _ {D : Type 0} (disks : Ghosts D) where
  -- the old disk is synced, and then read
  pub was_synced : (old mid new : D) → disks.content mid ≡ disks.content old → Only (disks.content mid) (disks.may_leave mid) → disks.moment old ≤ disks.moment mid → OnlyRead disks mid new → WasSynced disks old new
  was_synced old mid new same only later read = record {
    at = disks.moment mid;
    since = later;
    until = read.run.later;
    left = λ image left. sym same ∙ only image (read.run.each image left);
  }
