-- What a crash leaves of a disk, for whatever stands over one. This project's own.
use Rattle.std.specs.Prelude.{◌≡◌, ℕ, List, [], Some}
use Rattle.up_disk.specs.Disk.{LeavesOnly}
use Rattle.up_disk.specs.declared.disk.Disk.{Ghosts}

-- a crash now leaves an image that has this
pub record LeavesNow {D : Type 0} (disks : Ghosts D) (disk : D) (now : List ℕ → Type 0) : Type 0 where
  pub each : (image : List ℕ) → disks.may_leave disk image → now image

-- a crash now leaves an image that has the first, and one at any moment since the call began left one that has the second
pub record Leaves {D : Type 0} (disks : Ghosts D) (old new : D) (now meanwhile : List ℕ → Type 0) : Type 0 where
  pub safe : (image : List ℕ) → disks.may_leave new image → now image
  pub any_moment : LeavesOnly disks.moment disks.left_since old new meanwhile

-- an empty disk that tells its content, with nothing pending
pub record IsBlank {D : Type 0} (disks : Ghosts D) (disk : D) : Type 0 where
  pub empty : disks.content disk ≡ Some []
  pub synced : LeavesNow disks disk (λ image. image ≡ [])
