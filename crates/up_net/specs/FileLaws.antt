-- The laws of a disk, for one over a file: it tells nothing.
use Rattle.std.specs.Prelude.{◌≡◌, ◌≤◌, ℕ, List, None, IsSome, IfSome, length}
use Rattle.up_net.specs.Files.{FileState, no_image, no_image_since}

-- a disk that tells nothing of its bytes contradicts no size
pub no_size : {F : Type 0} (disk : FileState F) → IfSome {T = List ℕ} None (λ bytes. length bytes ≡ disk.size)
no_size disk = tt

-- an image of such a disk would tell its bytes, and there is none
pub nothing_told : {F : Type 0} (disk : FileState F) (image : List ℕ) → no_image disk image → IsSome {T = List ℕ} None
nothing_told disk image left = absurd left

-- what is read of such a disk is no image
pub no_read : {F : Type 0} (disk : FileState F) → IfSome {T = List ℕ} None (no_image disk)
no_read disk = tt

-- such a disk has as few images now as since any moment
pub nothing_now : {F : Type 0} (disk : FileState F) (t : ℕ) (image : List ℕ) → t ≤ 0 → no_image disk image → no_image_since disk t image
nothing_now disk t image le left = left

-- such a disk has as few images since now as now
pub nothing_since : {F : Type 0} (disk : FileState F) (image : List ℕ) → no_image_since disk 0 image → no_image disk image
nothing_since disk image left = left
