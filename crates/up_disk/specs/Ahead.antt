-- Bytes that were read ahead of a disk. This project's own.
use Rattle.std.specs.Prelude.{◌≡◌, ◌≤◌, ◌+◌, ◌-◌, ℕ, List, length, Option, Some}
use Rattle.up_lists.specs.Counts.{HasCause, StaysUnless}
use Rattle.up_disk.specs.Disk.{TimePasses, part}
use Rattle.up_disk.specs.declared.disk.Disk.{Ghosts}

-- these bytes stand in the content from a place on, where it is told
pub record IsAhead (content : Option (List ℕ)) (from : ℕ) (bytes : List ℕ) : Type 0 where
  pub same : (all : List ℕ) → content ≡ Some all → bytes ≡ part from (length bytes) all

-- these are so many of the bytes from a place on that were read ahead from another place on
pub record AreAmong (from : ℕ) (bytes : List ℕ) (at n : ℕ) (copied : List ℕ) : Type 0 where
  pub behind : from ≤ at
  pub within : (at - from) + n ≤ length bytes
  pub copied_are : copied ≡ part (at - from) n bytes

-- one read of a disk: its bytes, what a crash may leave of it and its size stay, and its count rises exactly where the read failed
pub record IsOneRead {D : Type 0} (disks : Ghosts D) (old new : D) (failed : Type 0) : Type 0 where
  pub content : disks.content new ≡ disks.content old
  pub size : disks.size_of new ≡ disks.size_of old
  pub crash : (image : List ℕ) → disks.may_leave new image → disks.may_leave old image
  pub keeps : (image : List ℕ) → disks.may_leave old image → disks.may_leave new image
  pub time : TimePasses disks.moment disks.left_since disks.may_leave old new
  pub cause : HasCause (disks.faults old) (disks.faults new) failed
  pub quiet : StaysUnless (disks.faults old) (disks.faults new) failed
