-- What contracts see of a disk in memory. This project's own.
use Rattle.std.specs.Prelude.{◌≡◌, ◌≤◌, ◌-◌, ℕ, List, length, take, Option, Some, vec_len, vec_capacity}
use Rattle.up_lists.specs.Calls.{CallPlan}
use Rattle.up_disk.specs.Disk.{written}
use Rattle.up_disk.specs.Pending.{MayLeave}
use Rattle.up_disk.specs.Image.{image_after, landed_cut, landed_write, landing_of}
use Rattle.up_disk.specs.declared.memory.MemDisk.{MemDisk}

-- what a read gives
abbrev pub content_of : MemDisk → Option (List ℕ)
content_of disk = Some disk.bytes.items

-- what a crash may leave now
abbrev pub may_leave_of : MemDisk → List ℕ → Type 0
may_leave_of disk image = MayLeave disk.first disk.first disk.calls.items image

-- how many calls have changed the disk or what a crash may leave of it
abbrev pub moment_of : MemDisk → ℕ
moment_of disk = length disk.calls.items

-- what a crash since a moment might have left
abbrev pub left_since_of : MemDisk → ℕ → List ℕ → Type 0
left_since_of disk t image =
    (k : ℕ) × (t ≤ k) × (k ≤ length disk.calls.items) × MayLeave disk.first disk.first (take k disk.calls.items) image

-- which calls fail, how many were made, and how many failed
abbrev pub plan_of : MemDisk → CallPlan
plan_of disk = disk.plan

-- how often a call has failed
abbrev pub faults_of : MemDisk → ℕ
faults_of disk = (plan_of disk).faults

-- the crash image by that number
abbrev pub image_of : MemDisk → ℕ → List ℕ
image_of disk choice = image_after (landing_of choice) disk.first disk.first disk.calls.items

-- how many calls more it takes before its list of them has to grow
abbrev pub room_of : MemDisk → ℕ
room_of disk = vec_capacity disk.calls - vec_len disk.calls

-- the number of bytes
abbrev pub length_of : MemDisk → ℕ
length_of disk = length disk.bytes.items

-- a read gives what it gave, and each image is what it was
pub record IsUntouched (old new : MemDisk) : Type 0 where
  pub content : content_of new ≡ content_of old
  pub images : (choice : ℕ) → image_of new choice ≡ image_of old choice

-- a write stands among the calls since the last sync, and a read gives so many of its bytes
pub record IsWritten (at : ℕ) (bytes : List ℕ) (landed : ℕ) (old new : MemDisk) : Type 0 where
  pub content : content_of new ≡ Some (written at (take landed bytes) old.bytes.items)
  pub images : (choice : ℕ) → image_of new choice ≡ landed_write (landing_of choice) at bytes (image_of old choice)

-- a cut stands among the calls since the last sync
pub record IsCut (size : ℕ) (old new : MemDisk) : Type 0 where
  pub content : content_of new ≡ Some (take size old.bytes.items)
  pub images : (choice : ℕ) → image_of new choice ≡ landed_cut (landing_of choice) size (image_of old choice)

-- no call stands since the last sync: each image is what a read gives
pub record IsSynced (old new : MemDisk) : Type 0 where
  pub content : content_of new ≡ content_of old
  pub images : (choice : ℕ) → content_of new ≡ Some (image_of new choice)
