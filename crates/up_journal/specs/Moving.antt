-- A log that is moved from a device of the first format to one of the second. This project's own.
use Rattle.std.specs.Prelude.{◌≡◌, ◌⊎◌, ◌<◌, ◌≤◌, ℕ, Bool, true, false, List, length, map, take, Option, Some, option_map}
use Rattle.std.specs.Prelude.{Result, Ok, Err, IfSome}
use Rattle.std.specs.List.{slice_get}
use Rattle.up_disk.specs.declared.disk.Disk.{Ghosts}
use Rattle.up_lists.specs.Counts.{Rose}
use Rattle.up_journal.specs.Cells.{OnlyRead}
use Rattle.up_disk.specs.Leaving.{LeavesNow}
use Rattle.up_journal.specs.Format1.{old_log_of}
use Rattle.up_journal.specs.Format2.{format2, log_of}
use Rattle.up_journal.specs.Gates.{has_name}
use Rattle.up_journal.specs.Images.{image_of}
use Rattle.up_journal.specs.Journal.{is_full}
use Rattle.up_journal.specs.declared.fault.MoveWhy.{MoveWhy}
use Rattle.up_journal.specs.declared.fault.MoveWhy.TheVariants as why
use Rattle.up_journal.specs.declared.limits.Limits.{Limits}
use Rattle.up_journal.specs.declared.moves.Moved.{Moved}
use Rattle.up_journal.specs.declared.moves.Moved.TheVariants as moved

-- the answer is that the new device has a log already
abbrev pub is_already : Result Moved MoveWhy → Bool
is_already (Ok moved.Already) = true
is_already (Ok (moved.Copied n)) = false
is_already (Err why) = false

-- the image of the second format has the log that these bytes have as one of the first
pub record HasOldLog (largest : ℕ) (old image : List ℕ) : Type 0 where
  pub log : List (List ℕ)
  pub was : old_log_of largest old ≡ Ok log
  pub now : log_of largest image ≡ Ok log

-- What a crash leaves of the new device while a log is moved to it: an image that does not begin with the name of the second
-- format, or one that has the old device's log, where this tells its content.
abbrev pub IsMoving : ℕ → Option (List ℕ) → List ℕ → Type 0
IsMoving largest old image = (has_name format2 image ≡ false) ⊎ IfSome old (λ bytes. HasOldLog largest bytes image)

-- each of the first n of these sizes would be appended after those before it, and not be full
abbrev pub KeepUpTo : Limits → List ℕ → ℕ → Type 0
KeepUpTo limits sizes n = (k size : ℕ) → k < n → slice_get sizes k ≡ Some size → is_full limits (take k sizes) size ≡ false

-- the first n of these sizes keep the limits, and the next would pass them
pub record IsTooLong (limits : Limits) (sizes : List ℕ) (n : ℕ) : Type 0 where
  pub kept : KeepUpTo limits sizes n
  pub size : ℕ
  pub next : slice_get sizes n ≡ Some size
  pub over : is_full limits (take n sizes) size ≡ true

-- The log of the old device's bytes has n records, which keep the limits, and the new device is the image that is made of it, now
-- and after a crash; and that image has this log.
pub record IsCopied {D : Type 0} (disks : Ghosts D) (limits : Limits) (n : ℕ) (old : List ℕ) (new : D) : Type 0 where
  pub log : List (List ℕ)
  pub was : old_log_of limits.largest old ≡ Ok log
  pub count : n ≡ length log
  pub kept : KeepUpTo limits (map length log) n
  pub content : IfSome (disks.content new) (λ image. image ≡ image_of format2 log)
  pub crash : LeavesNow disks new (λ image. image ≡ image_of format2 log)
  pub now : log_of limits.largest (image_of format2 log) ≡ Ok log

-- the log of the old device's bytes has more than n records, of which the first n keep the limits, and the next does not
pub record IsOver (limits : Limits) (n : ℕ) (old : List ℕ) : Type 0 where
  pub log : List (List ℕ)
  pub was : old_log_of limits.largest old ≡ Ok log
  pub over : IsTooLong limits (map length log) n

-- where the content is told, the log is that of the content as one of the first format
abbrev pub IsOldLogOf : ℕ → Option (List ℕ) → Option (List (List ℕ)) → Type 0
IsOldLogOf largest content log = option_map (old_log_of largest) content ≡ option_map Ok log

-- The disk was synced at some moment since the run began: from then on a crash left what a read gives.
pub record WasSynced {D : Type 0} (disks : Ghosts D) (old new : D) : Type 0 where
  pub at : ℕ
  pub since : disks.moment old ≤ at
  pub until : at ≤ disks.moment new
  pub left : (image : List ℕ) → disks.left_since new at image → disks.content old ≡ Some image

-- The old disk was synced before the new one was written; else the new one was only read, and has a log already, or a disk failed.
abbrev pub IsSyncedFirst : {D : Type 0} → Ghosts D → D → D → D → D → Result Moved MoveWhy → Type 0
IsSyncedFirst disks old old_now new new_now result =
    WasSynced disks old old_now ⊎ (((result ≡ Ok moved.Already) ⊎ (result ≡ Err why.Fault)) × OnlyRead disks new new_now)

-- counts of faults of two objects, of which none falls, and one rose where there was a fault
pub record HaveCause (one one_now other other_now : ℕ) (fault : Type 0) : Type 0 where
  pub one_later : one ≤ one_now
  pub other_later : other ≤ other_now
  pub rose : fault → Rose one one_now ⊎ Rose other other_now

-- ---- on the way

-- the image does not begin with the name of the second format, or is this one
abbrev pub IsSwitched : List ℕ → List ℕ → Type 0
IsSwitched whole image = (has_name format2 image ≡ false) ⊎ (image ≡ whole)

-- an image that was left before, or one that a call that was begun makes of it
abbrev pub MayStep : (List ℕ → List ℕ → Type 0) → (List ℕ → Type 0) → List ℕ → Type 0
MayStep step old image = old image ⊎ ((before : List ℕ) × old before × step before image)
