-- What each call of a disk in memory does, which a disk with a hook repeats. What every disk promises comes first in
-- each. This project's own.
use Rattle.std.specs.Prelude.{◌≡◌, ◌≤◌, ◌+◌, ◌/◌, ◌⊎◌, ℕ, max, List, length, take, true, false}
use Rattle.std.specs.Prelude.{Result, option_map, IfSome, IsErr, OnOk, OnErr}
use Rattle.up_lists.specs.Counts.{HasCause, StaysUnless}
use Rattle.up_lists.specs.Calls.{IsCalled, fails_next}
use Rattle.up_disk.specs.Disk.{CutShort, Follows, Only, Steps, TimePasses, Torn, part, written}
use Rattle.up_disk.specs.Memory.{content_of, faults_of, left_since_of, length_of, may_leave_of, moment_of, plan_of, room_of, IsCut}
use Rattle.up_disk.specs.Memory.{IsSynced, IsUntouched, IsWritten}
use Rattle.up_disk.specs.declared.memory.MemDisk.{MemDisk}

-- a read into a buffer fails where its number is listed, and only there, and leaves the disk as it was
pub record IsReadFrom {E : Type 0} (at : ℕ) (before after : List ℕ) (result : Result (Unit {0}) E) (old new : MemDisk) : Type 0 where
  pub bytes : OnOk result (IfSome (content_of old) (λ bytes. after ≡ part at (length before) bytes))
  pub content : content_of new ≡ content_of old
  pub size : length_of new ≡ length_of old
  pub crash : (image : List ℕ) → may_leave_of new image → may_leave_of old image
  pub keeps : (image : List ℕ) → may_leave_of old image → may_leave_of new image
  pub time : TimePasses moment_of left_since_of may_leave_of old new
  pub cause : HasCause (faults_of old) (faults_of new) (IsErr result)
  pub quiet : StaysUnless (faults_of old) (faults_of new) (IsErr result)
  pub called : IsCalled (plan_of old) (plan_of new) result
  pub only_listed : OnErr result (fails_next (plan_of old) ≡ true)
  pub untouched : IsUntouched old new

-- a write whose number is listed leaves the front half, or nothing where there was no memory to note it; any other that
-- fails leaves all as it was
pub record IsWrittenTo {E : Type 0} (at : ℕ) (bytes : List ℕ) (result : Result (Unit {0}) E) (old new : MemDisk) : Type 0 where
  pub written : OnOk result (content_of new ≡ option_map (written at bytes) (content_of old))
  pub failed : OnErr result (Steps (Torn at (length bytes)) (content_of old) (content_of new))
  pub size : OnOk result (length_of new ≡ max (length_of old) (at + length bytes))
  pub no_shorter : length_of old ≤ length_of new
  pub no_longer : length_of new ≤ max (length_of old) (at + length bytes)
  pub crash : Follows (Torn at (length bytes)) (may_leave_of old) (may_leave_of new)
  pub time : TimePasses moment_of left_since_of may_leave_of old new
  pub cause : HasCause (faults_of old) (faults_of new) (IsErr result)
  pub quiet : StaysUnless (faults_of old) (faults_of new) (IsErr result)
  pub called : IsCalled (plan_of old) (plan_of new) result
  pub lands : OnOk result (IsWritten at bytes (length bytes) old new)
  pub half : OnErr result (IsWritten at bytes (length bytes / 2) old new ⊎ IsUntouched old new)
  pub unlisted : fails_next (plan_of old) ≡ false → OnErr result (IsUntouched old new)

-- a cut fails where its number is listed, and else only where the list of calls has to grow; one that fails has not happened
pub record IsCutTo {E : Type 0} (size : ℕ) (result : Result (Unit {0}) E) (old new : MemDisk) : Type 0 where
  pub cut : OnOk result (content_of new ≡ option_map (take size) (content_of old))
  pub failed : OnErr result (Steps (CutShort size) (content_of old) (content_of new))
  pub size_is : OnOk result (length_of new ≡ size)
  pub no_shorter : size ≤ length_of new
  pub no_longer : length_of new ≤ length_of old
  pub crash : Follows (CutShort size) (may_leave_of old) (may_leave_of new)
  pub time : TimePasses moment_of left_since_of may_leave_of old new
  pub cause : HasCause (faults_of old) (faults_of new) (IsErr result)
  pub quiet : StaysUnless (faults_of old) (faults_of new) (IsErr result)
  pub called : IsCalled (plan_of old) (plan_of new) result
  pub only_listed : OnErr result ((fails_next (plan_of old) ≡ true) ⊎ (room_of old ≡ 0))
  pub lands : OnOk result (IsCut size old new)
  pub untouched : OnErr result (IsUntouched old new)

-- a sync fails where its number is listed, and else only where the list of calls has to grow; one that fails has not
-- happened
pub record IsSyncedTo {E : Type 0} (result : Result (Unit {0}) E) (old new : MemDisk) : Type 0 where
  pub durable : OnOk result (Only (content_of new) (may_leave_of new))
  pub content : content_of new ≡ content_of old
  pub size : length_of new ≡ length_of old
  pub crash : (image : List ℕ) → may_leave_of new image → may_leave_of old image
  pub time : TimePasses moment_of left_since_of may_leave_of old new
  pub cause : HasCause (faults_of old) (faults_of new) (IsErr result)
  pub quiet : StaysUnless (faults_of old) (faults_of new) (IsErr result)
  pub called : IsCalled (plan_of old) (plan_of new) result
  pub only_listed : OnErr result ((fails_next (plan_of old) ≡ true) ⊎ (room_of old ≡ 0))
  pub lands : OnOk result (IsSynced old new)
  pub untouched : OnErr result (IsUntouched old new)
