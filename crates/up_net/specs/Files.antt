-- What a disk over a file asks of it, and how it is seen. What a file of the system holds is outside of every proof. This project's own.
use Rattle.std.specs.Prelude.{◌≡◌, ℕ, Bool, true, false, List, Result, Ok, Err, is_ok, IsErr}
use Rattle.up_lists.specs.Counts.{count_after}

-- the calls of a file: to read so many bytes at a place, to write bytes at a place, to cut it to a size, to sync it, to ask its size
pub data FileCall : Type 0 where
  ReadAt : ℕ → ℕ → FileCall
  WriteAt : ℕ → List ℕ → FileCall
  CutTo : ℕ → FileCall
  SyncNow : FileCall
  AskSize : FileCall

-- of a file of the system nothing is told: any call may come to anything
abbrev pub AnyCall : {F : Type 0} → F → FileCall → Bool → F → Type 0
AnyCall old call done new = Unit {0}

-- a disk over a file: the size that is known of it, how many calls failed, and whether a sync was one of them
pub record FileState (F : Type 0) : Type 0 where
  pub file : F
  pub size : ℕ
  pub faults : ℕ
  pub lost : Bool

-- a call that failed, and then the file was asked for its size
pub record FailsAndAsks {F : Type 0} (does : F → FileCall → Bool → F → Type 0) (call : FileCall) (old new : F) : Type 0 where
  pub between : F
  pub known : Bool
  pub failed : does old call false between
  pub asked : does between AskSize known new

-- one call that changes the file, with its outcome; where it failed the file is asked for its size besides
abbrev pub Changes : {F E : Type 0} → (F → FileCall → Bool → F → Type 0) → FileCall → F → Result (Unit {0}) E → F → Type 0
Changes does call old (Ok done) new = does old call true new
Changes does call old (Err e) new = FailsAndAsks does call old new

-- a sync that is asked of the file, and its outcome; once one has failed, none is asked any more, and each fails
abbrev pub Syncs : {F E : Type 0} → (F → FileCall → Bool → F → Type 0) → Bool → F → Result (Unit {0}) E → F → Type 0
Syncs does false old result new = does old SyncNow (is_ok result) new
Syncs does true old result new = (new ≡ old) × IsErr result

-- a call that fails, and no other, raises the count by one
abbrev pub Counts : {A E : Type 0} → ℕ → Result A E → ℕ → Type 0
Counts old (Ok done) new = new ≡ old
Counts old (Err e) new = new ≡ count_after old 1

-- a disk over a file tells no image that a crash may leave
abbrev pub no_image : {F : Type 0} → FileState F → List ℕ → Type 0
no_image _ _ = ⊥

-- at no moment
abbrev pub no_image_since : {F : Type 0} → FileState F → ℕ → List ℕ → Type 0
no_image_since _ _ _ = ⊥
