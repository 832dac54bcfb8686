-- What one text of a batch does to a tree's log. This project's own.
use Rattle.std.specs.Prelude.{◌≡◌, ◌+◌, ◌||◌, ℕ, Bool, true, false, if◌then◌else◌, nat_lt, List, length}
use Rattle.std.specs.Prelude.{Option, Some, None, option_and_then, Result, Ok, Err}
use Rattle.up_disk.specs.declared.disk.Disk.{Ghosts}
use Rattle.up_entry.specs.declared.records.Rec.{Rec}
use Rattle.up_follow.specs.declared.fault.FollowWhy.{FollowWhy}
use Rattle.up_follow.specs.declared.fault.FollowWhy.TheVariants as why
use Rattle.up_journal.specs.Journal.{is_full}
use Rattle.up_journal.specs.declared.fault.AppendWhy.TheVariants as append
use Rattle.up_journal.specs.declared.limits.Limits.{Limits}
use Rattle.up_names.specs.Texts.{UserName}
use Rattle.up_log_tree.specs.Fits.{fits}
use Rattle.up_log_tree.specs.Sizes.{size_of, sizes_of}
use Rattle.up_tree.specs.States.{Applies, State, record_in}

-- the record, where it fits after a log
abbrev pub if_fits : UserName → List Rec → Rec → Option Rec
if_fits owner log rec = if fits owner log rec then Some rec else None

-- the record that a text spells and that fits after a log, if there is one
abbrev pub fitting_in : UserName → List Rec → List ℕ → Option Rec
fitting_in owner log text = option_and_then (if_fits owner log) (record_in text)

-- with this record more, a log would pass its limits: the record has too many bytes, or there is no room for it
abbrev pub passes_limits : Limits → List Rec → Rec → Bool
passes_limits limits log rec = nat_lt limits.largest (size_of rec) || is_full limits (sizes_of log) (size_of rec)

module _ {D : Type 0} (disks : Ghosts D) where
  -- A record was added.
  pub record IsAdded (rec : Rec) (old new : State D) : Type 0 where
    pub position : ℕ
    pub applies : Applies disks rec old new (Ok position)

  -- The disk failed as a record was added, for which there was room.
  pub record IsHindered (rec : Rec) (old new : State D) : Type 0 where
    pub room : passes_limits old.limits old.log rec ≡ false
    pub applies : Applies disks rec old new (Err append.Fault)

  -- what came of a record that fits
  abbrev pub TakesRecord : Rec → State D → State D → Result (Unit {0}) FollowWhy → Type 0
  TakesRecord rec old new (Ok done) = IsAdded rec old new
  TakesRecord rec old new (Err (why.Full records)) =
      (new ≡ old) × (passes_limits old.limits old.log rec ≡ true) × (records ≡ length old.log)
  TakesRecord rec old new (Err why.Io) = IsHindered rec old new
  TakesRecord rec old new (Err why.OutOfMemory) = new ≡ old
  TakesRecord rec old new (Err (why.Strange position)) = ⊥
  TakesRecord rec old new (Err why.Failed) = ⊥

  -- a text spells a record that fits, of which this came
  pub record TakesFitting (text : List ℕ) (old new : State D) (result : Result (Unit {0}) FollowWhy) : Type 0 where
    pub rec : Rec
    pub decoded : record_in text ≡ Some rec
    pub fits_it : fits old.owner old.log rec ≡ true
    pub takes : TakesRecord rec old new result

  -- what came of a text
  abbrev pub TakesText : List ℕ → State D → State D → Result (Unit {0}) FollowWhy → Type 0
  TakesText text old new (Err (why.Strange position)) =
      (new ≡ old) × (fitting_in old.owner old.log text ≡ None) × (position ≡ length old.log + 1)
  TakesText text old new (Err why.OutOfMemory) = new ≡ old
  TakesText text old new (Ok done) = TakesFitting text old new (Ok done)
  TakesText text old new (Err (why.Full records)) = TakesFitting text old new (Err (why.Full records))
  TakesText text old new (Err why.Io) = TakesFitting text old new (Err why.Io)
  TakesText text old new (Err why.Failed) = ⊥
