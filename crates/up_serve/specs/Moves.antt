-- A log of a server is moved from a file of the first format. This project's own.
use Rattle.std.specs.Prelude.{◌≡◌, ◌≢◌, ℕ, Option, Result, Ok, Err, false, is_some, IfSome, IsErrOf}
use Rattle.up_disk.specs.Disk.{LeavesOnly, Only}
use Rattle.up_disk.specs.declared.disk.Disk.{Ghosts}
use Rattle.up_journal.specs.Cells.{OnlyRead}
use Rattle.up_journal.specs.Damages.{Damaged}
use Rattle.up_journal.specs.Format1.{old_log_of}
use Rattle.up_journal.specs.Format2.{format2}
use Rattle.up_journal.specs.Gates.{has_name}
use Rattle.up_journal.specs.Moving.{HaveCause, IsCopied, IsMoving, IsOver, IsSyncedFirst, is_already}
use Rattle.up_journal.specs.declared.fault.MoveWhy.{MoveWhy}
use Rattle.up_journal.specs.declared.fault.MoveWhy.TheVariants as why
use Rattle.up_journal.specs.declared.limits.Limits.{Limits}
use Rattle.up_journal.specs.declared.moves.Moved.{Moved}
use Rattle.up_journal.specs.declared.moves.Moved.TheVariants as moved
use Rattle.up_lists.specs.Counts.{StaysUnless}
use Rattle.up_names.specs.Texts.{Text}
use Rattle.up_reports.specs.Telling.{AnswersOne}
use Rattle.up_serve.specs.Telling.{moved_by}

-- What a move of a log came to: the new disk has one already; or so many records were copied; or the old one is damaged at a place; or so
-- many of its records keep the limits, and more are there; each exactly where it is so. A fault comes only where a disk's count rose, and
-- without a fault none did. The old disk stays as it is, and is settled before the new one is written. A crash at any moment leaves a new
-- one that does not begin with the name of the second format, or one that has the old one's log.
pub record IsMove {D : Type 0} (disks : Ghosts D) (limits : Limits)
    (old old_now new new_now : D) (came : Result Moved MoveWhy) : Type 0 where
  pub already : came ≢ Err why.Fault → IfSome (disks.content new) (λ bytes. is_already came ≡ has_name format2 bytes)
  pub copied : (n : ℕ) → came ≡ Ok (moved.Copied n) → IfSome (disks.content old) (λ bytes. IsCopied disks limits n bytes new_now)
  pub damaged : (place : ℕ) → came ≡ Err (why.Old place)
      → IfSome (disks.content old) (λ bytes. old_log_of limits.largest bytes ≡ Err (Damaged place))
  pub full : (n : ℕ) → came ≡ Err (why.Full n) → IfSome (disks.content old) (IsOver limits n)
  pub counts : HaveCause (disks.faults old) (disks.faults old_now) (disks.faults new) (disks.faults new_now) (IsErrOf came why.Fault)
  pub old_quiet : StaysUnless (disks.faults old) (disks.faults old_now) (IsErrOf came why.Fault)
  pub new_quiet : StaysUnless (disks.faults new) (disks.faults new_now) (IsErrOf came why.Fault)
  pub old_stays : OnlyRead disks old old_now
  pub new_stays : ((n : ℕ) → came ≢ Ok (moved.Copied n)) → came ≢ Err why.Fault → OnlyRead disks new new_now
  pub told : is_some (disks.content new_now) ≡ is_some (disks.content new)
  pub synced : IsSyncedFirst disks old old_now new new_now came
  pub crash : Only (disks.content new) (disks.may_leave new) → IfSome (disks.content new) (λ bytes. has_name format2 bytes ≡ false)
      → LeavesOnly disks.moment disks.left_since new new_now (IsMoving limits.largest (disks.content old))

-- What was answered and printed for it, the log being that at this place: nothing is printed of a log that was moved.
abbrev pub AnswersMove : ℕ → Option Text → Option Text → Result Moved MoveWhy → Result Moved ℕ → Type 0
AnswersMove which held held_now (Ok done) (Ok answer) = (answer ≡ done) × (held_now ≡ held)
AnswersMove which held held_now (Err why) (Err status) = AnswersOne held held_now (moved_by which why) status
AnswersMove which held held_now (Ok done) (Err status) = ⊥
AnswersMove which held held_now (Err why) (Ok answer) = ⊥

-- a log was moved, or not, and so it was answered
pub record Moves {D : Type 0} (disks : Ghosts D) (limits : Limits) (which : ℕ)
    (old old_now new new_now : D) (held held_now : Option Text) (result : Result Moved ℕ) : Type 0 where
  pub came : Result Moved MoveWhy
  pub move : IsMove disks limits old old_now new new_now came
  pub answers : AnswersMove which held held_now came result
