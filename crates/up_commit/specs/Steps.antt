-- What a request does to a tree over its log. This project's own.
use Rattle.std.specs.Prelude.{◌≡◌, ◌≢◌, ◌⊎◌, ℕ, Bool, true, false, if◌then◌else◌, List, [], ◌∷◌, ◌++◌, Result, Ok, Err}
use Rattle.up_disk.specs.declared.disk.Disk.{Ghosts}
use Rattle.up_entry.specs.declared.records.Rec.{Rec}
use Rattle.up_lists.specs.Counts.{Rose}
use Rattle.up_journal.specs.declared.fault.AppendWhy.{AppendWhy}
use Rattle.up_journal.specs.declared.fault.AppendWhy.TheVariants as why
use Rattle.up_tree.specs.States.{Applies, State}
use Rattle.up_wire.specs.declared.replies.Done.{Done}
use Rattle.up_wire.specs.declared.replies.Done.TheVariants as done
use Rattle.up_wire.specs.declared.replies.Reply.{Reply}
use Rattle.up_wire.specs.declared.replies.Reply.TheVariants as reply

-- whether what was done is told by a position
abbrev pub is_position : Done → Bool
is_position (done.Changed position) = true
is_position other = false

-- the reply tells the position of a record
abbrev pub is_changed : Reply → Bool
is_changed (reply.Ok what) = is_position what
is_changed other = false

-- the reply by what came of adding a record
abbrev pub applied_reply : Result ℕ AppendWhy → Reply
applied_reply (Ok position) = reply.Ok (done.Changed position)
applied_reply (Err (why.Full records)) = reply.Full records
applied_reply (Err why.Fault) = reply.Io
applied_reply (Err why.OutOfMemory) = reply.OutOfMemory

-- One record was handed to the tree, which added it or was hindered by its disk; the reply is by what came of it.
pub record IsApplied {D : Type 0} (disks : Ghosts D) (added : List Rec) (old new : State D) (answered : Reply) : Type 0 where
  pub rec : Rec
  pub result : Result ℕ AppendWhy
  pub one : added ≡ rec ∷ []
  pub applies : Applies disks rec old new result
  pub told : answered ≡ applied_reply result

-- A request whose answer over the log is known, with the records that it adds, was answered. The reply is the answer; but want of
-- memory may come at any place, and in the place of a position stands Io where the disk failed. The records are added exactly where
-- the reply is a position, and but for a disk that failed all else stays as it was.
pub record Steps {D : Type 0} (disks : Ghosts D) (answer : Reply) (added : List Rec) (old new : State D) (answered : Reply) : Type 0 where
  pub exact : answered ≢ reply.OutOfMemory → answered ≢ reply.Io → answered ≡ answer
  pub failed : answered ≡ reply.Io
      → (answer ≡ reply.Io) ⊎ ((is_changed answer ≡ true) × Rose (disks.faults old.disk) (disks.faults new.disk))
  pub log : new.log ≡ old.log ++ (if is_changed answered then added else [])
  pub untouched : is_changed answered ≡ false → (answered ≡ reply.Io → answer ≡ reply.Io) → new ≡ old
  pub stands : (new ≡ old) ⊎ IsApplied disks added old new answered

-- the reply is this one, or tells of want of memory
abbrev pub IsTold : Reply → Reply → Type 0
IsTold meant answered = (answered ≡ meant) ⊎ (answered ≡ reply.OutOfMemory)
