-- What one turn of the store or the keys came to, over its state. This project's own.
use Rattle.std.specs.Prelude.{◌≡◌, ℕ, Bool, true, false, List, ◌++◌, Option, Some, None}
use Rattle.up_entry.specs.declared.what.What.{What}
use Rattle.up_lists.specs.Counts.{Rose}
use Rattle.up_calls.specs.Services.{Leads, NeedsDisk}
use Rattle.up_wire.specs.declared.replies.Reply.{Reply}
use Rattle.up_wire.specs.declared.replies.Reply.TheVariants as reply

-- something of the request is malformed
abbrev pub is_invalid : Reply → Bool
is_invalid (reply.Invalid what) = true
is_invalid other = false

-- By what is malformed of it and what it else leads to: it was refused without a look at the log; or it was answered, with the records
-- that were added; or the disk failed; or memory was wanting.
pub data IsDone {E : Type 0} (says : List E → Leads E → Reply → List E → Type 0) (fault : Option What)
    (leads : Leads E) (before after : List E) (faults_before faults_after : ℕ) (answer : Reply) : Type 0 where
  Refused : (what : What) → fault ≡ Some what → answer ≡ reply.Invalid what → after ≡ before
      → IsDone says fault leads before after faults_before faults_after answer
  Said : fault ≡ None → is_invalid answer ≡ false → (added : List E) → says before leads answer added
      → after ≡ before ++ added → IsDone says fault leads before after faults_before faults_after answer
  Failed : fault ≡ None → answer ≡ reply.Io → Rose faults_before faults_after → NeedsDisk leads
      → after ≡ before → IsDone says fault leads before after faults_before faults_after answer
  Wanting : answer ≡ reply.OutOfMemory → after ≡ before → IsDone says fault leads before after faults_before faults_after answer
