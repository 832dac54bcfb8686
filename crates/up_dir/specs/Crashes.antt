-- What a crash leaves of a tree of which something was asked. This project's own.
use Rattle.std.specs.Prelude.{◌≡◌, ◌⊎◌, ℕ, List, [], ◌∷◌, ◌++◌, Result, Ok}
use Rattle.up_disk.specs.Disk.{LeavesOnly}
use Rattle.up_disk.specs.declared.disk.Disk.{Ghosts}
use Rattle.up_entry.specs.declared.records.Rec.{Rec}
use Rattle.up_disk.specs.Leaving.{LeavesNow}
use Rattle.up_journal.specs.Damages.{Damage}
use Rattle.up_journal.specs.Logs.{StandsForLog}
use Rattle.up_tree.specs.States.{State, records_in}

-- the log that an image of the tree's disk has, or its damage
abbrev pub image_log : {D : Type 0} → State D → List ℕ → Result (List Rec) Damage
image_log state = records_in state.owner state.limits.largest

-- an image has the log of before, or that log with its doubtful record or with the records that are added
abbrev pub MayHave : {D : Type 0} → State D → List Rec → List ℕ → Type 0
MayHave old added image = StandsForLog (image_log old) old.log old.further image ⊎ (image_log old image ≡ Ok (old.log ++ added))

-- Something that adds these records, or was refused, was asked of a tree. A crash now leaves the log, or the log with the doubtful
-- record; a record that was added is there after each crash. A crash at any moment since left the log of before, or that log with the
-- doubtful record or with what is added.
pub record Survives {D : Type 0} (disks : Ghosts D) (added : List Rec) (old new : State D) : Type 0 where
  pub safe : LeavesNow disks new.disk (StandsForLog (image_log new) new.log new.further)
  pub acknowledged : (rec : Rec) → new.log ≡ old.log ++ rec ∷ [] → LeavesNow disks new.disk (λ image. image_log new image ≡ Ok new.log)
  pub any_moment : LeavesOnly disks.moment disks.left_since old.disk new.disk (MayHave old added)
