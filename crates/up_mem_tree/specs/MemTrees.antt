-- What contracts see of a tree in memory. This project's own.
use Rattle.std.specs.Prelude.{◌<◌, ◌+◌, ℕ, List, length, Option, Some, None, Vec, option_map, ⊤}
use Rattle.std.specs.Vec.{vec_capacity, vec_len}
use Rattle.up_names.specs.Texts.{UserName}
use Rattle.up_entry.specs.declared.records.Rec.{Rec}
use Rattle.up_mem_tree.specs.Groups.{AreGroupChanges}
use Rattle.up_mem_tree.specs.Kept.{IsReadyFor, Stands, slots_of}
use Rattle.up_mem_tree.specs.Others.{AreNamed, HasStepOthers, named_by}
use Rattle.up_mem_tree.specs.ChangesBelow.{AreNoted, CanNoteRecord, noted_all}
use Rattle.up_mem_tree.specs.declared.kept.Kept.{Kept}
use Rattle.up_mem_tree.specs.declared.mem_tree.Ready.{Ready}
use Rattle.up_mem_tree.specs.declared.changes_below.Under.{Under}
use Rattle.up_mem_tree.specs.declared.others.Others.{Others}
use Rattle.up_log_tree.specs.Fits.{Fits}

-- the owner, the records, and the record that was made ready to be entered, where one was
pub record TreeLog : Type 0 where
  pub owner : UserName
  pub log : List Rec
  pub ready : Option Rec

-- the record that was made ready
abbrev pub ready_record : Option Ready → Option Rec
ready_record ready = option_map (λ (made : Ready). made.rec) ready

-- the record that was made ready fits, and can be entered without memory
abbrev pub CanEnter : Kept → Option Ready → Type 0
CanEnter kept None = ⊤
CanEnter kept (Some made) = Fits kept.owner kept.log.items made.rec × IsReadyFor kept made.rec made.step

-- the position of the record that was made ready can be noted without memory
abbrev pub CanBeNoted : Kept → List Under → Option Ready → Type 0
CanBeNoted kept changes_below None = ⊤
CanBeNoted kept changes_below (Some made) = CanNoteRecord changes_below (slots_of kept) made.rec

-- the last change of a Group file can be kept for the record that was made ready, without memory
abbrev pub HasRoomFor : {A : Type 0} → Vec ℕ A → Option Ready → Type 0
HasRoomFor groups None = ⊤
HasRoomFor groups (Some made) = vec_len groups < vec_capacity groups

-- the groups of other owners that the record that was made ready names are known by its position
abbrev pub HasReadyOthers : Kept → Others → Option Ready → Type 0
HasReadyOthers kept others None = ⊤
HasReadyOthers kept others (Some made) = HasStepOthers kept.owner (named_by others (length kept.log.items + 1)) made.step

-- all that is kept stands for the log, and what was made ready can be entered and noted
pub record IsMemTree {A : Type 0} (kept : Kept) (changes_below : List Under) (groups : Vec ℕ A)
    (known : Others) (ready : Option Ready) : Type 0 where
  pub stands : Stands kept
  pub noted : AreNoted kept.log.items (slots_of kept) (noted_all changes_below)
  pub grouped : AreGroupChanges kept.log.items groups.items
  pub can : CanEnter kept ready
  pub note : CanBeNoted kept changes_below ready
  pub room : HasRoomFor groups ready
  pub others : AreNamed kept.owner kept.log.items known
  pub others_ready : HasReadyOthers kept known ready
