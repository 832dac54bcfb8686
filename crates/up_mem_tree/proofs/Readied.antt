-- A record that is made ready in memory, and entered.
use Rattle.std.proofs.Common.{◌≡◌, ◌+◌, ◌<◌, ℕ, List, length, Option, Some, None, sym, subst}
use Rattle.std.specs.Prelude.{Vec}
use Rattle.std.specs.Vec.{vec_capacity, vec_len}
use Rattle.up_entry.specs.declared.records.Rec.{Rec}
use Rattle.up_mem_tree.specs.Kept.{IsReadyFor, IsSameKept, IsStepFor, Stands, slots_of}
use Rattle.up_mem_tree.specs.Groups.{AreGroupChanges}
use Rattle.up_mem_tree.specs.MemTrees.{CanBeNoted, CanEnter, HasReadyOthers, HasRoomFor, IsMemTree}
use Rattle.up_mem_tree.specs.Others.{AreNamed, HasStepOthers, named_by}
use Rattle.up_mem_tree.specs.ChangesBelow.{AreNoted, CanNoteRecord, noted_all}
use Rattle.up_mem_tree.specs.declared.changes_below.Under.{Under}
use Rattle.up_mem_tree.specs.declared.kept.Kept.{Kept}
use Rattle.up_mem_tree.specs.declared.others.Others.{Others}
use Rattle.up_mem_tree.specs.declared.mem_tree.Ready.{Ready}
use Rattle.up_log_tree.specs.Fits.{Fits}
use Rattle.up_mem_tree.proofs.Within.{same_stands}

-- nothing made ready
pub not_made : {A : Type 0} (kept : Kept) (changes_below : List Under) (groups : Vec ℕ A) (others : Others) → Stands kept → AreNoted kept.log.items (slots_of kept) (noted_all changes_below) → AreGroupChanges kept.log.items groups.items →
    AreNamed kept.owner kept.log.items others → IsMemTree kept changes_below groups others None
not_made kept changes_below groups others stands noted grouped told = record { stands = stands; noted = noted; grouped = grouped; can = tt; note = tt; room = tt; others = told; others_ready = tt }

-- what is kept is the same
pub same_others : (old new : Kept) (others : Others) → IsSameKept old new → AreNamed old.owner old.log.items others → AreNamed new.owner new.log.items others
same_others old new others same told = subst (λ owner. AreNamed owner new.log.items others) (sym same.owner) (subst (λ log. AreNamed old.owner log others) (sym same.log) told)

pub made : {A : Type 0} (old new : Kept) (changes_below : List Under) (groups : Vec ℕ A) (others : Others) (rec : Rec) (ready : Ready) → IsSameKept old new → Stands old → AreNoted new.log.items (slots_of new) (noted_all changes_below)
    → AreGroupChanges old.log.items groups.items → vec_len groups < vec_capacity groups → Fits old.owner old.log.items rec → ready.rec ≡ rec
    → IsReadyFor new rec ready.step → CanNoteRecord changes_below (slots_of new) rec → AreNamed old.owner old.log.items others → HasStepOthers new.owner (named_by others (length new.log.items + 1)) ready.step → IsMemTree new changes_below groups others (Some ready)
made old new changes_below groups others rec ready same stands noted grouped room fits is enters notes told ready_told = record {
  stands = same_stands old new same stands;
  noted = noted;
  grouped = subst (λ log. AreGroupChanges log groups.items) (sym same.log) grouped;
  can = (
    subst (Fits new.owner new.log.items) (sym is) (subst (λ owner. Fits owner new.log.items rec) (sym same.owner) (subst (λ log. Fits old.owner log rec) (sym same.log) fits)),
    subst (λ r. IsReadyFor new r ready.step) (sym is) enters,
  );
  note = subst (CanNoteRecord changes_below (slots_of new)) (sym is) notes;
  room = room;
  others = same_others old new others same told;
  others_ready = ready_told;
}

module _ {A : Type 0} (kept : Kept) (changes_below : List Under) (groups : Vec ℕ A) (others : Others) (ready : Option Ready) (found : Ready) (is : IsMemTree kept changes_below groups others ready) (some : ready ≡ Some found) where
  pub can_note : CanNoteRecord changes_below (slots_of kept) found.rec
  can_note = subst (CanBeNoted kept changes_below) some is.note

  pub has_room : vec_len groups < vec_capacity groups
  has_room = subst (HasRoomFor groups) some is.room

  pub step_others : HasStepOthers kept.owner (named_by others (length kept.log.items + 1)) found.step
  step_others = subst (HasReadyOthers kept others) some is.others_ready

  pub can_step : IsStepFor kept found.rec found.step
  can_step = (subst (CanEnter kept) some is.can).1.is
