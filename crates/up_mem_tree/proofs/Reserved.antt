-- Room in slots that otherwise stay as they are.
use Rattle.std.proofs.Common.{◌≡◌, ℕ, List, Result, Ok, Err, Option, Some, None, sym, subst, ◌∙◌}
use Rattle.std.specs.Prelude.{IfSome, OnOk, Vec, slice_get}
use Rattle.up_mem_tree.specs.declared.slots.Slot.{Slot}
use Rattle.up_mem_tree.specs.declared.steps.Own.{Own}
use Rattle.up_mem_tree.specs.declared.steps.ParentStep.{ParentStep}
use Rattle.up_names.specs.declared.items.Item.{Item}
use Rattle.up_mem_tree.specs.declared.history.Change.{Change}
use Rattle.up_mem_tree.specs.declared.steps.Own.TheVariants.{There}
use Rattle.up_mem_tree.specs.Edits.{HasRoomFor}
use Rattle.up_mem_tree.specs.Steps.{CanEnterAbove, CanEnterOwn, IsApart}

pub on_ok : {T E P Q : Type 0} (result : Result T E) → (P → Q) → OnOk result P → OnOk result Q
on_ok (Ok value) f h = f h
on_ok (Err fault) f h = h

pub nothing_above : (slots : List Slot) (parent : Option ParentStep) → parent ≡ None → CanEnterAbove slots parent
nothing_above slots None is = tt
nothing_above slots (Some parent) is = absurd (cc)

-- what can be entered above still can, as the slots apart from another stay
pub still_above : (slots new : List Slot) (own : Own) (parent : Option ParentStep) → IfSome parent (λ p. IsApart own p.id) → ((id : ℕ) → IsApart own id → slice_get new id ≡ slice_get slots id)
    → CanEnterAbove slots parent → CanEnterAbove new parent
still_above slots new own None apart others can = tt
still_above slots new own (Some parent) apart others can = (can.0, others parent.id apart ∙ can.1, can.2, can.3, can.4)

pub room_there : {T E A : Type 0} (result : Result T E) (after : Vec Slot A) (own : Own) (id : ℕ) (slot : Slot) (group : Option (Change (List Item))) → own ≡ There id → slice_get after.items id ≡ Some slot
    → OnOk result (HasRoomFor slot.group group) → OnOk result (CanEnterOwn after own group)
room_there result after own id slot group is there room =
    subst (λ o. OnOk result (CanEnterOwn after o group)) (sym is) (on_ok result (λ has. (slot, there, has)) room)
