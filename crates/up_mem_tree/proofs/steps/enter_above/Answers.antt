use Rattle.std.proofs.Common.{◌≡◌, List, Some, get_or, refl, ap, subst, sym, ◌∙◌}
use Rattle.std.specs.Prelude.{IfSome}
use Rattle.std.proofs.Math.ListN.{set}
use Rattle.up_mem_tree.specs.Slots.{known, known_all}
use Rattle.up_mem_tree.specs.Edits.{entered_parent}
use Rattle.up_mem_tree.specs.Steps.{CanEnterAbove, stepped_above}
use Rattle.up_mem_tree.specs.declared.slots.Slot.{Slot}
use Rattle.up_mem_tree.specs.declared.steps.ParentStep.{ParentStep}
use Rattle.up_mem_tree.proofs.SlotLemmas.{changed_set, get-set, read_there}
use Rattle.up_mem_tree.proofs.steps.enter_above.Goals as goal

stepped_some : (slots : List Slot) (parent : ParentStep) (slot new : Slot) → CanEnterAbove slots (Some parent) → slot ≡ get_or slots parent.id slot → known new ≡ entered_parent parent.named parent.children parent.access (known slot)
    → known_all (set slots parent.id new) ≡ stepped_above (Some parent) (known_all slots)
unfolding stepped_above
stepped_some slots parent slot new can is entered =
    changed_set slots parent.id can.0 new (entered_parent parent.named parent.children parent.access) can.1
    (entered ∙ ap (λ s. entered_parent parent.named parent.children parent.access (known s)) (sym (read_there slots parent.id can.0 slot can.1 is)))

pub returns-in-Some : goal.returns-in-Some
returns-in-Some c = record {
  slots = stepped_some c.args.slots.now.items c.in-Some.parent c.index_mut.result.now c.enter_parent.new.slot (subst (CanEnterAbove c.args.slots.now.items) c.in-Some.is c.requires) c.index_mut.ensures.value c.enter_parent.ensures
      ∙ ap (λ p. stepped_above p (known_all c.args.slots.now.items)) (sym c.in-Some.is);
  others = λ id apart. get-set c.args.slots.now.items c.in-Some.parent.id id c.enter_parent.new.slot (subst (λ o. IfSome o (λ (p : ParentStep). p.id ≡ id → ⊥)) c.in-Some.is apart);
  len = refl;
  room = refl;
}

pub returns-in_default-clause-slots : goal.returns-in_default-clause-slots
unfolding stepped_above
returns-in_default-clause-slots c = sym (ap (λ p. stepped_above p (known_all c.args.slots.now.items)) c.in_default.is)
