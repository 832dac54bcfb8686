use Rattle.std.proofs.Common.{◌≡◌, ℕ, List, Option, Some, None, refl, ap, sym, ◌∙◌}
use Rattle.std.specs.Prelude.{slice_get, unwrap_or}
use Rattle.std.specs.Option.{option_copied, option_map}
use Rattle.up_mem_tree.specs.Slots.{Known, known, known_all}
use Rattle.up_mem_tree.specs.Steps.{last_before}
use Rattle.up_mem_tree.specs.declared.slots.Slot.{Slot}
use Rattle.up_mem_tree.specs.declared.steps.Own.TheVariants.{There}
use Rattle.up_mem_tree.proofs.SlotLemmas.{known_at}
use Rattle.up_mem_tree.proofs.steps.last_before.Goals as goal

before_there : (slots : List Slot) (id : ℕ) (o : Option Slot) → o ≡ slice_get slots id → unwrap_or (option_map (λ (slot : Slot). slot.last) o) 0 ≡ last_before (There id) (known_all slots)
unfolding known
before_there slots id o is =
    go o ∙ ap (λ (o : Option Slot). unwrap_or (option_map (λ (slot : Known). slot.last) (option_map known o)) 0) is ∙ ap (λ o. unwrap_or (option_map (λ (slot : Known). slot.last) o) 0) (sym (known_at slots id))
  where
    go : (o : Option Slot) → unwrap_or (option_map (λ (slot : Slot). slot.last) o) 0 ≡ unwrap_or (option_map (λ (slot : Known). slot.last) (option_map known o)) 0
    go None = refl
    go (Some slot) = refl

pub returns-in-Some : goal.returns-in-Some
returns-in-Some c =
    before_there c.args.slots.now c.in-There.id (Some c.in-Some.slot.now) (sym (ap option_copied c.in-Some.is) ∙ c.slot_at.ensures) ∙ ap (λ own. last_before own (known_all c.args.slots.now)) (sym c.in-There.is)

pub returns-in-None : goal.returns-in-None
returns-in-None c =
    before_there c.args.slots.now c.in-There.id None (sym (ap option_copied c.in-None.is) ∙ c.slot_at.ensures) ∙ ap (λ own. last_before own (known_all c.args.slots.now)) (sym c.in-There.is)
