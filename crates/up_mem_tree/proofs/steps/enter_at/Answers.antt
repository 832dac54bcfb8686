use Rattle.std.proofs.Common.{◌≡◌, ℕ, List, ◌∷◌, [], ◌++◌, Option, Some, get_or, ap, subst, sym, ◌∙◌}
use Rattle.std.specs.Prelude.{slice_get}
use Rattle.std.proofs.Math.ListN.{set}
use Rattle.up_names.specs.declared.items.Item.{Item}
use Rattle.up_mem_tree.specs.Slots.{known, known_all}
use Rattle.up_mem_tree.specs.Edits.{entered_own}
use Rattle.up_mem_tree.specs.Steps.{CanEnterOwn, stepped_own}
use Rattle.up_mem_tree.specs.declared.history.Change.{Change}
use Rattle.up_mem_tree.specs.declared.slots.Slot.{Slot}
use Rattle.up_mem_tree.specs.declared.steps.Own.TheVariants.{There, New}
use Rattle.up_mem_tree.proofs.SlotLemmas.{changed_set, known-push, read_there}
use Rattle.up_mem_tree.proofs.steps.enter_at.Goals as goal

at_there : (slots : List Slot) (id : ℕ) (other slot new : Slot) (position : ℕ) (group : Option (Change (List Item))) → slice_get slots id ≡ Some other → slot ≡ get_or slots id slot → known new ≡ entered_own position group (known slot)
    → known_all (set slots id new) ≡ stepped_own (There id) position group (known_all slots)
unfolding stepped_own
at_there slots id other slot new position group there is entered =
    changed_set slots id other new (entered_own position group) there (entered ∙ ap (λ s. entered_own position group (known s)) (sym (read_there slots id other slot there is)))

at_new : (slots more : List Slot) (old new : Slot) (position : ℕ) (group : Option (Change (List Item))) → more ≡ slots ++ new ∷ [] → known new ≡ entered_own position group (known old)
    → known_all more ≡ stepped_own (New old) position group (known_all slots)
unfolding stepped_own
at_new slots more old new position group is entered = ap known_all is ∙ known-push slots new ∙ ap (λ k. known_all slots ++ k ∷ []) entered

pub returns-in-There : goal.returns-in-There
returns-in-There c =
    let can = subst (λ own. CanEnterOwn c.args.slots.now own c.args.group) c.in-There.is c.requires in
    at_there c.args.slots.now.items c.in-There.id can.0 c.index_mut.result.now c.enter_own.new.slot c.args.position c.args.group can.1 c.index_mut.ensures.value c.enter_own.ensures
    ∙ ap (λ own. stepped_own own c.args.position c.args.group (known_all c.args.slots.now.items)) (sym c.in-There.is)

pub returns-in-New : goal.returns-in-New
returns-in-New c =
    at_new c.args.slots.now.items c.push_reserved.new.self.items c.in-New.slot c.enter_own-in-New.new.slot c.args.position c.args.group c.push_reserved.ensures.items c.enter_own-in-New.ensures
    ∙ ap (λ own. stepped_own own c.args.position c.args.group (known_all c.args.slots.now.items)) (sym c.in-New.is)
