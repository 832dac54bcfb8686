-- Slots keep their numbers as records come.
use Rattle.std.proofs.Common.{◌≡◌, ℕ, List, [], ◌∷◌, length, refl, sym, subst, ◌∙◌, arith, Option, Some, None}
use Rattle.std.proofs.lemmas.List.{length-append}
use Rattle.up_access.specs.declared.Rule.{Rule}
use Rattle.up_names.specs.declared.items.Item.{Item}
use Rattle.up_mem_tree.specs.declared.edits.Edit.{Edit}
use Rattle.up_mem_tree.specs.declared.history.Change.{Change}
use Rattle.up_mem_tree.specs.declared.steps.Own.{Own}
use Rattle.up_mem_tree.specs.declared.steps.Own.TheVariants.{There, New}
use Rattle.up_mem_tree.specs.declared.steps.ParentStep.{ParentStep}
use Rattle.up_mem_tree.specs.declared.steps.Step.{Step}
use Rattle.up_mem_tree.specs.Edits.{entered_own, entered_parent}
use Rattle.up_mem_tree.specs.Slots.{KeepsNumbers, Known, known, path_in}
use Rattle.up_mem_tree.specs.Steps.{stepped, stepped_above, stepped_own}
use Rattle.up_mem_tree.proofs.Entered.{own_keeps}
use Rattle.up_mem_tree.proofs.Links.{length-changed, path-changed, path-front}

pub numbers_same : (slots : List Known) → KeepsNumbers slots slots
numbers_same slots = record { same = λ id path is. is; more = omega arith; few = omega arith }

pub numbers_as : (old mid new : List Known) → KeepsNumbers old mid → new ≡ mid → KeepsNumbers old new
numbers_as old mid new keeps is = subst (KeepsNumbers old) (sym is) keeps

parent_path : (named children : Edit) (access : Option (Change (List Rule))) (slot : Known) → (entered_parent named children access slot).path ≡ slot.path
unfolding entered_parent
parent_path named children access slot = refl

-- what changes in the directory moves no slot
above_path : (above : Option ParentStep) (slots : List Known) (id : ℕ) → path_in (stepped_above above slots) id ≡ path_in slots id
unfolding stepped_above
above_path None slots id = refl
above_path (Some parent) slots id = path-changed parent.id (entered_parent parent.named parent.children parent.access) slots (parent_path parent.named parent.children parent.access) id

above_long : (above : Option ParentStep) (slots : List Known) → length (stepped_above above slots) ≡ length slots
unfolding stepped_above
above_long None slots = refl
above_long (Some parent) slots = length-changed parent.id (entered_parent parent.named parent.children parent.access) slots

-- and what changes at the path puts at most one behind them
own_numbers : (own : Own) (position : ℕ) (group : Option (Change (List Item))) (slots : List Known) → KeepsNumbers slots (stepped_own own position group slots)
unfolding stepped_own
own_numbers (There id) position group slots = record {
  same = λ i path is. path-changed id (entered_own position group) slots ((own_keeps position group).path) i ∙ is;
  more = let long = length-changed id (entered_own position group) slots in omega (arith, long);
  few = let long = length-changed id (entered_own position group) slots in omega (arith, long);
}
own_numbers (New slot) position group slots = record {
  same = λ i path is. path-front slots (entered_own position group (known slot)) i path is;
  more = let long = length-append slots (entered_own position group (known slot) ∷ []) in omega (arith, long);
  few = let long = length-append slots (entered_own position group (known slot) ∷ []) in omega (arith, long);
}

pub stepped_numbers : (step : Step) (slots : List Known) → KeepsNumbers slots (stepped step slots)
stepped_numbers step slots =
    let own = own_numbers step.own step.position step.group (stepped_above step.parent slots) in
    let long = above_long step.parent slots in
    record {
      same = λ id path is. own.same id path (above_path step.parent slots id ∙ is);
      more = let more = own.more in omega (arith, more, long);
      few = let few = own.few in omega (arith, few, long);
    }
