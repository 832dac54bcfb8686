use Rattle.std.proofs.Common.{◌≡◌, ℕ, List, Option, Some, None, ◌∙◌, arith}
use Rattle.std.specs.Prelude.{IfSome, Vec, slice_get}
use Rattle.std.specs.Vec.{vec_capacity, vec_len}
use Rattle.up_names.specs.declared.items.Item.{Item}
use Rattle.up_mem_tree.specs.Steps.{CanEnterOwn, IsApart}
use Rattle.up_mem_tree.specs.declared.history.Change.{Change}
use Rattle.up_mem_tree.specs.declared.slots.Slot.{Slot}
use Rattle.up_mem_tree.specs.declared.steps.Own.{Own}
use Rattle.up_mem_tree.specs.declared.steps.Own.TheVariants.{There, New}
use Rattle.up_mem_tree.specs.declared.steps.ParentStep.{ParentStep}
use Rattle.up_mem_tree.proofs.steps.enter_step.Goals as goal

still : {A : Type 0} (old new : Vec Slot A) (own : Own) (group : Option (Change (List Item))) (parent : Option ParentStep) → CanEnterOwn old own group → IfSome parent (λ p. IsApart own p.id)
    → ((id : ℕ) → IfSome parent (λ p. p.id ≡ id → ⊥) → slice_get new.items id ≡ slice_get old.items id) → vec_len new ≡ vec_len old → vec_capacity new ≡ vec_capacity old → CanEnterOwn new own group
still old new (There id) group parent can apart others len room = (can.0, others id (go parent apart) ∙ can.1, can.2)
  where
    go : (parent : Option ParentStep) → IfSome parent (λ p. IsApart (There id) p.id) → IfSome parent (λ p. p.id ≡ id → ⊥)
    go None h = h
    go (Some p) h = h
still old new (New slot) group parent can apart others len room = (can.0, omega (arith, can.1, len, room))

pub enter_at-requires : goal.enter_at-requires
enter_at-requires c =
    still c.args.slots.now c.enter_above.new.slots c.args.step.own c.args.step.group c.args.step.parent c.requires.own c.requires.apart c.enter_above.ensures.others c.enter_above.ensures.len c.enter_above.ensures.room
