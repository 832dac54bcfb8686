use Rattle.std.proofs.Common.{ap, subst, ◌∙◌}
use Rattle.std.specs.Prelude.{slice_get}
use Rattle.std.specs.Option.{option_copied}
use Rattle.up_mem_tree.specs.Kept.{paths_of, slots_of}
use Rattle.up_mem_tree.specs.Slots.{IsIdOf}
use Rattle.up_mem_tree.proofs.Readings.{own_read}
use Rattle.up_mem_tree.proofs.kept.Kept.slot_with.Goals as goal

pub returns-in-Some : goal.returns-in-Some
returns-in-Some c = λ path is.
    let self = c.args.self.now in
    own_read self c.requires path c.in-Some.id (option_copied c.slot_at.result) (subst (IsIdOf (paths_of self) (slots_of self) path) c.in-Some.is is)
    (c.slot_at.ensures ∙ ap (λ l. slice_get l c.in-Some.id) c.as_slice.ensures.value)
