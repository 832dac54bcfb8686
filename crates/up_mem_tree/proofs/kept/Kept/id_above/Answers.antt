use Rattle.std.proofs.Common.{ap, ◌∙◌}
use Rattle.std.specs.Prelude.{slice_get}
use Rattle.up_mem_tree.proofs.Upward.{parent_missing, parent_read}
use Rattle.up_mem_tree.proofs.kept.Kept.id_above.Goals as goal

pub returns-in-Some : goal.returns-in-Some
returns-in-Some c = λ path at.
    parent_read c.args.self.now c.requires.stands path c.args.id c.in-Some.slot.now at (c.in-Some.ensures ∙ ap (λ l. slice_get l c.args.id) c.as_slice.ensures.value)

pub returns-in-None : goal.returns-in-None
returns-in-None c = λ path at.
    parent_missing c.args.self.now c.requires.stands path c.args.id at (c.in-None.ensures ∙ ap (λ l. slice_get l c.args.id) c.as_slice.ensures.value)
