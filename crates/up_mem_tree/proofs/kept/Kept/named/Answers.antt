use Rattle.std.proofs.Common.{ap, sym, ◌∙◌}
use Rattle.std.specs.Prelude.{slice_get}
use Rattle.std.specs.Option.{option_copied}
use Rattle.up_mem_tree.specs.Slots.{known_all, path_in}
use Rattle.up_mem_tree.proofs.Nameds.{named_is, named_none, nothing_in, slot_missing}
use Rattle.up_mem_tree.proofs.kept.Kept.named.Goals as goal

pub returns-in_default : goal.returns-in_default
returns-in_default c = nothing_in c.args.self.now c.requires c.args.dir.now c.args.i c.in_default.ensures

pub returns-in_default-slot_at : goal.returns-in_default-slot_at
returns-in_default-slot_at c =
    slot_missing c.args.self.now c.requires c.args.dir.now c.in-Some.id c.args.i c.in-Some.ensures
    (sym (ap option_copied c.in_default-slot_at.is) ∙ c.slot_at.ensures ∙ ap (λ l. slice_get l c.in-Some.id) c.as_slice.ensures.value)

pub returns-in-Some-get : goal.returns-in-Some-get
returns-in-Some-get c =
    c.path_in.ensures ∙ ap (λ l. path_in (known_all l) c.in-Some-get.id.now) c.as_slice-in-Some-get.ensures.value
    ∙ named_is c.args.self.now c.requires c.args.dir.now c.in-Some.id c.in-Some-slot_at.slot.now c.in-Some.ensures
    (sym (sym (ap option_copied c.in-Some-slot_at.is) ∙ c.slot_at.ensures ∙ ap (λ l. slice_get l c.in-Some.id) c.as_slice.ensures.value)) c.args.i c.in-Some-get.id.now (sym (ap option_copied c.in-Some-get.is) ∙ c.get.ensures)

pub returns-in-None : goal.returns-in-None
returns-in-None c =
    named_none c.args.self.now c.requires c.args.dir.now c.in-Some.id c.in-Some-slot_at.slot.now c.in-Some.ensures
    (sym (sym (ap option_copied c.in-Some-slot_at.is) ∙ c.slot_at.ensures ∙ ap (λ l. slice_get l c.in-Some.id) c.as_slice.ensures.value)) c.args.i c.in-None.ensures
