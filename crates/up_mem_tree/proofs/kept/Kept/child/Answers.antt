use Rattle.std.proofs.Common.{ap, sym, ◌∙◌}
use Rattle.std.specs.Option.{option_copied}
use Rattle.up_mem_tree.specs.Slots.{known_all, path_in}
use Rattle.up_mem_tree.proofs.Readings.{child_is, child_none, no_child_there}
use Rattle.up_mem_tree.proofs.kept.Kept.child.Goals as goal

pub returns-in-Some-get : goal.returns-in-Some-get
returns-in-Some-get c =
    c.path_in.ensures ∙ ap (λ l. path_in (known_all l) c.in-Some-get.id.now) c.as_slice.ensures.value
    ∙ child_is c.args.self.now c.requires c.args.dir.now c.in-Some.slot.now c.args.i c.in-Some-get.id.now c.in-Some.ensures (sym (ap option_copied c.in-Some-get.is) ∙ c.get.ensures)

pub returns-in-None-get : goal.returns-in-None-get
returns-in-None-get c = child_none c.args.self.now c.requires c.args.dir.now c.in-Some.slot.now c.args.i c.in-Some.ensures (sym (ap option_copied c.in-None-get.is) ∙ c.get.ensures)

pub returns-in-None : goal.returns-in-None
returns-in-None c = no_child_there c.args.self.now c.requires c.args.dir.now c.args.i c.in-None.ensures
