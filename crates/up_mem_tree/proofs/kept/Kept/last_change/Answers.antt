use Rattle.std.proofs.Common.{◌∙◌}
use Rattle.up_mem_tree.proofs.Nameds.{change_told, no_change}
use Rattle.up_mem_tree.proofs.kept.Kept.last_change.Goals as goal

pub returns-in-Some : goal.returns-in-Some
returns-in-Some c = c.if_any.ensures ∙ change_told c.args.self.now c.requires c.args.path.now c.in-Some.slot.now c.in-Some.ensures

pub returns-in-None : goal.returns-in-None
returns-in-None c = no_change c.args.self.now c.requires c.args.path.now c.in-None.ensures
