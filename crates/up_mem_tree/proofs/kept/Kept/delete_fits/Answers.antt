use Rattle.std.proofs.Common.{◌∙◌}
use Rattle.up_mem_tree.proofs.Placed.{deletable, not_deletable}
use Rattle.up_mem_tree.proofs.kept.Kept.delete_fits.Goals as goal

pub returns-in-None : goal.returns-in-None
returns-in-None c = not_deletable c.args.self.now c.requires c.args.path.now c.in-None.ensures

pub returns-in-Some : goal.returns-in-Some
returns-in-Some c = c.is_bare.ensures ∙ deletable c.args.self.now c.requires c.args.path.now c.in-Some.slot.now c.node_of_slot.result (c.node_of_slot.ensures c.args.path.now c.in-Some.ensures) c.in-Some.ensures
