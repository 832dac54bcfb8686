use Rattle.std.proofs.Common.{sym, ◌∙◌}
use Rattle.up_mem_tree.proofs.Tested.{fits_rules}
use Rattle.up_tree.proofs.replay.add_fitting.Goals as goal

pub add-requires : goal.add-requires
add-requires c = fits_rules c.args.tree.now.owner c.args.tree.now.log c.args.rec (sym c.in-Ok-true.ensures ∙ c.in-Ok-true.field-0-test)
