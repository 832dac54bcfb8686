use Rattle.up_mem_tree.proofs.LogLaws.{told_by_rules}
use Rattle.up_mem_tree.proofs.laws.fits_is_told_by_rules.Goals as goal

pub returns : goal.returns
returns c = told_by_rules
