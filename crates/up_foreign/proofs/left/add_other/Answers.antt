use Rattle.up_foreign.proofs.LeftLemmas.{met_from, met_nowhere}
use Rattle.up_foreign.proofs.left.add_other.Goals as goal

-- it can be met at none of the changes
pub returns-in_default-clause-added : goal.returns-in_default-clause-added
returns-in_default-clause-added c =
    met_nowhere c.args.tree.now c.args.loaded.now c.args.range.path.now c.args.range.above c.args.groups.now.entries c.args.group.now c.first_naming.result c.in_default.is c.first_naming.ensures

pub returns-clause-added : goal.returns-clause-added
returns-clause-added c =
    met_from c.args.tree.now c.args.loaded.now c.args.range.path.now c.args.range.above c.add_path.result c.add_path.new.groups.entries c.in_ok-copy.copy c.args.group.now c.first_naming.result c.in-Some.first
    c.in_ok-copy.ensures.cases c.in-Some.is c.first_naming.ensures c.add_path.ensures.added
