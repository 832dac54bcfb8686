use Rattle.up_mem_tree.specs.Others.{named_by}
use Rattle.up_mem_tree.proofs.Othered.{access_told}
use Rattle.up_mem_tree.proofs.others.add_access.Goals as goal

pub returns-in-Some-text-clause-added : goal.returns-in-Some-text-clause-added
returns-in-Some-text-clause-added c =
    access_told c.args.owner.now c.add_rules.result (named_by c.add_rules.new.others c.args.position) c.args.access.now c.in-Some.change c.in-Some-text.text c.rules.result.now c.in-Some.is c.in-Some-text.is c.rules.ensures c.add_rules.ensures.added
