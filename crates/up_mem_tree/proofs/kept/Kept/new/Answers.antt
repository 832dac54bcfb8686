use Rattle.up_mem_tree.proofs.Begun.{stands_empty}
use Rattle.up_mem_tree.proofs.kept.Kept.new.Goals as goal

pub returns-clause-stands : goal.returns-clause-stands
returns-clause-stands c = stands_empty _ c.requires c.new.ensures.items c.new-2.ensures.items c.new-3.ensures.items c.new-4.ensures
