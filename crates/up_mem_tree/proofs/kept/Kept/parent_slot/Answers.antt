use Rattle.std.specs.Option.{option_copied}
use Rattle.up_names.specs.PathNames.{parent_of}
use Rattle.up_mem_tree.proofs.Placed.{own_of_parent}
use Rattle.up_mem_tree.proofs.kept.Kept.parent_slot.Goals as goal

pub returns : goal.returns
returns c = λ path is. own_of_parent c.args.self.now (parent_of path) c.args.parent (option_copied c.slot_with.result) is c.slot_with.ensures
