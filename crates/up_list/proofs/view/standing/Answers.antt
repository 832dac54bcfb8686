use Rattle.std.proofs.Common.{ap, ◌∙◌}
use Rattle.std.specs.Option.{option_map}
use Rattle.up_list.specs.Entries.{entry_of}
use Rattle.up_log_tree.specs.Trees.{tree_of}
use Rattle.up_list.proofs.ViewLemmas.{on_way}
use Rattle.up_list.proofs.view.standing.Goals as goal

pub returns : goal.returns
returns c = ap (option_map entry_of) c.standing.ensures ∙ on_way (tree_of c.args.tree.now.log) c.args.path.now
