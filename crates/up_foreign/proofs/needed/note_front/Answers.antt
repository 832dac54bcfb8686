use Rattle.std.proofs.Common.{map}
use Rattle.std.specs.Map.{keys_of}
use Rattle.up_foreign.proofs.NotedLemmas.{none_noted}
use Rattle.up_foreign.proofs.PlaceLemmas.{noted_more}
use Rattle.up_foreign.specs.Foreign.{in_tree, needed_in}
use Rattle.up_log_tree.specs.Trees.{tree_of}
use Rattle.up_foreign.proofs.needed.note_front.Goals as goal

pub note_kept-requires-clause-noted : goal.note_kept-requires-clause-noted
note_kept-requires-clause-noted c = none_noted c.args.tree.now c.args.loaded.now c.new-noted.result c.args.names.now c.new-noted.ensures

pub returns-clause-added : goal.returns-clause-added
returns-clause-added c =
    noted_more (needed_in c.args.tree.now.owner c.args.loaded.now) c.args.names.now c.note_kept.new.names c.note_each.new.names (in_tree (tree_of c.args.tree.now.log) c.args.front.now)
    (map (in_tree (tree_of c.args.tree.now.log)) (keys_of c.args.items.now.entries)) c.in_ok-note_kept.ensures.added c.in_ok-note_each.ensures
