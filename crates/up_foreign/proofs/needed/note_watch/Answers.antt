use Rattle.std.proofs.Common.{◌≡◌, subst}
use Rattle.std.specs.List.{flat_map}
use Rattle.up_answers.specs.Needs.{watch_places}
use Rattle.up_foreign.proofs.NotedLemmas.{none_noted}
use Rattle.up_foreign.proofs.PlaceLemmas.{noted_more}
use Rattle.up_foreign.proofs.WatchLemmas.{same_number}
use Rattle.up_foreign.specs.Foreign.{needed_in}
use Rattle.up_foreign.specs.Trees.{log_over}
use Rattle.up_log_tree.specs.Trees.{tree_of}
use Rattle.up_policy.specs.Reached.{with_paths}
use Rattle.up_foreign.proofs.needed.note_watch.Goals as goal

pub note_kept-requires-clause-noted : goal.note_kept-requires-clause-noted
note_kept-requires-clause-noted c = none_noted c.args.tree.now c.args.loaded.now c.new-noted.result c.args.names.now c.new-noted.ensures

pub returns-clause-added : goal.returns-clause-added
returns-clause-added c = λ limits.
    noted_more (needed_in c.args.tree.now.owner c.args.loaded.now) c.args.names.now c.note_kept.new.names c.note_watched.new.names (tree_of c.args.tree.now.log, c.args.path.now)
    (watch_places (log_over limits c.args.tree.now) c.args.path.now c.args.sequence) c.in_ok-note_kept.ensures.added
    (subst (λ sequence. c.note_watched.new.names ≡ with_paths c.note_kept.new.names (flat_map (needed_in c.args.tree.now.owner c.args.loaded.now) (watch_places (log_over limits c.args.tree.now) c.args.path.now sequence)))
    (same_number c.args.sequence c.ranges.sequence) (c.in_ok-note_watched.ensures limits))
