use Rattle.std.proofs.Common.{rules, ◌≡◌, ◌∷◌, sym, subst, w64, to_z, of_z}
use Rattle.std.specs.Prelude.{OnOk}
use Rattle.std.specs.List.{flat_map}
use Rattle.up_answers.specs.Needs.{places, watch_places}
use Rattle.up_policy.specs.Reached.{with_paths}
use Rattle.up_log_tree.specs.Trees.{tree_of}
use Rattle.up_foreign.specs.Foreign.{needed_in}
use Rattle.up_foreign.specs.Trees.{log_over}
use Rattle.up_foreign.proofs.needed.note_for_others.Goals as goal

pub returns-in-Watch-clause-added : goal.returns-in-Watch-clause-added
unfolding places
returns-in-Watch-clause-added c = λ limits.
    let same : to_z w64 (of_z w64 c.in-Watch.sequence) ≡ c.in-Watch.sequence = search rules in
    subst (λ asked. OnOk c.note_watch.result (c.note_watch.new.names ≡ with_paths c.args.names.now (flat_map (needed_in c.args.tree.now.owner c.args.loaded.now) (places (log_over limits c.args.tree.now) asked))))
    (sym c.in-Watch.is)
    (subst (λ sequence. OnOk c.note_watch.result (c.note_watch.new.names ≡ with_paths c.args.names.now (flat_map (needed_in c.args.tree.now.owner c.args.loaded.now)
    ((tree_of c.args.tree.now.log, c.in-Watch.path) ∷ watch_places (log_over limits c.args.tree.now) c.in-Watch.path sequence)))) same (c.note_watch.ensures.added limits))
