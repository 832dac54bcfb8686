use Rattle.std.proofs.Common.{◌≡◌, sym, subst}
use Rattle.std.specs.Prelude.{OnOk}
use Rattle.std.specs.List.{flat_map}
use Rattle.up_answers.specs.Needs.{owner_places}
use Rattle.up_policy.specs.Reached.{with_paths}
use Rattle.up_foreign.specs.Foreign.{needed_in}
use Rattle.up_foreign.specs.Trees.{log_over}
use Rattle.up_foreign.proofs.needed.note_for_owner.Goals as goal

pub returns-in-Delete-clause-added : goal.returns-in-Delete-clause-added
unfolding owner_places
returns-in-Delete-clause-added c = λ limits.
    subst (λ asked. OnOk c.note_ordinary.result (c.note_ordinary.new.names ≡ with_paths c.args.names.now (flat_map (needed_in c.args.tree.now.owner c.args.loaded.now) (owner_places (log_over limits c.args.tree.now) asked))))
    (sym c.in-Delete.is) (c.note_ordinary.ensures.added limits)

pub returns-in-Put-clause-added : goal.returns-in-Put-clause-added
unfolding owner_places
returns-in-Put-clause-added c = λ limits.
    subst (λ asked. OnOk c.note_ordinary-in-Put.result (c.note_ordinary-in-Put.new.names ≡ with_paths c.args.names.now (flat_map (needed_in c.args.tree.now.owner c.args.loaded.now) (owner_places (log_over limits c.args.tree.now) asked))))
    (sym c.in-Put.is) (c.note_ordinary-in-Put.ensures.added limits)
