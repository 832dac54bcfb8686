use Rattle.std.proofs.Common.{◌≡◌, refl, sym, subst, ◌∙◌}
use Rattle.std.specs.Prelude.{OnOk}
use Rattle.std.specs.List.{flat_map}
use Rattle.up_policy.specs.Reached.{with_paths}
use Rattle.up_foreign.specs.Foreign.{needed_in}
use Rattle.up_foreign.specs.Trees.{log_over}
use Rattle.up_foreign.proofs.WatchLemmas.{above_places, items_places, means, no_places}
use Rattle.up_foreign.proofs.needed.note_watched.Goals as goal

pub returns-in-Above : goal.returns-in-Above
returns-in-Above c = λ limits.
    subst (λ ps. OnOk c.note_events.result (c.note_events.new.names ≡ with_paths c.args.names.now (flat_map (needed_in c.args.tree.now.owner c.args.loaded.now) ps)))
    (sym (above_places (log_over limits c.args.tree.now) c.args.path.now c.args.sequence c.in-Above.above (means c.args.sequence c.ranges.sequence c.looked_at.result c.looked_at.ensures ∙ c.in-Above.is))) (c.note_events.ensures limits)

pub returns-in-Items : goal.returns-in-Items
returns-in-Items c = λ limits.
    subst (λ ps. OnOk c.note_under.result (c.note_under.new.names ≡ with_paths c.args.names.now (flat_map (needed_in c.args.tree.now.owner c.args.loaded.now) ps)))
    (sym (items_places (log_over limits c.args.tree.now) c.args.path.now c.args.sequence (means c.args.sequence c.ranges.sequence c.looked_at.result c.looked_at.ensures ∙ c.in-Items.is))) c.note_under.ensures

pub returns-in-Nothing : goal.returns-in-Nothing
returns-in-Nothing c = λ limits.
    subst (λ ps. c.args.names.now ≡ with_paths c.args.names.now (flat_map (needed_in c.args.tree.now.owner c.args.loaded.now) ps))
    (sym (no_places (log_over limits c.args.tree.now) c.args.path.now c.args.sequence (means c.args.sequence c.ranges.sequence c.looked_at.result c.looked_at.ensures ∙ c.in-Nothing.is))) refl
