use Rattle.std.proofs.Common.{◌≡◌, subst, sym}
use Rattle.up_foreign.proofs.KeptLemmas.{over_goes, over_keeps}
use Rattle.up_foreign.specs.Kept.{GoesOn, HasReached, Keeps}
use Rattle.up_list.specs.Seen.{Seen}
use Rattle.up_log_tree.specs.Rights.{facts_of, group_paths}
use Rattle.up_log_tree.specs.Trees.{tree_of}
use Rattle.up_policy.specs.Reached.{needed, with_paths}
use Rattle.up_foreign.proofs.kept.KeptSearch.note.Goals as goal

pub returns-clause-added : goal.returns-clause-added
returns-clause-added c =
    let tree = c.args.tree.now in
    let goes = subst (λ (v : Seen). GoesOn (facts_of v.owner (tree_of v.records)) c.args.loaded.now c.make_ready.new.self.next c.make_ready.new.self.met c.settle.new.self.next c.settle.new.self.met) c.new-view.ensures c.in_ok-settle.ensures.reached in
    let over = over_goes tree.owner tree.log c.args.loaded.now c.args.path.now c.make_ready.new.self c.settle.new.self (c.in_ok-make_ready.ensures c.args.loaded.now c.requires) c.in_ok-settle.ensures.records c.in_ok-settle.ensures.path goes in
    subst (λ (v : Seen). c.look_on.new.names ≡ with_paths c.args.names.now (needed (facts_of v.owner (tree_of v.records)) (group_paths (tree_of v.records)) c.args.loaded.now c.args.path.now)) c.new-view.ensures
    (c.in_ok-look_on.ensures.added c.args.path.now (subst (λ (v : Seen). HasReached (facts_of v.owner (tree_of v.records)) c.args.loaded.now c.args.path.now c.settle.new.self.next c.settle.new.self.met) (sym c.new-view.ensures) over.reached))

pub returns-clause-kept : goal.returns-clause-kept
returns-clause-kept c =
    let tree = c.args.tree.now in
    let goes = subst (λ (v : Seen). GoesOn (facts_of v.owner (tree_of v.records)) c.args.loaded.now c.make_ready.new.self.next c.make_ready.new.self.met c.settle.new.self.next c.settle.new.self.met) c.new-view.ensures c.in_ok-settle.ensures.reached in
    let over = over_goes tree.owner tree.log c.args.loaded.now c.args.path.now c.make_ready.new.self c.settle.new.self (c.in_ok-make_ready.ensures c.args.loaded.now c.requires) c.in_ok-settle.ensures.records c.in_ok-settle.ensures.path goes in
    subst (Keeps tree.owner tree.log c.args.loaded.now) (sym c.in_ok-look_on.ensures.same) (over_keeps tree.owner c.args.loaded.now c.args.path.now tree.log c.settle.new.self over)
