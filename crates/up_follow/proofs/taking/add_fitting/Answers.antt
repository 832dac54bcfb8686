use Rattle.std.proofs.Common.{sym, ◌∙◌}
use Rattle.up_lists.proofs.Causes.{HasCause-same, StaysUnless-same}
use Rattle.up_mem_tree.proofs.Tested.{fits_rules}
use Rattle.up_follow.proofs.TakingLemmas.{strange_not_io, takes_strange, takes_text, unfit_none}
use Rattle.up_follow.proofs.taking.add_fitting.Goals as goal

pub add-requires : goal.add-requires
add-requires g c = fits_rules c.args.tree.now.owner c.args.tree.now.log c.args.rec (sym c.in-Ok-true.ensures ∙ c.in-Ok-true.field-0-test)

pub returns-in-Ok-true-clause-takes : goal.returns-in-Ok-true-clause-takes
returns-in-Ok-true-clause-takes g c text decoded =
    takes_text g.D.Disk text c.args.rec c.args.tree.now c.add.new.tree c.add.result decoded (sym c.in-Ok-true.ensures ∙ c.in-Ok-true.field-0-test) c.add.ensures.takes

pub returns-in-Ok-false-clause-takes : goal.returns-in-Ok-false-clause-takes
returns-in-Ok-false-clause-takes g c text decoded =
    takes_strange g.D.Disk c.args.tree.now text c.strange.result c.position.result c.position.ensures.count c.strange.ensures
    (unfit_none c.args.tree.now.owner c.args.tree.now.log text c.args.rec decoded (sym c.in-Ok-false.ensures ∙ c.in-Ok-false.field-0-test))

pub returns-in-Ok-false-clause-cause : goal.returns-in-Ok-false-clause-cause
returns-in-Ok-false-clause-cause g c = HasCause-same (g.D.Disk.faults c.args.tree.now.disk) _ (λ io. absurd (strange_not_io c.strange.result c.position.result c.strange.ensures io))
