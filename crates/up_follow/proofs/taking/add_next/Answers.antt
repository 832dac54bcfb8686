use Rattle.std.proofs.Common.{sym, ◌∙◌}
use Rattle.up_lists.proofs.Causes.{HasCause-same}
use Rattle.up_follow.proofs.TakingLemmas.{strange_not_io, takes_strange, undecoded_none}
use Rattle.up_follow.proofs.taking.add_next.Goals as goal

pub returns-in-Ok-Some-clause-takes : goal.returns-in-Ok-Some-clause-takes
returns-in-Ok-Some-clause-takes g c = c.add_fitting.ensures.takes c.args.text.now (sym c.in-Ok-Some.ensures ∙ c.in-Ok-Some.field-0-is)

pub returns-in-Ok-None-clause-takes : goal.returns-in-Ok-None-clause-takes
returns-in-Ok-None-clause-takes g c =
    takes_strange g.D.Disk c.args.tree.now c.args.text.now c.strange.result c.position.result c.position.ensures.count c.strange.ensures
    (undecoded_none c.args.tree.now.owner c.args.tree.now.log c.args.text.now (sym c.in-Ok-None.ensures ∙ c.in-Ok-None.field-0-is))

pub returns-in-Ok-None-clause-cause : goal.returns-in-Ok-None-clause-cause
returns-in-Ok-None-clause-cause g c = HasCause-same (g.D.Disk.faults c.args.tree.now.disk) _ (λ io. absurd (strange_not_io c.strange.result c.position.result c.strange.ensures io))
