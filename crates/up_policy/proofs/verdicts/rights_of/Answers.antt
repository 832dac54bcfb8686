use Rattle.up_policy.proofs.VerdictLemmas.{rights_mean_ok}
use Rattle.up_policy.proofs.verdicts.rights_of.Goals as goal

pub returns-clause-meaning : goal.returns-clause-meaning
returns-clause-meaning g c =
    rights_mean_ok (g.F.Facts.tree c.args.facts.now) (g.F.Facts.group_paths c.args.facts.now) c.args.loaded.now c.args.user.now c.args.path.now
    (g.met.F.Facts.groups_listed c.args.facts.now) c.rights_held.result c.rights_held.ensures
