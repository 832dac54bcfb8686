use Rattle.up_policy.proofs.VerdictLemmas.{answer_means_ok}
use Rattle.up_policy.proofs.verdicts.can.Goals as goal

pub returns-clause-meaning : goal.returns-clause-meaning
returns-clause-meaning g c =
    answer_means_ok (g.F.Facts.tree c.args.facts.now) (g.F.Facts.group_paths c.args.facts.now) c.args.loaded.now c.args.user.now c.args.path.now
    (g.met.F.Facts.groups_listed c.args.facts.now) c.args.right c.right_test.result c.right_test.ensures
