use Rattle.std.proofs.Common.{ap, ◌∙◌}
use Rattle.up_policy.specs.Reached.{with_path}
use Rattle.up_policy.proofs.MetLemmas.{paths_of, paths_insert}
use Rattle.up_policy.proofs.met.Met.add.Goals as goal

pub returns : goal.returns
returns c = ap paths_of c.in_ok-insert.ensures.keys ∙ (paths_insert c.self.inside.groups.keys c.args.group ∙ ap (λ met. with_path met c.args.group.now) c.self.view_is)
