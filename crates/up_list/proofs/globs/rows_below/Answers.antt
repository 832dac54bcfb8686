use Rattle.std.proofs.Common.{ap, ◌∙◌}
use Rattle.up_names.specs.PathNames.{PathName}
use Rattle.up_list.proofs.FrontLemmas.{front_owner}
use Rattle.up_list.proofs.globs.rows_below.Goals as goal

pub walk_from-requires-clause-owned : goal.walk_from-requires-clause-owned
walk_from-requires-clause-owned g c = ap (λ (p : PathName). p.owner) c.requires.front ∙ (front_owner c.args.pattern.now ∙ c.requires.owned)
