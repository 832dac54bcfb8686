use Rattle.std.proofs.Common.{ap, ◌∙◌}
use Rattle.up_names.specs.PathNames.{PathName}
use Rattle.up_list.proofs.FrontLemmas.{front_owner}
use Rattle.up_list.proofs.globs.glob_for.Goals as goal

pub one_row-reply-requires : goal.one_row-reply-requires
one_row-reply-requires g c = ap (λ (p : PathName). p.owner) c.in_ok-front.ensures ∙ (front_owner c.args.pattern.now ∙ c.requires)
