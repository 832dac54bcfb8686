use Rattle.std.proofs.Common.{take, ap, ◌∙◌}
use Rattle.std.proofs.lemmas.List.{take_min}
use Rattle.up_follow.proofs.list_feed.first_of.Goals as goal

pub returns : goal.returns
returns c = c.split_at.ensures.front ∙ (ap (λ k. take k c.args.records.now) c.min.ensures ∙ take_min 64 c.args.records.now)
