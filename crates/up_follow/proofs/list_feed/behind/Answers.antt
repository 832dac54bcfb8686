use Rattle.std.proofs.Common.{drop, ap, ◌∙◌}
use Rattle.std.proofs.lemmas.List.{drop_min}
use Rattle.up_follow.proofs.list_feed.behind.Goals as goal

pub returns : goal.returns
returns c = c.split_at.ensures.back ∙ (ap (λ k. drop k c.args.records.now) c.min.ensures ∙ drop_min c.args.from c.args.records.now)
