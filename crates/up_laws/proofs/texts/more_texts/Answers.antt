use Rattle.up_laws.proofs.TextLemmas.{are_rights}
use Rattle.up_laws.proofs.texts.more_texts.Goals as goal

pub returns : goal.returns
returns g c =
    are_rights (g.F.Facts.tree c.args.facts.now) c.args.less.now c.args.more.now c.args.user.now c.args.right c.args.path.now c.with_each.result c.with_each.ensures.with_less c.with_each.ensures.with_more
