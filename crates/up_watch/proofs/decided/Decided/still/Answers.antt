use Rattle.std.proofs.Common.{sym, subst, ap, ◌∙◌}
use Rattle.up_mem_tree.specs.Groups.{StayTexts}
use Rattle.up_watch.proofs.DecidedLemmas.{decided_still}
use Rattle.up_watch.proofs.decided.Decided.still.Goals as goal

-- the texts are the same
pub returns-then-texts_stay : goal.returns-then-texts_stay
returns-then-texts_stay c =
    let w = c.args.reader.now in
    decided_still w c.args.self.now c.args.dir.now c.args.control c.args.n c.in-Some.given c.requires.decided (sym c.in-Some.is ∙ c.of.ensures)
    (subst (λ owner. StayTexts owner w.log c.args.dir.now c.in-Some.given.at c.args.n) c.tree.ensures.owner
    (subst (λ log. StayTexts c.tree.result.now.owner log c.args.dir.now c.in-Some.given.at c.args.n) c.tree.ensures.log (c.texts_stay.ensures c.if-texts_stay.true)))
