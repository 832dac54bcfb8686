use Rattle.std.proofs.Common.{sym, subst}
use Rattle.std.specs.Prelude.{Contains}
use Rattle.up_mem_tree.proofs.InOrder.{after_all, rest_is}
use Rattle.up_mem_tree.proofs.gone.Gone.after.Goals as goal

pub returns : goal.returns
returns c = λ text there later.
    let texts = c.self.inside.texts.items in
    after_all texts _ c.loop-low.low c.args.above (rest_is texts c.deref.result.now c.loop-low.low c.deref.ensures.value) c.loop-low.invariant.2 text (subst (λ l. Contains l text) (sym c.self.view_is) there) later
