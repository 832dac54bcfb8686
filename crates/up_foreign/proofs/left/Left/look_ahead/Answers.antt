use Rattle.std.proofs.Common.{sym, subst}
use Rattle.up_foreign.specs.Reaching.{MayCover}
use Rattle.up_foreign.specs.declared.left.Left.{Left}
use Rattle.up_foreign.proofs.LeftLemmas.{may_cover_any}
use Rattle.up_foreign.proofs.left.Left.look_ahead.Goals as goal

pub returns : goal.returns
returns c = λ names may.
    subst (λ (left : Left). MayCover c.args.tree.now c.args.loaded.now c.args.range.path.now c.args.range.above left names) (sym c.replace.ensures.after)
    (may_cover_any c.args.tree.now c.args.loaded.now c.args.range.path.now c.args.range.above c.in_ok-left.left names c.in_ok-left.ensures)
