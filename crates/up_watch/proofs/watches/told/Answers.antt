use Rattle.std.proofs.Common.{◌≡◌, subst}
use Rattle.std.specs.Prelude.{IfOk}
use Rattle.up_answers.specs.Watches.{watched}
use Rattle.up_watch.specs.Watching.{log_in}
use Rattle.up_watch.proofs.Sequences.{above_of}
use Rattle.up_watch.proofs.watches.told.Goals as goal

pub returns-then-sequence-ge0 : goal.returns-then-sequence-ge0
returns-then-sequence-ge0 c =
    λ limits. subst (λ z. IfOk c.told_above.result (λ reply. reply ≡ watched (log_in c.args.tree.now limits) c.args.loaded.now c.args.user.now c.args.path.now z))
    (above_of c.args.sequence c.ranges.sequence c.if-sequence-ge0.true) (c.told_above.ensures limits)
