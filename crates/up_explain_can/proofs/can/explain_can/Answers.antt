-- The lines are judged by the tree's owner alone.
use Rattle.up_explain_can.proofs.CanNumberLemmas.{can_meaning}
use Rattle.up_explain_can.proofs.can.explain_can.Goals as goal

pub returns-clause-meaning : goal.returns-clause-meaning
returns-clause-meaning g c =
    can_meaning (g.S.Source.left c.args.source.now) (g.K.Sink.held c.args.sink.now) _ c.explain_with-status.result c.new-judge.result c.new-judge.ensures c.explain_with-status.ensures.meaning
