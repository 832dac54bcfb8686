-- Where a script was not read, nothing is written.
use Rattle.std.proofs.Common.{Err, ap}
use Rattle.up_explain_can.proofs.TellingLemmas.{unread}
use Rattle.up_explain_can.proofs.explaining.explain_with.Goals as goal

pub returns-in-Err-clause-meaning : goal.returns-in-Err-clause-meaning
returns-in-Err-clause-meaning g c =
    unread g.J.Judge.step c.args.judge.now (g.S.Source.left c.args.source.now) (g.K.Sink.held c.args.sink.now) c.in-Err.status c.in-Err.ensures.statuses (λ seven. c.in-Err.ensures.told_long (ap Err seven))
