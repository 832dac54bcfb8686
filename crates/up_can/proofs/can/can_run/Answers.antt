-- Where a script was not read, nothing is written.
use Rattle.std.proofs.Common.{Err, map, sym, ap, ◌∙◌}
use Rattle.std.specs.String.{string_bytes}
use Rattle.up_can.proofs.Answering.{answers_unread}
use Rattle.up_can.proofs.can.can_run.Goals as goal

pub returns-in-Err-clause-meaning : goal.returns-in-Err-clause-meaning
returns-in-Err-clause-meaning g c =
    answers_unread (g.S.Source.left c.args.source.now) (g.K.Sink.held c.args.sink.now) (map string_bytes c.args.words.now) c.in-Err.status
    (sym c.is_can.ensures ∙ c.if-not-is_can.false) c.in-Err.ensures.statuses (λ seven. c.in-Err.ensures.told_long (ap Err seven))
