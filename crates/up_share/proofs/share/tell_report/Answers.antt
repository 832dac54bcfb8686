use Rattle.std.proofs.Common.{sym, subst}
use Rattle.up_reports.specs.Telling.{AnswersOne}
use Rattle.up_share.specs.Sharing.{whole_report}
use Rattle.up_share.proofs.ShareLemmas.{wanting_one}
use Rattle.up_share.proofs.share.tell_report.Goals as goal

pub returns-in-Err-clause-answers : goal.returns-in-Err-clause-answers
returns-in-Err-clause-answers g c =
    subst (AnswersOne (g.K.Sink.held c.args.sink.now) (g.K.Sink.held c.args.sink.now) (whole_report c.args.state.now)) (sym c.code.ensures) (wanting_one (g.K.Sink.held c.args.sink.now) (whole_report c.args.state.now))
