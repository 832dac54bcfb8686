-- What a line came to, by what it says.
use Rattle.std.proofs.Common.{sym, inl, refl, ◌∙◌}
use Rattle.up_terminal.specs.Answers.{LineCame}
use Rattle.up_terminal.proofs.LineLemmas.{line_named, line_says}
use Rattle.up_terminal.proofs.line_run.run_line.Goals as goal

pub returns-in-Ok-Some-clause-ran : goal.returns-in-Ok-Some-clause-ran
returns-in-Ok-Some-clause-ran g c =
    line_says g.A.Ask.answers c.args.user.now (g.K.Sink.held c.args.sink.now) (g.K.Sink.held c.do_and_print.new.sink) c.args.ask.now c.do_and_print.new.ask c.args.line.now c.args.number c.in-Ok-Some.says c.do_and_print.result
    (sym c.in-Ok-Some.ensures ∙ c.in-Ok-Some.field-0-is) c.do_and_print.ensures.done

pub returns-in-Ok-None-clause-ran : goal.returns-in-Ok-None-clause-ran
returns-in-Ok-None-clause-ran g c =
    line_named g.A.Ask.answers c.args.user.now (g.K.Sink.held c.args.sink.now) (g.K.Sink.held c.name_bad_line.new.sink) c.args.ask.now c.args.line.now c.args.number c.name_bad_line.result (sym c.in-Ok-None.ensures ∙ c.in-Ok-None.field-0-is)
    c.name_bad_line.ensures.named

pub returns-in-Err-clause-ran : goal.returns-in-Err-clause-ran
returns-in-Err-clause-ran g c = (inl LineCame.unread, refl)
