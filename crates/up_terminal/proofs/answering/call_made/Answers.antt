-- Where the path is none, nothing is asked.
use Rattle.std.proofs.Common.{◌∙◌, sym}
use Rattle.up_terminal.specs.Answers.{CallCame, LineDid}
use Rattle.up_terminal.proofs.AnswerLemmas.{unmade, unsaid}
use Rattle.up_terminal.proofs.answering.call_made.Goals as goal

pub returns-in_err-path-clause-came : goal.returns-in_err-path-clause-came
returns-in_err-path-clause-came g c =
    unmade (λ came. CallCame g.A.Ask.answers c.args.user.now c.args.ask.now c.args.call.now came c.args.ask.now) c.args.out.now.items c.args.out.now.items c.from_residual.result CallCame.wanting c.from_residual.ensures.1

pub returns-in_err-say_line-in-None-clause-came : goal.returns-in_err-say_line-in-None-clause-came
returns-in_err-say_line-in-None-clause-came g c =
    unsaid (λ came. CallCame g.A.Ask.answers c.args.user.now c.args.ask.now c.args.call.now came c.args.ask.now) LineDid.BadPath c.args.out.now.items c.say_line.new.out.items c.from_residual-in_err-say_line-in-None.result
    (CallCame.bad_path (sym c.in_ok-path.ensures ∙ c.in-None.is)) c.from_residual-in_err-say_line-in-None.ensures.1

pub returns-in_ok-say_line-in-None-clause-came : goal.returns-in_ok-say_line-in-None-clause-came
returns-in_ok-say_line-in-None-clause-came g c = (LineDid.BadPath, (CallCame.bad_path (sym c.in_ok-path.ensures ∙ c.in-None.is), c.in_ok-say_line-in-None.ensures))
