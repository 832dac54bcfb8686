-- What comes of a request is what is said of its answer.
use Rattle.std.proofs.Common.{◌≡◌}
use Rattle.std.specs.Result.{result_ok}
use Rattle.up_terminal.specs.Answers.{AskCame, result_of_answer}
use Rattle.up_terminal.proofs.AnswerLemmas.{weaker}
use Rattle.up_terminal.proofs.answering.request_made.Goals as goal

pub returns-clause-came : goal.returns-clause-came
returns-clause-came g c =
    weaker (λ came. came ≡ result_of_answer (result_ok c.ask-given.result)) (λ came. AskCame g.A.Ask.answers c.args.request.now c.args.ask.now came c.ask-given.new.self) c.args.out.now.items c.say_request_result.new.out.items c.say_request_result.result
    (λ came told. record { given = result_ok c.ask-given.result; answered = c.ask-given.ensures.given; came_is = told }) c.say_request_result.ensures.said
