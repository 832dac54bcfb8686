-- What is said of an answer is what is said of its reply.
use Rattle.std.proofs.Common.{◌≡◌, Some, ap, sym, ◌∙◌}
use Rattle.std.specs.Result.{result_ok}
use Rattle.up_terminal.specs.Answers.{result_of_answer}
use Rattle.up_terminal.proofs.AnswerLemmas.{weaker}
use Rattle.up_terminal.proofs.answering.say_request_result.Goals as goal

pub returns-in-Ok-clause-said : goal.returns-in-Ok-clause-said
returns-in-Ok-clause-said c =
    weaker (λ came. came ≡ result_of_answer (Some c.in-Ok.reply)) (λ came. came ≡ result_of_answer (result_ok c.args.given)) c.args.out.now.items c.say_reply_result-said.new.out.items c.say_reply_result-said.result
    (λ came told. told ∙ ap (λ given. result_of_answer (result_ok given)) (sym c.in-Ok.is)) c.say_reply_result-said.ensures.said
