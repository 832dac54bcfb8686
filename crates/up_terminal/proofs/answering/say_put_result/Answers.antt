-- What is said of the outcome.
use Rattle.std.proofs.Common.{Ok, ap}
use Rattle.up_terminal.specs.Answers.{LineDid, result_of_put}
use Rattle.up_terminal.proofs.AnswerLemmas.{says, put_failed}
use Rattle.up_terminal.proofs.answering.say_put_result.Goals as goal

pub returns-in_ok-say_call_done-in-Ok-clause-said : goal.returns-in_ok-say_call_done-in-Ok-clause-said
returns-in_ok-say_call_done-in-Ok-clause-said c =
    says (result_of_put c.args.outcome) (LineDid.Put (Ok c.in-Ok.position)) c.args.out.now.items c.say_call_done.new.out.items (ap result_of_put c.in-Ok.is) c.in_ok-say_call_done-in-Ok.ensures

pub returns-in-Err-clause-said : goal.returns-in-Err-clause-said
returns-in-Err-clause-said c =
    put_failed c.in-Err.fault c.args.outcome c.args.out.now.items c.say_call_failed-said.new.out.items c.say_call_failed-said.result c.in-Err.is c.say_call_failed-said.ensures.said c.say_call_failed-said.ensures.failed c.say_call_failed-said.ensures.unsaid
