-- What is said of a reply.
use Rattle.std.proofs.Common.{Some}
use Rattle.up_terminal.specs.Answers.{LineDid, result_of_answer}
use Rattle.up_terminal.proofs.AnswerLemmas.{replied_so, says}
use Rattle.up_terminal.proofs.answering.say_reply_result.Goals as goal

pub returns-clause-said : goal.returns-clause-said
returns-clause-said c =
    says (result_of_answer (Some c.args.reply.now)) (LineDid.Replied c.args.reply.now) c.args.out.now.items c.say_reply.new.out.items (replied_so c.args.reply.now c.in_default.not-OutOfMemory) c.in_ok-say_reply.ensures
