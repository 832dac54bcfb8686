-- What comes of a request is what is said of its answer.
use Rattle.std.proofs.Common.{◌≡◌, None, Some, ap, sym, ◌∙◌}
use Rattle.up_following.specs.FollowTurns.{AskCame, LineDid, result_of_answer, result_of_reply}
use Rattle.up_following.proofs.TurnLemmas.{unsaid, weaker}
use Rattle.up_following.proofs.turns.ask.Goals as goal

pub returns-in-Some-clause-came : goal.returns-in-Some-clause-came
returns-in-Some-clause-came g c =
    weaker (λ came. came ≡ result_of_reply c.in-Some.reply) (λ came. AskCame c.args.user.now c.args.request.now c.args.follower.now came) c.args.out.now.items c.say_reply_result-said.new.out.items c.say_reply_result-said.result
    (λ came said. record {
      given = c.answer.result;
      answers = c.answer.ensures.answers;
      reply_is = c.answer.ensures.answer;
      came_is = said ∙ ap result_of_answer (sym c.in-Some.is);
    }) c.say_reply_result-said.ensures

pub returns-in_err-say-in-None-clause-came : goal.returns-in_err-say-in-None-clause-came
returns-in_err-say-in-None-clause-came g c =
    unsaid (λ came. AskCame c.args.user.now c.args.request.now c.args.follower.now came) LineDid.ReadOnly c.args.out.now.items c.say.new.out.items c.from_residual.result
    (record {
      given = c.answer.result;
      answers = c.answer.ensures.answers;
      reply_is = c.answer.ensures.answer;
      came_is = ap result_of_answer (sym c.in-None.is);
    }) c.from_residual.ensures.1

pub returns-in_ok-say-in-None-clause-came : goal.returns-in_ok-say-in-None-clause-came
returns-in_ok-say-in-None-clause-came g c = (
  LineDid.ReadOnly,
  (
    record {
      given = c.answer.result;
      answers = c.answer.ensures.answers;
      reply_is = c.answer.ensures.answer;
      came_is = ap result_of_answer (sym c.in-None.is);
    },
    c.in_ok-say-in-None.ensures,
  ),
)
