use Rattle.up_answers.proofs.AnswerLemmas.{answers_agree}
use Rattle.up_answers.proofs.laws.answers_agree.Goals as goal

pub returns : goal.returns
returns c = answers_agree
