use Rattle.up_answers.proofs.AnswerLemmas.{checks_are_alike}
use Rattle.up_answers.proofs.laws.checks_are_alike.Goals as goal

pub returns : goal.returns
returns c = checks_are_alike
