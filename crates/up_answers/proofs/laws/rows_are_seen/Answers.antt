use Rattle.up_answers.proofs.AnswerLemmas.{rows_are_seen}
use Rattle.up_answers.proofs.laws.rows_are_seen.Goals as goal

pub returns : goal.returns
returns c = rows_are_seen
