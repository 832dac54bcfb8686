use Rattle.up_answers.proofs.ShownLemmas.{rows_are_shown}
use Rattle.up_answers.proofs.laws.rows_are_shown.Goals as goal

pub returns : goal.returns
returns c = rows_are_shown
