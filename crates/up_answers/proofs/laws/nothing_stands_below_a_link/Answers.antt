use Rattle.up_answers.proofs.AnswerLemmas.{nothing_below_links}
use Rattle.up_answers.proofs.laws.nothing_stands_below_a_link.Goals as goal

pub returns : goal.returns
returns c = nothing_below_links
