use Rattle.up_answers.proofs.AnswerLemmas.{no_rights_below_links}
use Rattle.up_answers.proofs.laws.no_rights_below_a_link.Goals as goal

pub returns : goal.returns
returns c = no_rights_below_links
