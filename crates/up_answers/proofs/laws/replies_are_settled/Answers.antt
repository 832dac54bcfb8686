use Rattle.up_answers.proofs.SettledLaw.{replies_are_settled}
use Rattle.up_answers.proofs.laws.replies_are_settled.Goals as goal

pub returns : goal.returns
returns c = replies_are_settled
