use Rattle.up_answers.proofs.ShownLemmas.{items_are_seen}
use Rattle.up_answers.proofs.laws.items_are_seen.Goals as goal

pub returns : goal.returns
returns c = items_are_seen
