use Rattle.up_pattern.proofs.Spellings.{terms_are_spelled}
use Rattle.up_pattern.proofs.laws.terms_are_spelled.Goals as goal

pub returns : goal.returns
returns c = terms_are_spelled
