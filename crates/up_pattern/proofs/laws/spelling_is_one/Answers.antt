use Rattle.up_pattern.proofs.Spellings.{spelling_is_one}
use Rattle.up_pattern.proofs.laws.spelling_is_one.Goals as goal

pub returns : goal.returns
returns c = spelling_is_one
