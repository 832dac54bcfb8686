use Rattle.up_pattern.proofs.LiteralLaws.{literal_matches}
use Rattle.up_pattern.proofs.laws.literal_matches_its_text.Goals as goal

pub returns : goal.returns
returns c = literal_matches
