use Rattle.up_pattern.proofs.ByPieces.{matches-pieces, pieces-matches}
use Rattle.up_pattern.proofs.laws.matching_is_by_pieces.Goals as goal

pub returns : goal.returns
returns c = λ terms text. (matches-pieces terms text, λ cut. pieces-matches terms text cut.0 cut.1 cut.2)
