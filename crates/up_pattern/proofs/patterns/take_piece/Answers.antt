use Rattle.std.proofs.Common.{refl}
use Rattle.up_pattern.proofs.ElementTexts.{element_of-no_text}
use Rattle.up_pattern.proofs.patterns.take_piece.Goals as goal

pub returns-in_default : goal.returns-in_default
returns-in_default c = λ _. rw (element_of-no_text c.args.piece.now c.in_default.ensures) refl
