use Rattle.std.proofs.Common.{◌∙◌, arith}
use mathlib.Core.List.{reverse}
use Rattle.up_maps.proofs.Lists.{moved_front, moved_back}
use Rattle.up_maps.proofs.piece.Piece.split_into.Goals as goal

pub returns-clause-front : goal.returns-clause-front
returns-clause-front g c = moved_front 256 c.args.self.now c.loop-self.self-inside.items.items (reverse c.loop-self.tail-inside.items.items) (cc) (omega arith)

pub returns-clause-back : goal.returns-clause-back
returns-clause-back g c =
    c.reverse.ensures.items
    ∙ moved_back 256 c.args.self.now c.loop-self.self-inside.items.items (reverse c.loop-self.tail-inside.items.items) (cc) (omega arith)
