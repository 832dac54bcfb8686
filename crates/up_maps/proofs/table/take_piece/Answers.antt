use Rattle.std.proofs.Common.{List, ap, sym, subst, ◌∙◌}
use Rattle.up_maps.specs.Joined.{joined, Placed}
use Rattle.up_maps.proofs.Flats.{joined-take}
use Rattle.up_maps.proofs.Moves.{places_large_after, placed_taken}
use Rattle.up_maps.proofs.table.take_piece.Goals as goal

pub lower-requires : goal.lower-requires
lower-requires g c = λ k o l. places_large_after c.args.pieces.now.items c.args.starts.now.items c.remove.new.self.items c.args.p k c.requires.placed c.requires.piece c.remove.ensures.items o l

pub returns-clause-items : goal.returns-clause-items
returns-clause-items g c = ap joined c.remove-piece.ensures.items ∙ joined-take c.args.pieces.now.items c.args.p c.requires.piece c.requires.one

pub returns-clause-placed : goal.returns-clause-placed
returns-clause-placed g c =
    subst (λ (ps : List (List _)). Placed ps c.lower.new.starts.items) (sym c.remove-piece.ensures.items)
    (placed_taken c.args.pieces.now.items c.args.starts.now.items c.remove.new.self.items c.lower.new.starts.items c.args.p c.requires.placed c.requires.piece c.requires.one c.remove.ensures.items
    c.lower.ensures.size c.lower.ensures.low c.lower.ensures.high)
