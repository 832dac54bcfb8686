use Rattle.std.proofs.Common.{arith}
use Rattle.std.proofs.lemmas.List.{get_or_read}
use Rattle.up_maps.proofs.Moves.{located, located_end}
use Rattle.up_maps.proofs.table.locate.Goals as goal

pub returns-clause-at : goal.returns-clause-at
returns-clause-at g c l = let read = get_or_read c.args.starts.now.items c.piece_of-p.result c.index.result.now c.piece_of-p.ensures.within c.index.ensures 0 in
    omega (arith, read, located c.args.pieces.now.items c.args.starts.now.items c.piece_of-p.result c.args.i c.requires.placed c.piece_of-p.ensures.within c.piece_of-p.ensures.last l)

pub returns-clause-end : goal.returns-clause-end
returns-clause-end g c = let read = get_or_read c.args.starts.now.items c.piece_of-p.result c.index.result.now c.piece_of-p.ensures.within c.index.ensures 0 in
    omega (arith, read, located_end c.args.pieces.now.items c.args.starts.now.items c.piece_of-p.result c.args.i c.requires.placed c.piece_of-p.ensures.within c.piece_of-p.ensures.last c.requires.within)
