use Rattle.std.proofs.Common.{◌^◌, [], length, ap, arith}
use Rattle.std.proofs.lemmas.List.{get_or_read}
use Rattle.std.proofs.lemmas.List.Edits.{length-insert}
use Rattle.up_maps.proofs.Moves.{places_small, put_joined, placed_raised}
use Rattle.up_maps.proofs.table.put.Goals as goal

pub raise-requires : goal.raise-requires
raise-requires g c = λ k l. places_small c.args.pieces.now.items c.args.starts.now.items (2 ^ 63) k c.requires.placed c.requires.small l

pub returns-clause-items : goal.returns-clause-items
returns-clause-items g c =
    put_joined c.args.pieces.now.items c.args.p c.args.j c.args.item c.insert.new.self c.index_mut.result.now c.requires.piece c.requires.place c.index_mut.ensures.value c.insert.ensures

pub returns-clause-placed : goal.returns-clause-placed
returns-clause-placed g c =
    let read = get_or_read c.args.pieces.now.items c.args.p c.index_mut.result.now c.requires.piece c.index_mut.ensures.value [] in
    let n = ap length read in
    let m = length-insert c.index_mut.result.now c.args.j c.args.item (omega (arith, n, c.requires.place)) in
    placed_raised c.args.pieces.now.items c.args.starts.now.items c.raise.new.starts.items c.args.p c.insert.new.self c.requires.placed c.requires.piece (omega (arith, m, n, ap length c.insert.ensures))
    c.raise.ensures.size c.raise.ensures.low c.raise.ensures.high
