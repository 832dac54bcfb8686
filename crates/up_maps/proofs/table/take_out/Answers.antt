use Rattle.std.proofs.Common.{[], length, ap, sym, ◌∙◌, arith}
use Rattle.std.specs.List.{slice_get}
use Rattle.std.proofs.lemmas.List.{get_or_read}
use Rattle.std.proofs.lemmas.List.Edits.{length-remove}
use Rattle.up_maps.proofs.Flats.{joined-at}
use Rattle.up_maps.proofs.Moves.{places_large, take_joined, placed_lowered}
use Rattle.up_maps.proofs.table.take_out.Goals as goal

pub lower-requires : goal.lower-requires
lower-requires g c = λ k o l. places_large c.args.pieces.now.items c.args.starts.now.items k c.requires.placed (omega arith) l

pub returns-clause-item : goal.returns-clause-item
returns-clause-item g c =
    let read = get_or_read c.args.pieces.now.items c.args.p c.index_mut.result.now c.requires.piece c.index_mut.ensures.value [] in
    joined-at c.args.pieces.now.items c.args.p c.args.j c.requires.piece c.requires.place ∙ ap (λ l. slice_get l c.args.j) (sym read) ∙ c.remove-item.ensures.item

pub returns-clause-items : goal.returns-clause-items
returns-clause-items g c =
    take_joined c.args.pieces.now.items c.args.p c.args.j c.remove-item.new.self c.index_mut.result.now c.requires.piece c.requires.place c.index_mut.ensures.value c.remove-item.ensures.items

pub returns-clause-placed : goal.returns-clause-placed
returns-clause-placed g c =
    let read = get_or_read c.args.pieces.now.items c.args.p c.index_mut.result.now c.requires.piece c.index_mut.ensures.value [] in
    let n = ap length read in
    let m = length-remove c.index_mut.result.now c.args.j (omega (arith, n, c.requires.place)) in
    let e = ap length c.remove-item.ensures.items in
    placed_lowered c.args.pieces.now.items c.args.starts.now.items c.lower.new.starts.items c.args.p c.remove-item.new.self c.requires.placed c.requires.piece (omega (arith, m, n, e)) (omega (arith, m, n, e, c.requires.another))
    c.lower.ensures.size c.lower.ensures.low c.lower.ensures.high
