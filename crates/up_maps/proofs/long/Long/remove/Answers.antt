use Rattle.std.proofs.Common.{[], length, ap, sym, ◌∙◌, arith}
use Rattle.std.specs.List.{slice_get}
use Rattle.std.proofs.lemmas.List.{get_or_read}
use Rattle.up_maps.specs.Joined.{ReadyList}
use Rattle.up_maps.proofs.Moves.{get_joined}
use Rattle.up_maps.proofs.long.Long.remove.Goals as goal

pub returns-clause-item : goal.returns-clause-item
returns-clause-item g c =
    let count = ap (λ (list : ReadyList _). length list.items) c.self.view_is in
    let read = ap length (get_or_read c.self.inside.pieces.items c.locate-p.result.0 c.index.result.now c.locate-p.ensures.piece c.index.ensures []) in
    let at = c.locate-p.ensures.at (omega (arith, c.requires, count)) in
    ap (λ (list : ReadyList _). slice_get list.items c.args.i) (sym c.self.view_is)
    ∙ sym (get_joined c.self.inside.pieces.items c.locate-p.result.0 0 c.args.i c.take_piece-piece.result c.locate-p.ensures.piece (omega arith) (omega (arith, at, read, c.locate-p.ensures.place)) c.take_piece-piece.ensures.piece)
    ∙ c.remove-item.ensures.item
