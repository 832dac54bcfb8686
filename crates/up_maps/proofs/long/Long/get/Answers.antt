use Rattle.std.proofs.Common.{[], ap, ◌∙◌, arith}
use Rattle.std.specs.List.{slice_get}
use Rattle.std.proofs.lemmas.List.{get_or_read}
use Rattle.up_maps.specs.Joined.{ReadyList}
use Rattle.up_maps.proofs.Moves.{get_joined}
use Rattle.up_maps.proofs.long.Long.get.Goals as goal

pub returns : goal.returns
returns g c =
    let within = c.if-i-self.false in
    let count = c.self.invariant.1 in
    let read = get_or_read c.self.inside.pieces.items c.locate-p.result.0 c.index.result.now c.locate-p.ensures.piece c.index.ensures [] in
    c.get.ensures
    ∙ get_joined c.self.inside.pieces.items c.locate-p.result.0 c.locate-p.result.1 c.args.i c.index.result.now c.locate-p.ensures.piece (c.locate-p.ensures.at (omega arith)) c.locate-p.ensures.place read
    ∙ ap (λ (list : ReadyList _). slice_get list.items c.args.i) c.self.view_is
