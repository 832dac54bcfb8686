use Rattle.std.proofs.Common.{◌≡◌, ◌+◌, ◌-◌, ◌++◌, [], length, take, drop, subst, ap, ◌∙◌}
use Rattle.std.proofs.lemmas.List.{get_or_read, take_rest}
use Rattle.up_maps.specs.Joined.{ReadyList}
use Rattle.up_maps.proofs.Flats.{run_joined}
use Rattle.up_maps.proofs.long.Long.run_at.Goals as goal

pub returns-clause-items : goal.returns-clause-items
returns-clause-items g c =
    let read = get_or_read c.self.inside.pieces.items c.locate-p.result.0 c.index.result.now c.locate-p.ensures.piece c.index.ensures [] in
    let run = take (length c.as_slice.result.now - c.locate-p.result.1) (drop c.locate-p.result.1 c.as_slice.result.now) in
    let is = take_rest c.as_slice.result.now c.locate-p.result.1 ∙ ap (drop c.locate-p.result.1) (c.as_slice.ensures ∙ read) in
    subst (λ (list : ReadyList _). drop c.args.i list.items ≡ run ++ drop (c.args.i + length run) list.items) c.self.view_is
    (run_joined c.self.inside.pieces.items c.locate-p.result.0 c.locate-p.result.1 c.args.i run c.locate-p.ensures.piece c.locate-p.ensures.end c.locate-p.ensures.place is)
