use Rattle.std.proofs.Common.{length, ap, ◌∙◌, arith}
use Rattle.up_maps.specs.Joined.{ReadyList}
use Rattle.up_maps.proofs.Moves.{started}
use Rattle.up_maps.proofs.long.Long.start.Goals as goal

pub invariant_of-self : goal.invariant_of-self
invariant_of-self g c =
    let s = c.self.inside in
    let none = ap (λ (list : ReadyList _). list.items) c.self.view_is ∙ c.requires.empty in
    let first = started s.pieces.items c.push_reserved.new.self.items s.starts.items c.push_reserved-2.new.self.items c.from_vec.result c.args.items.items c.self.invariant.0 none
    c.push_reserved.ensures.items c.push_reserved-2.ensures.items c.from_vec.ensures (omega (arith, c.args.items.ok, c.requires.some)) in
    (first.placed, omega (arith, c.len-self-inside.ensures, c.args.items.ok, ap length first.listed), c.self.invariant.2, λ ready. cc)

pub returns : goal.returns
returns g c =
    let s = c.self.inside in
    let none = ap (λ (list : ReadyList _). list.items) c.self.view_is ∙ c.requires.empty in
    (started s.pieces.items c.push_reserved.new.self.items s.starts.items c.push_reserved-2.new.self.items c.from_vec.result c.args.items.items c.self.invariant.0 none
    c.push_reserved.ensures.items c.push_reserved-2.ensures.items c.from_vec.ensures (omega (arith, c.args.items.ok, c.requires.some))).listed
