use Rattle.std.proofs.Common.{refl, ap, arith, length, sym, ◌∙◌}
use Rattle.up_cell.proofs.Steps.{joins_at, settles_at, joined_seen}
use Rattle.up_cell.proofs.cell.Cell.join.Goals as goal

pub join_seat-requires : goal.join_seat-requires
join_seat-requires g c =
    let key = c.self.inside.table.shared.key.value in
    let mine = c.seat.invariant in
    let theirs = c.other.invariant in (
      (ap (λ k. k.cell) c.seat.view_is ∙ (c.requires.first ∙ sym c.self.view_is)),
      (ap (λ k. k.cell) c.other.view_is ∙ (c.requires.second ∙ sym c.self.view_is)),
      theirs.empty,
      omega (arith, c.self.invariant.0),
      joins_at g.S.Grows.entries g.S.Grows.faults g.S.Grows.fixed (length (g.S.Grows.entries key)) (g.S.Grows.fixed key) c.seat.inside.place.id c.other.inside.place.id c.seat.inside.place.me.0 c.other.inside.place.me.0 _ refl mine.turn theirs.turn mine.some,
    )

pub load-requires : goal.load-requires
load-requires g c =
    let key = c.self.inside.table.shared.key.value in
    let empty = ap (λ m. m.1) c.join_seat.ensures.2 ∙ c.seat.invariant.empty in (
      c.join_seat.ensures.0 ∙ (ap (λ k. k.cell) c.seat.view_is ∙ (c.requires.first ∙ sym c.self.view_is)),
      omega (arith, c.self.invariant.0),
      settles_at g.S.Grows.entries g.S.Grows.faults g.S.Grows.fixed (length (g.S.Grows.entries key)) (g.S.Grows.fixed key) _ c.join_seat.new.seat.id c.join_seat.new.seat.me empty,
    )

pub returns-clause-this : goal.returns-clause-this
returns-clause-this g c =
    let key = c.self.inside.table.shared.key.value in
    rw (← c.seat.view_is) ((joined_seen g.S.Grows.entries g.S.Grows.faults g.S.Grows.fixed (length (g.S.Grows.entries key)) (g.S.Grows.fixed key) c.seat.inside.place.me.0 c.other.inside.place.me.0 c.join_seat.new.seat.me c.load.new.seat.me c.seat.inside.place.me.1 c.join_seat.ensures.2 c.load.ensures.2).0)

pub returns-clause-that : goal.returns-clause-that
returns-clause-that g c =
    let key = c.self.inside.table.shared.key.value in
    rw (← c.other.view_is) ((joined_seen g.S.Grows.entries g.S.Grows.faults g.S.Grows.fixed (length (g.S.Grows.entries key)) (g.S.Grows.fixed key) c.seat.inside.place.me.0 c.other.inside.place.me.0 c.join_seat.new.seat.me c.load.new.seat.me c.seat.inside.place.me.1 c.join_seat.ensures.2 c.load.ensures.2).1)
