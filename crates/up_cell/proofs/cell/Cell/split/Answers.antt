use Rattle.std.proofs.Common.{refl, ap, arith, length, sym, ◌∙◌}
use Rattle.up_cell.proofs.Steps.{splits_at}
use Rattle.up_cell.proofs.cell.Cell.split.Goals as goal

pub split_seat-place-requires : goal.split_seat-place-requires
split_seat-place-requires g c =
    let key = c.self.inside.table.shared.key.value in (
      (ap (λ k. k.cell) c.seat.view_is ∙ (c.requires ∙ sym c.self.view_is)),
      omega (arith, c.self.invariant.0),
      splits_at g.S.Grows.entries g.S.Grows.faults g.S.Grows.fixed (length (g.S.Grows.entries key)) (g.S.Grows.fixed key) c.seat.inside.place.id c.seat.inside.place.me.0 _ _ refl refl,
    )
