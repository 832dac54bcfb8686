use Rattle.std.proofs.Common.{ap, arith, length, sym, ◌∙◌}
use Rattle.up_cell.proofs.cell.Cell.seen.Goals as goal
use Rattle.up_cell.proofs.Steps.{loads_at}

pub load-requires : goal.load-requires
load-requires g c =
    let idle = c.seat.invariant in
    let key = c.self.inside.table.shared.key.value in (
      (ap (λ k. k.cell) c.seat.view_is ∙ (c.requires ∙ sym c.self.view_is)),
      omega (arith, c.self.invariant.0),
      loads_at g.S.Grows.entries g.S.Grows.faults g.S.Grows.fixed (length (g.S.Grows.entries key)) (g.S.Grows.fixed key) _ c.seat.inside.place.id _ c.seat.inside.place.me (omega arith) idle.empty idle.told,
    )
