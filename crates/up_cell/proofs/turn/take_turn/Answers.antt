use Rattle.std.proofs.Common.{ap, ◌∙◌, length, arith}
use Rattle.up_cell.proofs.turn.take_turn.Goals as goal
use Rattle.up_cell.proofs.Steps.{takes_at}

pub compare_exchange-found-requires : goal.compare_exchange-found-requires
compare_exchange-found-requires g c =
    let same = c.loop.invariant in
    let key = c.args.board.now.key.value in
    let idle = c.requires.idle in (
      same.2 ∙ c.requires.cell,
      omega (arith, c.requires.three),
      takes_at g.S.Grows.entries g.S.Grows.faults g.S.Grows.fixed (length (g.S.Grows.entries key)) (g.S.Grows.fixed key) _ c.loop.place.id _ c.loop.place.me
          (omega arith) (ap (λ m. m.1) same.4 ∙ idle.0) (ap (λ m. m.0.turn) same.4 ∙ idle.1) (omega (arith, idle.2, ap (λ m. m.0.part) same.4)),
    )
