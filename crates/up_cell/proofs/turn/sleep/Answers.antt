use Rattle.std.proofs.Common.{ap, ◌∙◌, length, arith, ◌+◌, ◌-◌, ◌%◌, ◌^◌}
use Rattle.up_cell.proofs.Steps.{dozes}
use Rattle.up_cell.proofs.turn.sleep.Goals as goal

pub fetch_add-requires : goal.fetch_add-requires
fetch_add-requires g c =
    let key = c.args.board.now.key.value in (
      c.requires.cell,
      omega (arith, c.requires.three),
      dozes g.S.Grows.entries g.S.Grows.faults g.S.Grows.fixed (length (g.S.Grows.entries key)) (g.S.Grows.fixed key) _ c.args.place.now.id c.args.place.now.me (λ n. (n + 1) % 2 ^ 64) 1 c.requires.idle,
    )

pub fetch_sub-requires : goal.fetch_sub-requires
fetch_sub-requires g c =
    let key = c.args.board.now.key.value in (
      c.fetch_add.ensures.0 ∙ c.requires.cell,
      omega (arith, c.requires.three),
      dozes g.S.Grows.entries g.S.Grows.faults g.S.Grows.fixed (length (g.S.Grows.entries key)) (g.S.Grows.fixed key) _ c.fetch_add.new.seat.id c.fetch_add.new.seat.me (λ n. (n + (2 ^ 64 - 1)) % 2 ^ 64) 1 (ap (λ m. m.1) c.fetch_add.ensures.2 ∙ c.requires.idle),
    )
