use Rattle.std.proofs.Common.{Some, ap, arith, length, refl, subst, sym, ◌∙◌, ◌∷◌}
use Rattle.up_lists.specs.Begins.{Begins}
use Rattle.atomic_table.specs.Table.{rest}
use Rattle.up_cell.specs.Views.{in_turn, told}
use Rattle.up_cell.proofs.Steps.{ready, same_lent, tells_at, gives_at, told_out}
use Rattle.up_cell.proofs.cell.Cell.lend.Goals as goal

pub exchange-requires : goal.exchange-requires
exchange-requires g c =
    let t = c.take_turn.ensures.took in (
      c.take_turn.ensures.cell.0 ∙ (ap (λ k. k.cell) c.seat.view_is ∙ (c.requires.cell ∙ sym c.self.view_is)),
      (Some t.state, ap (λ m. m.1) t.seat ∙ ap (λ l. (0, Some t.state) ∷ rest l) (sym (ap (λ m. m.1) t.seat))),
    )

pub store-requires : goal.store-requires
store-requires g c =
    let key = c.self.inside.table.shared.key.value in
    let t = c.take_turn.ensures.took in
    let after = c.run.new.state in
    let idle = c.seat.invariant in
    let is = ready g.S.Grows.entries g.S.Grows.faults g.S.Grows.fixed (length (g.S.Grows.entries key)) (g.S.Grows.fixed key) c.seat.inside.place.me c.take_turn.new.place.me c.exchange.new.seat.me c.exchange-none.new.seat.me t after idle.empty c.exchange.ensures.3 c.exchange-none.ensures.3 in
    let same = same_lent g.S.Grows.entries g.S.Grows.faults g.S.Grows.fixed (length (g.S.Grows.entries key)) (g.S.Grows.fixed key) c.seat.inside.place.me c.take_turn.new.place.me t c.exchange.result c.in-Some.state c.exchange.ensures.2 c.in-Some.is in
    let cell = c.exchange-none.ensures.0 ∙ (c.exchange.ensures.0 ∙ (c.take_turn.ensures.cell.0 ∙ (ap (λ k. k.cell) c.seat.view_is ∙ (c.requires.cell ∙ sym c.self.view_is)))) in (
      cell,
      omega (arith, c.self.invariant.0),
      tells_at g.S.Grows.entries g.S.Grows.faults g.S.Grows.fixed (length (g.S.Grows.entries key)) (g.S.Grows.fixed key) _ c.exchange-none.new.seat.id
          (in_turn c.seat.inside.place.me.0 (g.S.Grows.entries t.state) (g.S.Grows.faults t.state)) c.exchange-none.new.seat.me after _ is idle.some refl
          (subst (λ l. Begins (g.S.Grows.entries l) (g.S.Grows.entries after)) same c.run.ensures.grows.begins) (omega (arith, c.length-count.ensures)),
    )

pub store-requires-2 : goal.store-requires-2
store-requires-2 g c =
    let key = c.self.inside.table.shared.key.value in
    let t = c.take_turn.ensures.took in
    let after = c.run.new.state in
    let idle = c.seat.invariant in
    let v = in_turn c.seat.inside.place.me.0 (g.S.Grows.entries t.state) (g.S.Grows.faults t.state) in
    let is = ready g.S.Grows.entries g.S.Grows.faults g.S.Grows.fixed (length (g.S.Grows.entries key)) (g.S.Grows.fixed key) c.seat.inside.place.me c.take_turn.new.place.me c.exchange.new.seat.me c.exchange-none.new.seat.me t after idle.empty c.exchange.ensures.3 c.exchange-none.ensures.3 in
    let same = same_lent g.S.Grows.entries g.S.Grows.faults g.S.Grows.fixed (length (g.S.Grows.entries key)) (g.S.Grows.fixed key) c.seat.inside.place.me c.take_turn.new.place.me t c.exchange.result c.in-Some.state c.exchange.ensures.2 c.in-Some.is in
    let told-is = told_out g.S.Grows.entries g.S.Grows.faults g.S.Grows.fixed (length (g.S.Grows.entries key)) (g.S.Grows.fixed key) v c.exchange-none.new.seat.me c.store.new.seat.me after is (c.store.ensures.2 after (ap (λ m. m.1) is)).0 in
    let cell = c.store.ensures.0 ∙ (c.exchange-none.ensures.0 ∙ (c.exchange.ensures.0 ∙ (c.take_turn.ensures.cell.0 ∙ (ap (λ k. k.cell) c.seat.view_is ∙ (c.requires.cell ∙ sym c.self.view_is))))) in (
      cell,
      omega (arith, c.self.invariant.0),
      gives_at g.S.Grows.entries g.S.Grows.faults g.S.Grows.fixed (length (g.S.Grows.entries key)) (g.S.Grows.fixed key) _ c.store.new.seat.id _
          (told v (g.S.Grows.entries after) (g.S.Grows.faults after)) c.store.new.seat.me after (omega arith) told-is idle.some refl refl
          (t.lent.fixed_is ∙ ap (λ f. Some f) (sym (c.run.ensures.grows.stays ∙ ap g.S.Grows.fixed same))),
    )
