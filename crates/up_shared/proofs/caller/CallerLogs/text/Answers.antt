use Rattle.std.proofs.Common.{◌≡◌, Some, ap, option_map, position, refl, subst, sym, ◌∙◌}
use Rattle.std.specs.Prelude.{IfOk}
use Rattle.up_calls.proofs.ShownLemmas.{but_none}
use Rattle.up_calls.specs.Gathered.{OwnText}
use Rattle.up_calls.specs.Routes.{LogName}
use Rattle.up_shared.specs.Callers.{tied_same}
use Rattle.up_shared.specs.Sharing.{IsQuiet, is_cell_of, is_seat_of, tree_seen, views_of}
use Rattle.up_shared.proofs.Places.{owner_at, position-none, position_same}
use Rattle.up_shared.proofs.Telling.{text_told_by, tied_quiet}
use Rattle.up_shared.proofs.Turning.{turned_calm}
use Rattle.up_shared.proofs.caller.CallerLogs.text.Goals as goal

pub returns-in_default-clause-given : goal.returns-in_default-clause-given
returns-in_default-clause-given g c =
    let cells = c.args.self.now.shared.now.trees.items in
    let seats = c.args.self.now.seats.now.trees.items in
    let owner = c.args.name.now.owner in
    ap (option_map tree_seen) (position-none (is_seat_of owner) seats
    (sym (position_same owner cells seats c.requires.trees) ∙ sym (ap (position (is_cell_of owner)) c.deref.ensures.value)
    ∙ ap (λ o. position (is_cell_of o) c.deref.result.now) (sym c.owner.ensures) ∙ sym c.place_among.ensures ∙ c.in_default.is))

pub returns-in_default-clause-tie : goal.returns-in_default-clause-tie
returns-in_default-clause-tie g c = tied_same c.args.self.now.shared.now c.args.self.now.seats.ghost_name c.args.self.now.seats.now

pub lend_tree-requires-clause-can : goal.lend_tree-requires-clause-can
lend_tree-requires-clause-can g c = λ seat state there fixed begins.
    let cells = c.args.self.now.shared.now.trees.items in
    let seats = c.args.self.now.seats.now.trees.items in
    let owner = c.args.name.now.owner in
    let at : position (is_seat_of owner) seats ≡ Some c.in-Some.place =
    sym (position_same owner cells seats c.requires.trees) ∙ sym (ap (position (is_cell_of owner)) c.deref.ensures.value)
    ∙ ap (λ o. position (is_cell_of o) c.deref.result.now) (sym c.owner.ensures) ∙ sym c.place_among.ensures ∙ c.in-Some.is in
    sym (owner_at owner seats c.in-Some.place seat at there) ∙ ap (λ f. f.0) fixed

pub returns-clause-given : goal.returns-clause-given
returns-clause-given g c =
    let cells = c.args.self.now.shared.now.trees.items in
    let seats = c.args.self.now.seats.now.trees.items in
    let owner = c.args.name.now.owner in
    let at : position (is_seat_of owner) seats ≡ Some c.in-Some.place =
    sym (position_same owner cells seats c.requires.trees) ∙ sym (ap (position (is_cell_of owner)) c.deref.ensures.value)
    ∙ ap (λ o. position (is_cell_of o) c.deref.result.now) (sym c.owner.ensures) ∙ sym c.place_among.ensures ∙ c.in-Some.is in
    let t = c.lend_tree.ensures in
    subst (λ r. IfOk r (OwnText c.args.self.now.shared.now.operator (views_of c.args.self.now.seats.now) (views_of c.lend_tree.new.seats) c.args.name.now)) (sym c.there.ensures)
    (text_told_by g.D.Disk _ c.in-Some.place _ c.lend_tree.new.job c.args.self.now.shared.now c.args.self.now.seats.now c.lend_tree.new.seats c.requires t owner at
    c.args.self.now.shared.now.operator c.args.name.now c.lend_tree.new.job.given refl t.turn.did_it.text)

pub returns-clause-tie : goal.returns-clause-tie
returns-clause-tie g c =
    let cells = c.args.self.now.shared.now.trees.items in
    let seats = c.args.self.now.seats.now.trees.items in
    let owner = c.args.name.now.owner in
    let at : position (is_seat_of owner) seats ≡ Some c.in-Some.place =
    sym (position_same owner cells seats c.requires.trees) ∙ sym (ap (position (is_cell_of owner)) c.deref.ensures.value)
    ∙ ap (λ o. position (is_cell_of o) c.deref.result.now) (sym c.owner.ensures) ∙ sym c.place_among.ensures ∙ c.in-Some.is in
    let t = c.lend_tree.ensures in
    tied_quiet g.D.Disk _ c.in-Some.place _ c.lend_tree.new.job c.args.self.now.shared.now c.args.self.now.seats.now c.lend_tree.new.seats c.requires t owner at
    c.args.self.now.seats.ghost_name (ap (λ s. s.log) t.turn.did_it.stays)

pub returns-in_default-clause-quiet : goal.returns-in_default-clause-quiet
returns-in_default-clause-quiet g c = record { all = λ log. IsQuiet.Stays refl }

pub returns-clause-quiet : goal.returns-clause-quiet
returns-clause-quiet g c =
    let cells = c.args.self.now.shared.now.trees.items in
    let seats = c.args.self.now.seats.now.trees.items in
    let owner = c.args.name.now.owner in
    let at : position (is_seat_of owner) seats ≡ Some c.in-Some.place =
    sym (position_same owner cells seats c.requires.trees) ∙ sym (ap (position (is_cell_of owner)) c.deref.ensures.value)
    ∙ ap (λ o. position (is_cell_of o) c.deref.result.now) (sym c.owner.ensures) ∙ sym c.place_among.ensures ∙ c.in-Some.is in
    let t = c.lend_tree.ensures in
    but_none (λ log. IsQuiet g.D.Disk log c.args.self.now.seats.now c.lend_tree.new.seats) (LogName.OfTree owner) ⊥
    (turned_calm g.D.Disk _ c.in-Some.place _ c.lend_tree.new.job c.args.self.now.seats.now c.lend_tree.new.seats t owner at ⊥
    (record { stays = λ none. ap (λ s. g.D.Disk.faults s.disk) t.turn.did_it.stays })) (λ none. none)
