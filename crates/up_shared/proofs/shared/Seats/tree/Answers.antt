use Rattle.std.proofs.Common.{◌≡◌, ap, option_map, position, slice_get, Some, sym, ◌∙◌}
use Rattle.up_shared.proofs.Pairs.{read_at}
use Rattle.up_shared.proofs.Places.{cell_same, position-none, position-place, seat_at}
use Rattle.up_shared.specs.Sharing.{is_seat_of, seat_for}
use Rattle.up_shared.proofs.shared.Seats.tree.Goals as goal

pub returns-in-Some : goal.returns-in-Some
returns-in-Some g c =
    let seats = c.args.self.now.trees.items in
    let owner = c.args.owner.now in
    let at : position (is_seat_of owner) seats ≡ Some c.in-Some.place = sym (ap (position (is_seat_of owner)) c.deref.ensures.value) ∙ sym c.seat_place.ensures ∙ c.in-Some.is in
    let here : slice_get seats c.in-Some.place ≡ Some c.index_mut.result.now = read_at seats c.in-Some.place c.index_mut.result.now (position-place (is_seat_of owner) seats c.in-Some.place at).1 c.index_mut.ensures.value in
    let found : seat_for seats owner ≡ Some c.index_mut.result.now = seat_at owner seats c.in-Some.place c.index_mut.result.now at here in
    record {
      seat = sym (ap (option_map (λ place. place.seat)) found);
      cell = λ shared sits. sym (ap (option_map (λ place. place.seat.cell)) found) ∙ cell_same owner shared.trees.items seats sits.trees;
    }

pub returns-in-None : goal.returns-in-None
returns-in-None g c =
    let seats = c.args.self.now.trees.items in
    let owner = c.args.owner.now in
    let none = position-none (is_seat_of owner) seats (sym (ap (position (is_seat_of owner)) c.deref.ensures.value) ∙ sym c.seat_place.ensures ∙ c.in-None.is) in
    record {
      seat = sym (ap (option_map (λ place. place.seat)) none);
      cell = λ shared sits. sym (ap (option_map (λ place. place.seat.cell)) none) ∙ cell_same owner shared.trees.items seats sits.trees;
    }
