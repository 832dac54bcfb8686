use Rattle.std.proofs.Common.{◌≡◌, ap, position, slice_get, Some, sym, ◌∙◌}
use Rattle.up_shared.proofs.Pairs.{read_at}
use Rattle.up_shared.proofs.Places.{cell_at, cell_none, position-place}
use Rattle.up_shared.specs.Sharing.{is_cell_of}
use Rattle.up_shared.proofs.shared.Shared.cell.Goals as goal

pub returns-in-Some : goal.returns-in-Some
returns-in-Some g c =
    let cells = c.args.self.now.trees.items in
    let test = is_cell_of c.args.owner.now in
    let at : position test cells ≡ Some c.in-Some.place = sym (ap (position test) c.deref.ensures.value) ∙ sym c.place_among.ensures ∙ c.in-Some.is in
    let here : slice_get cells c.in-Some.place ≡ Some c.index.result.now = read_at cells c.in-Some.place c.index.result.now (position-place test cells c.in-Some.place at).1 c.index.ensures in
    sym (cell_at c.args.owner.now cells c.in-Some.place c.index.result.now at here)

pub returns-in-None : goal.returns-in-None
returns-in-None g c =
    let cells = c.args.self.now.trees.items in
    let test = is_cell_of c.args.owner.now in
    sym (cell_none c.args.owner.now cells (sym (ap (position test) c.deref.ensures.value) ∙ sym c.place_among.ensures ∙ c.in-None.is))
