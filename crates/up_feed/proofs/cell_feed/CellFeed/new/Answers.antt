use Rattle.std.proofs.Common.{◌≡◌, None, Some, ap, position, sym, ◌∙◌}
use Rattle.std.specs.Prelude.{is_some}
use Rattle.up_feed.proofs.CellLemmas.{has_cell, owner_first, owner_is}
use Rattle.up_feed.proofs.cell_feed.CellFeed.new.Goals as goal
use Rattle.up_shared.proofs.Places.{cell_none}
use Rattle.up_shared.specs.Sharing.{is_cell_of}
use Rattle.up_together.proofs.SittingLemmas.{marks_by_sits}

pub returns-in_default-clause-there : goal.returns-in_default-clause-there
returns-in_default-clause-there g c =
    let at : position (is_cell_of c.args.session.now.user) c.args.shared.now.trees.items ≡ None =
    ap (λ o. position (is_cell_of o) c.args.shared.now.trees.items) (sym c.user.ensures) ∙ sym c.place_of.ensures ∙ c.in_default.is in
    sym (ap is_some (cell_none c.args.session.now.user c.args.shared.now.trees.items at))

pub invariant_of-result : goal.invariant_of-result
invariant_of-result g c =
    let at : position (is_cell_of c.args.session.now.user) c.args.shared.now.trees.items ≡ Some c.in-Some.place =
    ap (λ o. position (is_cell_of o) c.args.shared.now.trees.items) (sym c.user.ensures) ∙ sym c.place_of.ensures ∙ c.in-Some.is in
    record { first = owner_first c.args.shared.now c.args.session.now.user c.in-Some.place at; sits = marks_by_sits c.args.shared.now c.args.seats.now c.requires.sits }

pub returns-clause-there : goal.returns-clause-there
returns-clause-there g c =
    let at : position (is_cell_of c.args.session.now.user) c.args.shared.now.trees.items ≡ Some c.in-Some.place =
    ap (λ o. position (is_cell_of o) c.args.shared.now.trees.items) (sym c.user.ensures) ∙ sym c.place_of.ensures ∙ c.in-Some.is in
    sym (has_cell c.args.shared.now c.args.session.now.user c.in-Some.place at)

pub returns-clause-tree : goal.returns-clause-tree
returns-clause-tree g c =
    let at : position (is_cell_of c.args.session.now.user) c.args.shared.now.trees.items ≡ Some c.in-Some.place =
    ap (λ o. position (is_cell_of o) c.args.shared.now.trees.items) (sym c.user.ensures) ∙ sym c.place_of.ensures ∙ c.in-Some.is in
    owner_is c.args.shared.now c.args.session.now.user c.in-Some.place at
