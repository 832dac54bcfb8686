use Rattle.std.proofs.Common.{◌≡◌, Some, ap, position, subst, sym, true, ◌∙◌}
use Rattle.std.proofs.lemmas.Bool.{false≢true}
use Rattle.std.specs.Prelude.{is_some}
use Rattle.up_calls.proofs.ShownLemmas.{tried_quiet}
use Rattle.up_calls.specs.Kept.{KeepsSeen, where_missing}
use Rattle.up_calls.specs.Told.{tells_io}
use Rattle.up_foreign.specs.declared.kept.KeptSearch.{KeptSearch}
use Rattle.up_shared.specs.Sharing.{is_cell_of, is_seat_of, views_of}
use Rattle.up_shared.proofs.Places.{has_same, position_same}
use Rattle.up_shared.proofs.Telling.{kept_there, tied_own, tree_kept, tree_looked, tree_told}
use Rattle.up_shared.proofs.Turning.{turned_calm}
use Rattle.up_shared.proofs.caller.CallerLogs.ask_tree.Goals as goal

pub unreachable-requires : goal.unreachable-requires
unreachable-requires g c =
    let owner = c.args.owner.now in
    false≢true (sym (ap is_some (sym (ap (position (is_cell_of owner)) c.deref.ensures.value) ∙ sym c.place_among.ensures ∙ c.in_default.is))
    ∙ has_same owner c.args.self.now.shared.now.trees.items c.args.self.now.seats.now.trees.items c.requires.ready.trees ∙ c.requires.there)

pub returns-clause-told : goal.returns-clause-told
returns-clause-told g c =
    let cells = c.args.self.now.shared.now.trees.items in
    let seats = c.args.self.now.seats.now.trees.items in
    let owner = c.args.owner.now in
    let at : position (is_seat_of owner) seats ≡ Some c.in-Some.place =
    sym (position_same owner cells seats c.requires.ready.trees) ∙ sym (ap (position (is_cell_of owner)) c.deref.ensures.value) ∙ sym c.place_among.ensures ∙ c.in-Some.is in
    let t = c.lend_tree.ensures in
    tree_told g.D.Disk _ c.in-Some.place _ c.lend_tree.new.job c.args.self.now.shared.now c.args.self.now.seats.now c.lend_tree.new.seats c.requires.ready t owner at
    (record { user = c.args.user.now; request = c.args.request.now }) c.args.loaded.now c.args.fetched.now c.args.now c.lend_tree.new.job.came t.turn.did_it.0

pub returns-clause-left : goal.returns-clause-left
returns-clause-left g c =
    let cells = c.args.self.now.shared.now.trees.items in
    let seats = c.args.self.now.seats.now.trees.items in
    let owner = c.args.owner.now in
    let at : position (is_seat_of owner) seats ≡ Some c.in-Some.place =
    sym (position_same owner cells seats c.requires.ready.trees) ∙ sym (ap (position (is_cell_of owner)) c.deref.ensures.value) ∙ sym c.place_among.ensures ∙ c.in-Some.is in
    let t = c.lend_tree.ensures in
    tree_looked g.D.Disk _ c.in-Some.place _ c.lend_tree.new.job c.args.self.now.shared.now c.args.self.now.seats.now c.lend_tree.new.seats c.requires.ready t owner at
    (record { user = c.args.user.now; request = c.args.request.now }) c.args.loaded.now c.args.fetched.now c.args.now c.lend_tree.new.job.came t.turn.did_it.0

pub returns-clause-tie : goal.returns-clause-tie
returns-clause-tie g c =
    let cells = c.args.self.now.shared.now.trees.items in
    let seats = c.args.self.now.seats.now.trees.items in
    let owner = c.args.owner.now in
    let at : position (is_seat_of owner) seats ≡ Some c.in-Some.place =
    sym (position_same owner cells seats c.requires.ready.trees) ∙ sym (ap (position (is_cell_of owner)) c.deref.ensures.value) ∙ sym c.place_among.ensures ∙ c.in-Some.is in
    tied_own g.D.Disk _ c.in-Some.place _ c.lend_tree.new.job c.args.self.now.shared.now c.args.self.now.seats.now c.lend_tree.new.seats c.requires.ready c.lend_tree.ensures owner at
    c.args.self.now.seats.ghost_name

pub lend_tree-requires-clause-can : goal.lend_tree-requires-clause-can
lend_tree-requires-clause-can g c = λ seat state there fixed begins.
    let cells = c.args.self.now.shared.now.trees.items in
    let seats = c.args.self.now.seats.now.trees.items in
    let owner = c.args.owner.now in
    let at : position (is_seat_of owner) seats ≡ Some c.in-Some.place =
    sym (position_same owner cells seats c.requires.ready.trees) ∙ sym (ap (position (is_cell_of owner)) c.deref.ensures.value) ∙ sym c.place_among.ensures ∙ c.in-Some.is in
    (c.requires.read, c.requires.moment, kept_there c.args.self.now.seats.now owner c.in-Some.place seat at there state fixed begins c.args.loaded.now c.replace.result (subst (KeepsSeen ((views_of c.args.self.now.seats.now).tree owner) c.args.loaded.now) (sym c.replace.ensures.value) c.requires.kept))

pub returns-clause-kept : goal.returns-clause-kept
returns-clause-kept g c =
    let cells = c.args.self.now.shared.now.trees.items in
    let seats = c.args.self.now.seats.now.trees.items in
    let owner = c.args.owner.now in
    let at : position (is_seat_of owner) seats ≡ Some c.in-Some.place =
    sym (position_same owner cells seats c.requires.ready.trees) ∙ sym (ap (position (is_cell_of owner)) c.deref.ensures.value) ∙ sym c.place_among.ensures ∙ c.in-Some.is in
    let t = c.lend_tree.ensures in
    subst (λ (k : KeptSearch). where_missing c.lend_tree.new.job.came (KeepsSeen ((views_of c.lend_tree.new.seats).tree owner) c.args.loaded.now k)) (sym c.swap.ensures.x_after)
    (tree_kept g.D.Disk _ c.in-Some.place _ c.lend_tree.new.job c.args.self.now.shared.now c.args.self.now.seats.now c.lend_tree.new.seats c.requires.ready t owner at
    c.args.loaded.now c.lend_tree.new.job.came c.lend_tree.new.job.kept t.turn.did_it.1)

pub returns-clause-quiet : goal.returns-clause-quiet
returns-clause-quiet g c =
    let cells = c.args.self.now.shared.now.trees.items in
    let seats = c.args.self.now.seats.now.trees.items in
    let owner = c.args.owner.now in
    let at : position (is_seat_of owner) seats ≡ Some c.in-Some.place =
    sym (position_same owner cells seats c.requires.ready.trees) ∙ sym (ap (position (is_cell_of owner)) c.deref.ensures.value) ∙ sym c.place_among.ensures ∙ c.in-Some.is in
    let t = c.lend_tree.ensures in
    turned_calm g.D.Disk _ c.in-Some.place _ c.lend_tree.new.job c.args.self.now.seats.now c.lend_tree.new.seats t owner at (tells_io c.lend_tree.new.job.came ≡ true)
    (tried_quiet g.D.Disk (record { user = c.args.user.now; request = c.args.request.now }) c.args.loaded.now c.args.fetched.now c.args.now t.turn.before t.turn.after c.lend_tree.new.job.came t.turn.did_it.0)
