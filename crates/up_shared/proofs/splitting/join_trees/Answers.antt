use Rattle.std.proofs.Common.{◌≡◌, ◌+◌, ap, sym, subst, ◌∙◌, arith, slice_get, slice_set, Some}
use Rattle.up_shared.proofs.Halves.{Joining, joining_all, joining_ends, joining_next}
use Rattle.up_shared.proofs.Pairs.{each_at, each_length, get_within, no_front, read_at, some_same}
use Rattle.up_shared.specs.Sharing.{IsTreeSeat}
use Rattle.up_shared.specs.Splits.{SeenAlike, both_trees}
use Rattle.up_shared.proofs.splitting.join_trees.Goals as goal

pub returns-in_default : goal.returns-in_default
returns-in_default g c =
    let one = each_length IsTreeSeat c.args.cells.now c.args.seats.now.items c.requires.these in
    let other = each_length IsTreeSeat c.args.cells.now c.args.others.items c.requires.those in
    let ends = joining_ends c.loop-i.i c.args.seats.now.items c.args.others.items c.loop-i.left.items c.loop-i.seats.items (one ∙ sym other) c.loop-i.invariant
    (no_front c.loop-i.left.items (c.in_default.ensures.items ∙ c.in_default.ensures.rest)) in
    record { joined = ends.0; alike = ends.1 }

pub index_mut-requires : goal.index_mut-requires
index_mut-requires g c =
    let one = each_length IsTreeSeat c.args.cells.now c.args.seats.now.items c.requires.these in
    let other = each_length IsTreeSeat c.args.cells.now c.args.others.items c.requires.those in
    let next = joining_next c.loop-i.i c.args.seats.now.items c.args.others.items c.loop-i.left.items c.loop-i.seats.items c.in-Some.other c.pop_front.new.self.items (one ∙ sym other) c.loop-i.invariant c.in-Some.ensures.items in
    let within = get_within c.loop-i.seats.items c.loop-i.i next.place next.here in
    omega (arith, within, c.loop-i.seats.ok.0)

pub join_tree-requires-clause-this : goal.join_tree-requires-clause-this
join_tree-requires-clause-this g c =
    let one = each_length IsTreeSeat c.args.cells.now c.args.seats.now.items c.requires.these in
    let other = each_length IsTreeSeat c.args.cells.now c.args.others.items c.requires.those in
    let next = joining_next c.loop-i.i c.args.seats.now.items c.args.others.items c.loop-i.left.items c.loop-i.seats.items c.in-Some.other c.pop_front.new.self.items (one ∙ sym other) c.loop-i.invariant c.in-Some.ensures.items in
    let within = get_within c.loop-i.seats.items c.loop-i.i next.place next.here in
    let mine : slice_get c.loop-i.seats.items c.loop-i.i ≡ Some c.index_mut.result.now = read_at c.loop-i.seats.items c.loop-i.i c.index_mut.result.now within c.index_mut.ensures.value in
    let same = some_same next.place c.index_mut.result.now (sym next.here ∙ mine) in
    let here : slice_get c.args.cells.now c.loop-i.i ≡ Some c.index-cells-i.result = read_at c.args.cells.now c.loop-i.i c.index-cells-i.result c.loop-i-test.true c.index-cells-i.is in
    subst (IsTreeSeat c.index-cells-i.result) same (each_at IsTreeSeat c.args.cells.now c.args.seats.now.items c.loop-i.i c.index-cells-i.result next.place c.requires.these here next.before)

pub join_tree-requires-clause-that : goal.join_tree-requires-clause-that
join_tree-requires-clause-that g c =
    let one = each_length IsTreeSeat c.args.cells.now c.args.seats.now.items c.requires.these in
    let other = each_length IsTreeSeat c.args.cells.now c.args.others.items c.requires.those in
    let next = joining_next c.loop-i.i c.args.seats.now.items c.args.others.items c.loop-i.left.items c.loop-i.seats.items c.in-Some.other c.pop_front.new.self.items (one ∙ sym other) c.loop-i.invariant c.in-Some.ensures.items in
    let here : slice_get c.args.cells.now c.loop-i.i ≡ Some c.index-cells-i.result = read_at c.args.cells.now c.loop-i.i c.index-cells-i.result c.loop-i-test.true c.index-cells-i.is in
    each_at IsTreeSeat c.args.cells.now c.args.others.items c.loop-i.i c.index-cells-i.result c.in-Some.other c.requires.those here next.that

pub loop-i-preserved : goal.loop-i-preserved
loop-i-preserved g c =
    let one = each_length IsTreeSeat c.args.cells.now c.args.seats.now.items c.requires.these in
    let other = each_length IsTreeSeat c.args.cells.now c.args.others.items c.requires.those in
    let next = joining_next c.loop-i.i c.args.seats.now.items c.args.others.items c.loop-i.left.items c.loop-i.seats.items c.in-Some.other c.pop_front.new.self.items (one ∙ sym other) c.loop-i.invariant c.in-Some.ensures.items in
    let within = get_within c.loop-i.seats.items c.loop-i.i next.place next.here in
    let mine : slice_get c.loop-i.seats.items c.loop-i.i ≡ Some c.index_mut.result.now = read_at c.loop-i.seats.items c.loop-i.i c.index_mut.result.now within c.index_mut.ensures.value in
    let same = some_same next.place c.index_mut.result.now (sym next.here ∙ mine) in
    let joined : both_trees next.place c.in-Some.other ≡ c.join_tree.new.place = ap (λ place. both_trees place c.in-Some.other) same ∙ sym c.join_tree.ensures.joined in
    subst (λ place. Joining (c.loop-i.i + 1) c.args.seats.now.items c.args.others.items c.pop_front.new.self.items (slice_set c.loop-i.seats.items c.loop-i.i place)) joined
    (next.step (subst (λ place. SeenAlike place c.in-Some.other) (sym same) c.join_tree.ensures.alike))

pub returns : goal.returns
returns g c =
    let one = each_length IsTreeSeat c.args.cells.now c.args.seats.now.items c.requires.these in
    let other = each_length IsTreeSeat c.args.cells.now c.args.others.items c.requires.those in
    let all = joining_all c.loop-i.i c.args.seats.now.items c.args.others.items c.loop-i.left.items c.loop-i.seats.items (one ∙ sym other) c.loop-i.invariant (omega (arith, other, c.loop-i-test.false)) in
    record { joined = all.0; alike = all.1 }
