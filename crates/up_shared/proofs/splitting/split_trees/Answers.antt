use Rattle.std.proofs.Common.{◌≡◌, ◌∷◌, ◌++◌, [], length, length-append, ap, sym, subst, ◌∙◌, arith, slice_get, slice_set, Some}
use Rattle.up_shared.proofs.Halves.{Halving, halving_all, halving_ends, halving_next}
use Rattle.up_shared.proofs.Pairs.{each_at, each_length, get_within, no_front, read_at, some_same}
use Rattle.up_shared.specs.Sharing.{IsTreeSeat}
use Rattle.up_shared.specs.Splits.{first_tree, second_tree}
use Rattle.up_shared.proofs.splitting.split_trees.Goals as goal

pub returns-in_default : goal.returns-in_default
returns-in_default g c =
    let none = no_front c.loop-i.left.items (c.in_default.ensures.items ∙ c.in_default.ensures.rest) in
    let ended = halving_ends c.args.seats.now.items c.loop-i.left.items c.loop-i.seats.items c.loop-i.others.items c.loop-i.invariant.so_far none in
    record { first = ended.0; second = ended.1 }

pub index_mut-requires : goal.index_mut-requires
index_mut-requires g c =
    let next = halving_next c.args.seats.now.items c.loop-i.left.items c.loop-i.seats.items c.loop-i.others.items c.in-Some.owner c.pop_front.new.self.items c.loop-i.invariant.so_far c.in-Some.ensures.items in
    let within = get_within c.loop-i.seats.items (length c.loop-i.others.items) next.place next.here in
    omega (arith, within, c.loop-i.invariant.so_many, c.loop-i.seats.ok.0)

pub split_tree-other-requires-clause-sits : goal.split_tree-other-requires-clause-sits
split_tree-other-requires-clause-sits g c =
    let next = halving_next c.args.seats.now.items c.loop-i.left.items c.loop-i.seats.items c.loop-i.others.items c.in-Some.owner c.pop_front.new.self.items c.loop-i.invariant.so_far c.in-Some.ensures.items in
    let within = get_within c.loop-i.seats.items (length c.loop-i.others.items) next.place next.here in
    let mine : slice_get c.loop-i.seats.items c.loop-i.i ≡ Some c.index_mut.result.now = read_at c.loop-i.seats.items c.loop-i.i c.index_mut.result.now (omega (arith, within, c.loop-i.invariant.so_many)) c.index_mut.ensures.value in
    let same = some_same next.place c.index_mut.result.now (sym next.here ∙ ap (slice_get c.loop-i.seats.items) c.loop-i.invariant.so_many ∙ mine) in
    let here : slice_get c.args.cells.now c.loop-i.i ≡ Some c.index-cells-i.result = read_at c.args.cells.now c.loop-i.i c.index-cells-i.result c.loop-i-test.true c.index-cells-i.is in
    subst (IsTreeSeat c.index-cells-i.result) same
    (each_at IsTreeSeat c.args.cells.now c.args.seats.now.items c.loop-i.i c.index-cells-i.result next.place c.requires.sits here (ap (slice_get c.args.seats.now.items) (sym c.loop-i.invariant.so_many) ∙ next.before))

pub split_tree-other-requires-clause-owner : goal.split_tree-other-requires-clause-owner
split_tree-other-requires-clause-owner g c =
    let next = halving_next c.args.seats.now.items c.loop-i.left.items c.loop-i.seats.items c.loop-i.others.items c.in-Some.owner c.pop_front.new.self.items c.loop-i.invariant.so_far c.in-Some.ensures.items in
    let within = get_within c.loop-i.seats.items (length c.loop-i.others.items) next.place next.here in
    let mine : slice_get c.loop-i.seats.items c.loop-i.i ≡ Some c.index_mut.result.now = read_at c.loop-i.seats.items c.loop-i.i c.index_mut.result.now (omega (arith, within, c.loop-i.invariant.so_many)) c.index_mut.ensures.value in
    let same = some_same next.place c.index_mut.result.now (sym next.here ∙ ap (slice_get c.loop-i.seats.items) c.loop-i.invariant.so_many ∙ mine) in
    next.owner_is ∙ ap (λ place. place.owner) same

pub push_reserved-requires : goal.push_reserved-requires
push_reserved-requires g c =
    let room = c.loop-i.invariant.room in
    let items = ap length c.in-Some.ensures.items in
    omega (arith, room, items)

pub loop-i-preserved : goal.loop-i-preserved
loop-i-preserved g c =
    let next = halving_next c.args.seats.now.items c.loop-i.left.items c.loop-i.seats.items c.loop-i.others.items c.in-Some.owner c.pop_front.new.self.items c.loop-i.invariant.so_far c.in-Some.ensures.items in
    let within = get_within c.loop-i.seats.items (length c.loop-i.others.items) next.place next.here in
    let mine : slice_get c.loop-i.seats.items c.loop-i.i ≡ Some c.index_mut.result.now = read_at c.loop-i.seats.items c.loop-i.i c.index_mut.result.now (omega (arith, within, c.loop-i.invariant.so_many)) c.index_mut.ensures.value in
    let same = some_same next.place c.index_mut.result.now (sym next.here ∙ ap (slice_get c.loop-i.seats.items) c.loop-i.invariant.so_many ∙ mine) in
    let first : first_tree next.place ≡ c.split_tree-other.new.place = ap first_tree same ∙ sym c.split_tree-other.ensures.first in
    let second : second_tree next.place ≡ c.split_tree-other.result = ap second_tree same ∙ sym c.split_tree-other.ensures.second in
    let grown = c.push_reserved.ensures.items in
    record {
      so_far =
          subst (Halving c.args.seats.now.items c.pop_front.new.self.items (slice_set c.loop-i.seats.items c.loop-i.i c.split_tree-other.new.place)) (ap (λ place. c.loop-i.others.items ++ place ∷ []) second ∙ sym grown)
          (subst (λ place. Halving c.args.seats.now.items c.pop_front.new.self.items (slice_set c.loop-i.seats.items c.loop-i.i place) (c.loop-i.others.items ++ second_tree next.place ∷ [])) first
          (subst (λ n. Halving c.args.seats.now.items c.pop_front.new.self.items (slice_set c.loop-i.seats.items n (first_tree next.place)) (c.loop-i.others.items ++ second_tree next.place ∷ [])) c.loop-i.invariant.so_many next.step));
      so_many = let long = ap length grown in let more = length-append c.loop-i.others.items (c.split_tree-other.result ∷ []) in let i = c.loop-i.invariant.so_many in omega (arith, long, more, i);
      room = let room = c.loop-i.invariant.room in let items = ap length c.in-Some.ensures.items in let len = c.push_reserved.ensures.len in let kept = c.push_reserved.ensures.capacity in omega (arith, room, items, len, kept);
    }

pub returns : goal.returns
returns g c =
    let even = each_length IsTreeSeat c.args.cells.now c.args.seats.now.items c.requires.sits in
    let many = c.loop-i.invariant.so_many in
    let ended = halving_all c.args.seats.now.items c.loop-i.left.items c.loop-i.seats.items c.loop-i.others.items c.loop-i.invariant.so_far (omega (arith, even, many, c.loop-i-test.false)) in
    record { first = ended.0; second = ended.1 }
