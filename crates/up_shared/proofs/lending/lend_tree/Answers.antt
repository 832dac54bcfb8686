use Rattle.std.proofs.Common.{◌≡◌, Some, ap, arith, refl, slice_get, subst, sym, ◌∙◌}
use Rattle.up_cell.specs.Turned.{Turned}
use Rattle.up_lists.specs.Begins.{Begins}
use Rattle.up_shared.specs.Sharing.{IsTreeSeat}
use Rattle.up_shared.proofs.Pairs.{each_at, each_length, read_at, some_same}
use Rattle.up_tree.specs.States.{entries_of, fixed_of}
use Rattle.up_shared.proofs.lending.lend_tree.Goals as goal

pub index_mut-requires : goal.index_mut-requires
index_mut-requires g c =
    let long = each_length IsTreeSeat c.args.shared.now.trees.items c.args.seats.now.trees.items c.requires.sits.trees in
    omega (arith, long, c.args.seats.now.trees.ok.0, c.requires.place)

pub seen-requires : goal.seen-requires
seen-requires g c =
    let long = each_length IsTreeSeat c.args.shared.now.trees.items c.args.seats.now.trees.items c.requires.sits.trees in
    let here : slice_get c.args.shared.now.trees.items c.args.place ≡ Some c.index.result.now = read_at c.args.shared.now.trees.items c.args.place c.index.result.now c.requires.place c.index.ensures in
    let mine : slice_get c.args.seats.now.trees.items c.args.place ≡ Some c.index_mut.result.now = read_at c.args.seats.now.trees.items c.args.place c.index_mut.result.now (omega (arith, long, c.requires.place)) c.index_mut.ensures.value in
    (each_at IsTreeSeat c.args.shared.now.trees.items c.args.seats.now.trees.items c.args.place c.index.result.now c.index_mut.result.now c.requires.sits.trees here mine).cell

pub lend-requires-clause-cell : goal.lend-requires-clause-cell
lend-requires-clause-cell g c =
    let long = each_length IsTreeSeat c.args.shared.now.trees.items c.args.seats.now.trees.items c.requires.sits.trees in
    let here : slice_get c.args.shared.now.trees.items c.args.place ≡ Some c.index.result.now = read_at c.args.shared.now.trees.items c.args.place c.index.result.now c.requires.place c.index.ensures in
    let mine : slice_get c.args.seats.now.trees.items c.args.place ≡ Some c.index_mut.result.now = read_at c.args.seats.now.trees.items c.args.place c.index_mut.result.now (omega (arith, long, c.requires.place)) c.index_mut.ensures.value in
    ap (λ k. k.cell) c.seen.ensures.seat ∙ (each_at IsTreeSeat c.args.shared.now.trees.items c.args.seats.now.trees.items c.args.place c.index.result.now c.index_mut.result.now c.requires.sits.trees here mine).cell

pub lend-requires-clause-can : goal.lend-requires-clause-can
lend-requires-clause-can g c = λ state lent.
    let long = each_length IsTreeSeat c.args.shared.now.trees.items c.args.seats.now.trees.items c.requires.sits.trees in
    let here : slice_get c.args.shared.now.trees.items c.args.place ≡ Some c.index.result.now = read_at c.args.shared.now.trees.items c.args.place c.index.result.now c.requires.place c.index.ensures in
    let mine : slice_get c.args.seats.now.trees.items c.args.place ≡ Some c.index_mut.result.now = read_at c.args.seats.now.trees.items c.args.place c.index_mut.result.now (omega (arith, long, c.requires.place)) c.index_mut.ensures.value in
    let at = each_at IsTreeSeat c.args.shared.now.trees.items c.args.seats.now.trees.items c.args.place c.index.result.now c.index_mut.result.now c.requires.sits.trees here mine in
    c.requires.can c.index_mut.result.now state mine
    (some_same (c.index_mut.result.now.owner, c.index_mut.result.now.limits) (fixed_of state) (sym at.fixed ∙ (sym (ap (λ k. k.fixed) c.seen.ensures.seat) ∙ lent.fixed_is)))
    (subst (λ seen. Begins seen state.log) (ap (λ k. k.seen) c.seen.ensures.seat) lent.begins)

pub returns : goal.returns
returns g c =
    let long = each_length IsTreeSeat c.args.shared.now.trees.items c.args.seats.now.trees.items c.requires.sits.trees in
    record {
      before = c.index_mut.result.now;
      there = read_at c.args.seats.now.trees.items c.args.place c.index_mut.result.now (omega (arith, long, c.requires.place)) c.index_mut.ensures.value;
      count = c.seen.result;
      seat = c.lend.new.seat;
      turn = subst (λ v. Turned entries_of (λ state. g.D.Disk.faults state.disk) fixed_of g.J.Job.did c.args.job.now c.lend.new.job v c.lend.new.seat) c.seen.ensures.seat c.lend.ensures;
      trees = refl;
      store = refl;
      store_limits = refl;
      keys = refl;
      keys_limits = refl;
    }
