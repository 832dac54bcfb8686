use Rattle.std.proofs.Common.{◌≡◌, ◌<◌, Err, Some, length, ap, arith, refl, slice_get, subst, sym, ◌∙◌}
use Rattle.up_cell.specs.Turned.{Turned}
use Rattle.std.specs.Result.{result_ok}
use Rattle.up_feed.proofs.PullLemmas.{pulls_by, reads_batch}
use Rattle.up_feed.proofs.pulling.pull_at.Goals as goal
use Rattle.std.specs.Prelude.{alloc_error}
use Rattle.up_feed.specs.declared.pulling.ReadBatch.{ReadBatch}
use Rattle.up_shared.proofs.Pairs.{each_at, each_length, read_at}
use Rattle.up_shared.proofs.Places.{position_same}
use Rattle.up_shared.specs.Sharing.{IsTreeSeat}
use Rattle.up_tree.specs.States.{State, entries_of, fixed_of}

pub index_mut-requires : goal.index_mut-requires
index_mut-requires g c =
    let long = each_length IsTreeSeat c.args.shared.now.trees.items c.args.seats.now.trees.items c.requires.sits.trees in
    omega (arith, long, c.args.seats.now.trees.ok.0, c.requires.place)

pub seen-requires : goal.seen-requires
seen-requires g c =
    let long = each_length IsTreeSeat c.args.shared.now.trees.items c.args.seats.now.trees.items c.requires.sits.trees in
    let here : slice_get c.args.shared.now.trees.items c.args.place ≡ Some c.index.result.now = read_at c.args.shared.now.trees.items c.args.place c.index.result.now c.requires.place c.index.ensures in
    let mine : slice_get c.args.seats.now.trees.items c.args.place ≡ Some c.index_mut.result.now = read_at c.args.seats.now.trees.items c.args.place c.index_mut.result.now (omega (arith, long, c.requires.place)) c.index_mut.ensures.value in
    (each_at IsTreeSeat c.args.shared.now.trees.items c.args.seats.now.trees.items c.args.place c.index.result.now c.index_mut.result.now c.requires.sits.trees here mine).cell

pub lend-requires-clause-cell : goal.lend-requires-clause-cell
lend-requires-clause-cell g c =
    let long = each_length IsTreeSeat c.args.shared.now.trees.items c.args.seats.now.trees.items c.requires.sits.trees in
    let here : slice_get c.args.shared.now.trees.items c.args.place ≡ Some c.index.result.now = read_at c.args.shared.now.trees.items c.args.place c.index.result.now c.requires.place c.index.ensures in
    let mine : slice_get c.args.seats.now.trees.items c.args.place ≡ Some c.index_mut.result.now = read_at c.args.seats.now.trees.items c.args.place c.index_mut.result.now (omega (arith, long, c.requires.place)) c.index_mut.ensures.value in
    ap (λ k. k.cell) c.seen.ensures.seat ∙ (each_at IsTreeSeat c.args.shared.now.trees.items c.args.seats.now.trees.items c.args.place c.index.result.now c.index_mut.result.now c.requires.sits.trees here mine).cell

pub returns : goal.returns
returns g c = λ owner at.
    let long = each_length IsTreeSeat c.args.shared.now.trees.items c.args.seats.now.trees.items c.requires.sits.trees in
    let less : c.args.place < length c.args.seats.now.trees.items = omega (arith, long, c.requires.place) in
    let job : ReadBatch = record { alloc = c.args.alloc; from = c.args.from; given = Err alloc_error } in
    let turn = subst (λ v. Turned entries_of (λ (state : State g.row.D.Denot). g.D.Disk.faults state.disk) fixed_of (reads_batch {D = g.row.D.Denot}) job c.lend.new.job v c.lend.new.seat) c.seen.ensures.seat c.lend.ensures in
    pulls_by g.D.Disk (reads_batch {D = g.row.D.Denot}) c.args.place job c.lend.new.job c.args.seats.now _ (record {
      before = c.index_mut.result.now;
      there = read_at c.args.seats.now.trees.items c.args.place c.index_mut.result.now less c.index_mut.ensures.value;
      count = c.seen.result;
      seat = c.lend.new.seat;
      turn = turn;
      trees = refl;
      store = refl;
      store_limits = refl;
      keys = refl;
      keys_limits = refl;
    }) owner (sym (position_same owner c.args.shared.now.trees.items c.args.seats.now.trees.items c.requires.sits.trees) ∙ at) c.args.from (result_ok c.lend.new.job.given) turn.did_it
