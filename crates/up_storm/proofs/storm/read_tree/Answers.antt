use Rattle.std.proofs.Common.{◌≡◌, Some, arith, slice_get, ◌∙◌}
use Rattle.up_shared.proofs.Pairs.{each_at, each_length, each_set, read_at}
use Rattle.up_shared.specs.Sharing.{IsTreeSeat}
use Rattle.up_storm.proofs.ReadingLemmas.{read_ok, set_other}
use Rattle.up_storm.proofs.storm.read_tree.Goals as goal

pub index_mut-requires : goal.index_mut-requires
index_mut-requires g c =
    let long = each_length IsTreeSeat c.args.shared.now.trees.items c.args.seats.now.trees.items c.requires.sits.trees in
    omega (arith, long, c.args.seats.now.trees.ok.0, c.requires.place)

pub read_log-requires : goal.read_log-requires
read_log-requires g c =
    let long = each_length IsTreeSeat c.args.shared.now.trees.items c.args.seats.now.trees.items c.requires.sits.trees in
    let here : slice_get c.args.shared.now.trees.items c.args.place ≡ Some c.index.result.now = read_at c.args.shared.now.trees.items c.args.place c.index.result.now c.requires.place c.index.ensures in
    let mine : slice_get c.args.seats.now.trees.items c.args.place ≡ Some c.index_mut.result.now = read_at c.args.seats.now.trees.items c.args.place c.index_mut.result.now (omega (arith, long, c.requires.place)) c.index_mut.ensures.value in
    (each_at IsTreeSeat c.args.shared.now.trees.items c.args.seats.now.trees.items c.args.place c.index.result.now c.index_mut.result.now c.requires.sits.trees here mine).cell

pub returns-clause-sits : goal.returns-clause-sits
returns-clause-sits g c =
    let long = each_length IsTreeSeat c.args.shared.now.trees.items c.args.seats.now.trees.items c.requires.sits.trees in
    let here : slice_get c.args.shared.now.trees.items c.args.place ≡ Some c.index.result.now = read_at c.args.shared.now.trees.items c.args.place c.index.result.now c.requires.place c.index.ensures in
    let mine : slice_get c.args.seats.now.trees.items c.args.place ≡ Some c.index_mut.result.now = read_at c.args.seats.now.trees.items c.args.place c.index_mut.result.now (omega (arith, long, c.requires.place)) c.index_mut.ensures.value in
    let at = each_at IsTreeSeat c.args.shared.now.trees.items c.args.seats.now.trees.items c.args.place c.index.result.now c.index_mut.result.now c.requires.sits.trees here mine in
    record {
      trees = each_set IsTreeSeat c.args.shared.now.trees.items c.args.seats.now.trees.items c.args.place c.index.result.now (record c.index_mut.result.now { seat = c.read_log.new.seat }) c.requires.sits.trees here (record {
        owner = at.owner;
        cell = c.read_log.ensures.later.cell ∙ at.cell;
        fixed = c.read_log.ensures.later.fixed ∙ at.fixed;
      });
      store = c.requires.sits.store;
      store_fixed = c.requires.sits.store_fixed;
      keys = c.requires.sits.keys;
      keys_fixed = c.requires.sits.keys_fixed;
    }

pub returns-clause-others : goal.returns-clause-others
returns-clause-others g c = λ i other. set_other c.args.seats.now.trees.items c.args.place i (record c.index_mut.result.now { seat = c.read_log.new.seat }) other

pub returns-clause-read : goal.returns-clause-read
returns-clause-read g c =
    let long = each_length IsTreeSeat c.args.shared.now.trees.items c.args.seats.now.trees.items c.requires.sits.trees in
    read_ok c.args.full c.args.seats.now c.args.place c.index_mut.result.now c.read_log.result
    (read_at c.args.seats.now.trees.items c.args.place c.index_mut.result.now (omega (arith, long, c.requires.place)) c.index_mut.ensures.value) c.read_log.ensures.read
