use Rattle.std.proofs.Common.{Global, refl, sym, subst}
use Rattle.std.specs.Vec.{with_item}
use Rattle.up_mem_tree.specs.Steps.{IsApart, IsInRange}
use Rattle.up_mem_tree.proofs.Reserved.{room_there}
use Rattle.up_mem_tree.proofs.SlotLemmas.{get_set, get-set, known_alike, read_at, set_alike}
use Rattle.up_mem_tree.proofs.rooms.reserve_own.Goals as goal

pub returns-in-There-clause-same : goal.returns-in-There-clause-same
returns-in-There-clause-same c =
    let there = read_at c.args.slots.now.items c.in-There.id c.index_mut.result.now (subst (IsInRange c.args.slots.now.items) c.in-There.is c.requires.range) c.index_mut.ensures.value in
    set_alike c.args.slots.now.items c.in-There.id c.index_mut.result.now _ there (known_alike _ c.index_mut.result.now refl refl refl refl refl refl c.reserve_change.ensures.items)

pub returns-in-There-clause-others : goal.returns-in-There-clause-others
returns-in-There-clause-others c id apart = get-set c.args.slots.now.items c.in-There.id id _ (λ same. subst (λ own. IsApart own id) c.in-There.is apart (sym same))

pub returns-in-There-clause-room : goal.returns-in-There-clause-room
returns-in-There-clause-room c =
    let there = read_at c.args.slots.now.items c.in-There.id c.index_mut.result.now (subst (IsInRange c.args.slots.now.items) c.in-There.is c.requires.range) c.index_mut.ensures.value in
    room_there {A = Global} c.reserve_change.result (with_item c.args.slots.now c.in-There.id (record c.index_mut.result.now { group = c.reserve_change.new.changes })) c.args.own.now c.in-There.id (record c.index_mut.result.now { group = c.reserve_change.new.changes }) c.args.group.now c.in-There.is
    (get_set c.args.slots.now.items c.in-There.id c.index_mut.result.now _ there) c.reserve_change.ensures.room
