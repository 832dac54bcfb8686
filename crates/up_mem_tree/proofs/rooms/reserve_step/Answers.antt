use Rattle.std.proofs.Common.{Some, sym, subst}
use Rattle.up_mem_tree.specs.Steps.{CanEnterAbove}
use Rattle.up_mem_tree.proofs.Reserved.{nothing_above, on_ok, still_above}
use Rattle.up_mem_tree.proofs.rooms.reserve_step.Goals as goal
use Rattle.up_mem_tree.proofs.rooms.reserve_step.Goals.{in-Some+in_ok-reserve_above, in_default}

pub returns-clause-ready : goal.returns-clause-ready
returns-clause-ready c =
    let before : CanEnterAbove c.match-step.slots.items c.args.step.now.parent = elim c.match-step.branch [
      | in-Some+in_ok-reserve_above w ↦ subst (λ parent. CanEnterAbove c.match-step.slots.items parent) (sym w.in-Some.is)
          (subst (λ slots. CanEnterAbove slots.items (Some w.in-Some.parent)) (sym w.slots-is) w.in_ok-reserve_above.ensures.room)
      | in_default w ↦ nothing_above c.match-step.slots.items c.args.step.now.parent w.in_default.is
    ] in
    on_ok c.reserve_own.result (λ own. record {
      above = still_above c.match-step.slots.items c.reserve_own.new.slots.items c.args.step.now.own c.args.step.now.parent c.requires.apart c.reserve_own.ensures.others before;
      own = own;
    }) c.reserve_own.ensures.room
