use Rattle.std.proofs.Common.{subst, arith}
use Rattle.up_mem_tree.specs.ChangesBelow.{HasRoomAt}
use Rattle.up_mem_tree.proofs.Reserved.{on_ok}
use Rattle.up_mem_tree.proofs.Ways.{can_note, next_number}
use Rattle.up_mem_tree.proofs.changes_below.make_room_for.Goals as goal

pub returns-in-Ok-clause-room : goal.returns-in-Ok-clause-room
returns-in-Ok-clause-room c =
    let kept = c.args.kept.now in
    let next = next_number kept c.len.result c.len.ensures in
    on_ok c.reserve_spare.result
    (λ room. can_note kept c.requires.stands c.args.path.now c.reserve_way.new.changes_below.items c.reserve_spare.new.changes_below.items c.in-Ok.ensures.room (λ i lt. c.reserve_spare.ensures.others i (omega (arith, lt, next)))
    (subst (HasRoomAt c.reserve_spare.new.changes_below.items) next room)) c.reserve_spare.ensures.room
