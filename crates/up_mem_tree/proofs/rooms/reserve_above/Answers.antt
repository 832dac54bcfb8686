use Rattle.std.proofs.Common.{Some, refl, ap, subst, ◌∙◌}
use Rattle.up_mem_tree.specs.declared.slots.Slot.{Slot}
use Rattle.up_mem_tree.specs.Edits.{IsWithin}
use Rattle.up_mem_tree.proofs.Reserved.{on_ok}
use Rattle.up_mem_tree.proofs.SlotLemmas.{get_set, known_alike, read_there, set_alike}
use Rattle.up_mem_tree.proofs.rooms.reserve_above.Goals as goal

pub returns-in_err-reserve_siblings-clause-same : goal.returns-in_err-reserve_siblings-clause-same
returns-in_err-reserve_siblings-clause-same c =
    let there = c.requires.1 ∙ ap Some (read_there c.args.slots.now.items c.args.parent.now.id c.requires.0 c.index_mut-slot.result.now c.requires.1 c.index_mut-slot.ensures.value) in
    set_alike c.args.slots.now.items c.args.parent.now.id c.index_mut-slot.result.now _ there (known_alike _ c.index_mut-slot.result.now refl refl refl c.reserve_siblings.ensures.items refl refl refl)

pub returns-in_err-reserve_siblings-2-clause-same : goal.returns-in_err-reserve_siblings-2-clause-same
returns-in_err-reserve_siblings-2-clause-same c =
    let there = c.requires.1 ∙ ap Some (read_there c.args.slots.now.items c.args.parent.now.id c.requires.0 c.index_mut-slot.result.now c.requires.1 c.index_mut-slot.ensures.value) in
    set_alike c.args.slots.now.items c.args.parent.now.id c.index_mut-slot.result.now _ there (known_alike _ c.index_mut-slot.result.now refl refl refl c.reserve_siblings.ensures.items c.reserve_siblings-2.ensures.items refl refl)

pub returns-clause-same : goal.returns-clause-same
returns-clause-same c =
    let there = c.requires.1 ∙ ap Some (read_there c.args.slots.now.items c.args.parent.now.id c.requires.0 c.index_mut-slot.result.now c.requires.1 c.index_mut-slot.ensures.value) in
    set_alike c.args.slots.now.items c.args.parent.now.id c.index_mut-slot.result.now _ there (known_alike _ c.index_mut-slot.result.now refl refl refl c.reserve_siblings.ensures.items c.reserve_siblings-2.ensures.items c.reserve_change.ensures.items refl)

pub returns-clause-room : goal.returns-clause-room
returns-clause-room c =
    let same = read_there c.args.slots.now.items c.args.parent.now.id c.requires.0 c.index_mut-slot.result.now c.requires.1 c.index_mut-slot.ensures.value in
    let there = c.requires.1 ∙ ap Some same in
    on_ok c.reserve_change.result (λ room. (
      _,
      get_set c.args.slots.now.items c.args.parent.now.id c.index_mut-slot.result.now _ there,
      c.in_ok-reserve_siblings.ensures.room (subst (λ (slot : Slot). IsWithin slot.named.items c.args.parent.now.named) same c.requires.2),
      c.in_ok-reserve_siblings-2.ensures.room (subst (λ (slot : Slot). IsWithin slot.children.items c.args.parent.now.children) same c.requires.3),
      room,
    )) c.reserve_change.ensures.room
