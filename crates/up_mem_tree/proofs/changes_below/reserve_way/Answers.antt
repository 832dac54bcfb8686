use Rattle.std.proofs.Common.{◌≡◌, ◌-◌, ◌+◌, ◌<◌, Some, refl, sym, subst, ap, ◌∙◌, arith}
use Rattle.up_names.specs.PathNames.{cut}
use Rattle.up_mem_tree.specs.Kept.{paths_of, slots_of}
use Rattle.up_mem_tree.specs.Slots.{IsDeepest}
use Rattle.up_mem_tree.specs.ChangesBelow.{HasRoomFrom}
use Rattle.up_mem_tree.proofs.Reserved.{on_ok}
use Rattle.up_mem_tree.proofs.Upward.{never, up_to}
use Rattle.up_mem_tree.proofs.Walks.{id_within}
use Rattle.up_mem_tree.proofs.Ways.{as_long, room_below, room_more, room_nowhere}
use Rattle.up_mem_tree.proofs.changes_below.reserve_way.Goals as goal

pub returns-in_default : goal.returns-in_default
returns-in_default c = record {
  same = refl;
  room = room_nowhere c.args.kept.now c.requires.stands c.args.path.now c.args.changes_below.now.items (subst (IsDeepest (paths_of c.args.kept.now) (slots_of c.args.kept.now) c.args.path.now) c.in_default.is c.requires.deepest);
}

pub loop-up-init : goal.loop-up-init
loop-up-init c =
    let kept = c.args.kept.now in
    let path = c.args.path.now in
    let deep = subst (IsDeepest (paths_of c.args.kept.now) (slots_of c.args.kept.now) c.args.path.now) c.in-Some.is c.requires.deepest in
    let some = deep.some c.in-Some.depth c.in-Some.deepest refl in
    let whole : c.in-Some.depth - 0 ≡ c.in-Some.depth = omega arith in (
      omega arith,
      some.0,
      some.1 ∙ ap (λ m. Some (cut m path)) (sym whole),
      refl,
      subst (λ m. HasRoomFrom c.args.changes_below.now.items (slots_of kept) path (m + 1)) (sym whole) (room_below kept c.requires.stands path c.args.changes_below.now.items c.in-Some.depth c.in-Some.deepest deep),
    )

pub reserve_at-requires : goal.reserve_at-requires
reserve_at-requires c =
    let i = c.loop-up.invariant in
    let within = id_within (slots_of c.args.kept.now) c.loop-up.id (cut (c.in-Some.depth - c.loop-up._up) c.args.path.now) i.2 in
    let long = as_long c.loop-up.changes_below.items c.args.changes_below.now.items i.3 in
    let enough = c.requires.enough in
    omega (arith, within, long, enough)

pub unreachable-requires : goal.unreachable-requires
unreachable-requires c =
    let i = c.loop-up.invariant in
    let m = c.in-Some.depth - c.loop-up._up in
    never c.args.kept.now c.requires.stands c.args.path.now m c.loop-up.id (omega (arith, c.loop-up-test.true)) (omega (arith, i.0, i.1)) i.2 c.id_above.result (c.id_above.ensures (cut m c.args.path.now) i.2) c.in_default-id_above.is

pub loop-up-preserved : goal.loop-up-preserved
loop-up-preserved c =
    let kept = c.args.kept.now in
    let path = c.args.path.now in
    let i = c.loop-up.invariant in
    let m = c.in-Some.depth - c.loop-up._up in
    let positive : 0 < m = omega (arith, c.loop-up-test.true) in
    let less : m - 1 ≡ c.in-Some.depth - (c.loop-up._up + 1) = omega arith in
    let next : m ≡ c.in-Some.depth - (c.loop-up._up + 1) + 1 = omega (arith, positive) in
    let done = c.in_default-reserve_at.ensures in (
      omega (arith, c.loop-up-test.true),
      i.1,
      up_to kept c.requires.stands path m c.loop-up.id positive (omega (arith, i.0, i.1)) i.2 c.id_above.result (c.id_above.ensures (cut m path) i.2) c.in-Some-id_above.above c.in-Some-id_above.is ∙ ap (λ k. Some (cut k path)) less,
      done.same ∙ i.3,
      subst (HasRoomFrom c.reserve_at.new.changes_below.items (slots_of kept) path) next (room_more kept c.requires.stands path c.loop-up.changes_below.items c.reserve_at.new.changes_below.items m c.loop-up.id i.2 i.4 done.others done.room),
    )

pub reserve_at-requires-2 : goal.reserve_at-requires-2
reserve_at-requires-2 c =
    let i = c.loop-up.invariant in
    let within = id_within (slots_of c.args.kept.now) c.loop-up.id (cut (c.in-Some.depth - c.loop-up._up) c.args.path.now) i.2 in
    let long = as_long c.loop-up.changes_below.items c.args.changes_below.now.items i.3 in
    let enough = c.requires.enough in
    omega (arith, within, long, enough)

pub returns-clause-room : goal.returns-clause-room
returns-clause-room c =
    let kept = c.args.kept.now in
    let path = c.args.path.now in
    let i = c.loop-up.invariant in
    let root : c.in-Some.depth - c.loop-up._up ≡ 0 = omega (arith, c.loop-up-test.false) in
    on_ok c.reserve_at-2.result
    (λ room. room_more kept c.requires.stands path c.loop-up.changes_below.items c.reserve_at-2.new.changes_below.items 0 c.loop-up.id (i.2 ∙ ap (λ m. Some (cut m path)) root) (subst (λ m. HasRoomFrom c.loop-up.changes_below.items (slots_of kept) path (m + 1)) root i.4) c.reserve_at-2.ensures.others room)
    c.reserve_at-2.ensures.room
