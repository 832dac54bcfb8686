use Rattle.std.proofs.Common.{◌≡◌, ◌-◌, ◌+◌, ◌<◌, ◌==◌, Some, refl, sym, subst, ap, ◌∙◌, arith}
use Rattle.up_names.specs.PathNames.{cut}
use Rattle.up_mem_tree.specs.Kept.{paths_of, slots_of}
use Rattle.up_mem_tree.specs.Slots.{IsDeepest}
use Rattle.up_mem_tree.specs.ChangesBelow.{NotesWay}
use Rattle.up_mem_tree.proofs.Upward.{never, up_to}
use Rattle.up_mem_tree.proofs.Walks.{never_deepest}
use Rattle.up_mem_tree.proofs.Ways.{named_at, notes_more, notes_none, notes_nowhere, room_next}
use Rattle.up_mem_tree.proofs.changes_below.note_way.Goals as goal

pub returns-in_default : goal.returns-in_default
returns-in_default c = record {
  notes = notes_nowhere c.args.kept.now c.requires.stands c.args.path.now c.args.changes_below.now.items c.args.position (subst (IsDeepest (paths_of c.args.kept.now) (slots_of c.args.kept.now) c.args.path.now) c.in_default.is c.requires.deepest);
  named = sym (never_deepest c.args.kept.now.owner (paths_of c.args.kept.now) (slots_of c.args.kept.now) c.requires.stands.linked c.args.path.now (subst (IsDeepest (paths_of c.args.kept.now) (slots_of c.args.kept.now) c.args.path.now) c.in_default.is c.requires.deepest));
}

pub loop-up-init : goal.loop-up-init
loop-up-init c =
    let kept = c.args.kept.now in
    let path = c.args.path.now in
    let deep = subst (IsDeepest (paths_of c.args.kept.now) (slots_of c.args.kept.now) c.args.path.now) c.in-Some.is c.requires.deepest in
    let some = deep.some c.in-Some.depth c.in-Some.deepest refl in
    let whole : c.in-Some.depth - 0 ≡ c.in-Some.depth = omega arith in (
      omega arith,
      some.0,
      some.1 ∙ ap (λ m. Some (cut m path)) (sym whole),
      subst (λ m. NotesWay (slots_of kept) path (m + 1) c.args.position c.args.changes_below.now.items c.args.changes_below.now.items) (sym whole)
          (notes_none kept c.requires.stands path c.args.changes_below.now.items c.in-Some.depth c.in-Some.deepest c.args.position deep),
    )

pub note_at-requires : goal.note_at-requires
note_at-requires c =
    let i = c.loop-up.invariant in
    room_next c.args.kept.now c.requires.stands c.args.path.now c.args.changes_below.now.items c.loop-up.changes_below.items (c.in-Some.depth - c.loop-up._up) c.loop-up.id c.args.position (omega (arith, i.0, i.1)) i.2 c.requires.room i.3

pub unreachable-requires : goal.unreachable-requires
unreachable-requires c =
    let i = c.loop-up.invariant in
    let m = c.in-Some.depth - c.loop-up._up in
    never c.args.kept.now c.requires.stands c.args.path.now m c.loop-up.id (omega (arith, c.loop-up-test.true)) (omega (arith, i.0, i.1)) i.2 c.id_above.result (c.id_above.ensures (cut m c.args.path.now) i.2) c.in_default-id_above.is

pub loop-up-preserved : goal.loop-up-preserved
loop-up-preserved c =
    let kept = c.args.kept.now in
    let path = c.args.path.now in
    let i = c.loop-up.invariant in
    let m = c.in-Some.depth - c.loop-up._up in
    let positive : 0 < m = omega (arith, c.loop-up-test.true) in
    let less : m - 1 ≡ c.in-Some.depth - (c.loop-up._up + 1) = omega arith in
    let next : m ≡ c.in-Some.depth - (c.loop-up._up + 1) + 1 = omega (arith, positive) in
    let done = c.note_at.ensures in (
      omega (arith, c.loop-up-test.true),
      i.1,
      up_to kept c.requires.stands path m c.loop-up.id positive (omega (arith, i.0, i.1)) i.2 c.id_above.result (c.id_above.ensures (cut m path) i.2) c.in-Some-id_above.above c.in-Some-id_above.is ∙ ap (λ k. Some (cut k path)) less,
      subst (λ k. NotesWay (slots_of kept) path k c.args.position c.args.changes_below.now.items c.note_at.new.changes_below.items) next
          (notes_more kept c.requires.stands path c.args.changes_below.now.items c.loop-up.changes_below.items c.note_at.new.changes_below.items m c.loop-up.id c.args.position (omega (arith, i.0, i.1)) i.2 i.3 done.more done.others done.size),
    )

pub note_at-requires-2 : goal.note_at-requires-2
note_at-requires-2 c =
    let i = c.loop-up.invariant in
    room_next c.args.kept.now c.requires.stands c.args.path.now c.args.changes_below.now.items c.loop-up.changes_below.items (c.in-Some.depth - c.loop-up._up) c.loop-up.id c.args.position (omega (arith, i.0, i.1)) i.2 c.requires.room i.3

pub returns-clause-notes : goal.returns-clause-notes
returns-clause-notes c =
    let kept = c.args.kept.now in
    let path = c.args.path.now in
    let i = c.loop-up.invariant in
    let done = c.note_at-2.ensures in
    let root : c.in-Some.depth - c.loop-up._up ≡ 0 = omega (arith, c.loop-up-test.false) in
    notes_more kept c.requires.stands path c.args.changes_below.now.items c.loop-up.changes_below.items c.note_at-2.new.changes_below.items 0 c.loop-up.id c.args.position (omega arith) (i.2 ∙ ap (λ m. Some (cut m path)) root)
    (subst (λ m. NotesWay (slots_of kept) path (m + 1) c.args.position c.args.changes_below.now.items c.loop-up.changes_below.items) root i.3) done.more done.others done.size

pub returns-clause-named : goal.returns-clause-named
returns-clause-named c = named_at c.args.kept.now c.requires.stands c.args.path.now c.in-Some.depth c.in-Some.deepest _ (subst (IsDeepest (paths_of c.args.kept.now) (slots_of c.args.kept.now) c.args.path.now) c.in-Some.is c.requires.deepest) (ap (λ n. c.in-Some.depth == n) c.len.ensures)
