use Rattle.std.proofs.Common.{[], ◌≡◌, ◌∷◌, ◌++◌, sym, subst, ◌∙◌}
use Rattle.up_mem_tree.specs.ChangesBelow.{HasRoomAt, noted_all, noted_in}
use Rattle.up_mem_tree.proofs.Ways.{next_number, notes_own, notes_there, room_own}
use Rattle.up_mem_tree.proofs.changes_below.note_for.Goals as goal

pub note_at-requires : goal.note_at-requires
note_at-requires c =
    let kept = c.args.kept.now in
    subst (HasRoomAt c.note_way.new.changes_below.items) (sym (next_number kept c.len.result c.len.ensures))
    (room_own kept c.requires.stands c.args.path.now c.args.changes_below.now.items c.note_way.new.changes_below.items c.args.position c.requires.room.spare c.note_way.ensures.notes)

pub returns-then-not-note_way : goal.returns-then-not-note_way
returns-then-not-note_way c =
    let kept = c.args.kept.now in
    let next = next_number kept c.len.result c.len.ensures in
    let done = c.note_at.ensures in
    notes_own kept c.requires.stands c.args.path.now c.args.changes_below.now.items c.note_way.new.changes_below.items c.note_at.new.changes_below.items c.args.position (sym c.note_way.ensures.named ∙ c.if-not-note_way.true) c.note_way.ensures.notes
    (subst (λ n. noted_in (noted_all c.note_at.new.changes_below.items) n ≡ noted_in (noted_all c.note_way.new.changes_below.items) n ++ c.args.position ∷ []) next done.more)
    (λ i apart. done.others i (λ same. apart (same ∙ next))) done.size

pub returns-else-not-note_way : goal.returns-else-not-note_way
returns-else-not-note_way c =
    notes_there c.args.kept.now c.requires.stands c.args.path.now c.args.changes_below.now.items c.note_way.new.changes_below.items c.args.position (sym c.note_way.ensures.named ∙ c.if-not-note_way.false) c.note_way.ensures.notes
