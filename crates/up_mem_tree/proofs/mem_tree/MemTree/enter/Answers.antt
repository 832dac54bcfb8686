use Rattle.std.proofs.Common.{[], ◌∷◌, ◌++◌, ap, sym, subst, ◌∙◌}
use Rattle.up_mem_tree.specs.Groups.{AreGroupChanges}
use Rattle.up_mem_tree.specs.Kept.{slots_of}
use Rattle.up_mem_tree.specs.MemTrees.{IsMemTree}
use Rattle.up_mem_tree.specs.Slots.{AreLinked, named_paths}
use Rattle.up_mem_tree.specs.ChangesBelow.{AreNoted, noted_all}
use Rattle.up_mem_tree.proofs.Noted.{noted_after}
use Rattle.up_mem_tree.proofs.Othered.{others_more}
use Rattle.up_mem_tree.proofs.Readied.{can_note, can_step, has_room, not_made, step_others}
use Rattle.up_mem_tree.specs.Others.{AreNamed}
use Rattle.up_mem_tree.proofs.Started.{started}
use Rattle.up_mem_tree.proofs.mem_tree.MemTree.enter.Goals as goal

pub note_group-requires-clause-room : goal.note_group-requires-clause-room
note_group-requires-clause-room c =
    has_room c.self.inside.kept c.self.inside.changes_below.items c.self.inside.groups c.self.inside.others c.self.inside.ready c.in-Some.made c.self.invariant (sym c.take.ensures.value ∙ c.in-Some.is)

pub note-requires-clause-start : goal.note-requires-clause-start
note-requires-clause-start c =
    let some = sym c.take.ensures.value ∙ c.in-Some.is in
    started c.self.inside.kept c.in-Some.made.rec c.in-Some.made.step c.start_of-start.result
    (can_step c.self.inside.kept c.self.inside.changes_below.items c.self.inside.groups c.self.inside.others c.self.inside.ready c.in-Some.made c.self.invariant some) c.start_of-start.ensures

pub invariant_of-self : goal.invariant_of-self
invariant_of-self c =
    let old = c.self.inside.kept in
    let new = c.enter.new.self in
    let rec = c.in-Some.made.rec in
    let done = c.enter.ensures in
    let groups = c.note_group.new.groups in
    let before = c.self.inside.others in
    let others = c.release.new.self in
    let some = sym c.take.ensures.value ∙ c.in-Some.is in
    let linked : AreLinked old.owner (named_paths (old.log.items ++ rec ∷ [])) (slots_of new) = subst (λ owner. AreLinked owner (named_paths (old.log.items ++ rec ∷ [])) (slots_of new)) done.owner (subst (λ log. AreLinked new.owner (named_paths log) (slots_of new)) done.log done.stands.linked) in
    let noted =
    noted_after old.owner old.log.items rec (slots_of old) (slots_of new) c.self.invariant.stands.linked linked done.numbers c.self.inside.changes_below.items c.note.new.changes_below.items c.self.invariant.noted
    (can_note old c.self.inside.changes_below.items c.self.inside.groups before c.self.inside.ready c.in-Some.made c.self.invariant (sym c.take.ensures.value ∙ c.in-Some.is)) c.note.ensures.path (λ none. ap (λ us. us.items) (c.note.ensures.none none)) in
    let told : AreNamed old.owner (old.log.items ++ rec ∷ []) others =
    others_more old rec c.in-Some.made.step before others (can_step old c.self.inside.changes_below.items c.self.inside.groups before c.self.inside.ready c.in-Some.made c.self.invariant some) c.self.invariant.others
    (step_others old c.self.inside.changes_below.items c.self.inside.groups before c.self.inside.ready c.in-Some.made c.self.invariant some) c.release.ensures in
    subst (IsMemTree new c.note.new.changes_below.items groups others) (sym c.take.ensures.after)
    (not_made new c.note.new.changes_below.items groups others done.stands (subst (λ log. AreNoted log (slots_of new) (noted_all c.note.new.changes_below.items)) (sym done.log) noted)
    (subst (λ log. AreGroupChanges log groups.items) (sym done.log) c.note_group.ensures)
    (subst (λ owner. AreNamed owner new.log.items others) (sym done.owner) (subst (λ log. AreNamed old.owner log others) (sym done.log) told)))
