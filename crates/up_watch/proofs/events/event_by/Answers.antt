use Rattle.std.proofs.Common.{◌≡◌, ◌-◌, sym, ap, ◌∙◌, Some}
use Rattle.std.specs.Option.{option_map}
use Rattle.up_entry.specs.Showing.{shown_as}
use Rattle.up_answers.specs.Events.{change_at}
use Rattle.up_watch.specs.Watching.{change_of}
use Rattle.up_watch.proofs.Told.{none_of, owned_of, some_of, told_early, told_hidden, told_shown}
use Rattle.up_watch.proofs.events.event_by.Goals as goal

pub rights_on-requires-clause-owned : goal.rights_on-requires-clause-owned
rights_on-requires-clause-owned c =
    let at : Some (change_of c.in-Some.changed) ≡ change_at c.args.reader.now.log (c.args.n - 1) =
    sym (ap (option_map change_of) c.in-Some.is) ∙ (c.changed_by.ensures ∙ ap (λ l. change_at l (c.args.n - 1)) c.tree-tree.ensures.log) in
    owned_of c.args.reader.now _ _ c.tree-tree.ensures.owner c.tree-tree.ensures.log c.recall.ensures.log c.args.n (change_of c.in-Some.changed) at

-- no right now
pub returns-then-is_empty-clause-event : goal.returns-then-is_empty-clause-event
returns-then-is_empty-clause-event c =
    let at : Some (change_of c.in-Some.changed) ≡ change_at c.args.reader.now.log (c.args.n - 1) =
    sym (ap (option_map change_of) c.in-Some.is) ∙ (c.changed_by.ensures ∙ ap (λ l. change_at l (c.args.n - 1)) c.tree-tree.ensures.log) in
    told_hidden c.args.reader.now c.args.n c.requires.first (change_of c.in-Some.changed) at c.in_ok-both.both.0 (none_of _ _ c.is_empty.ensures c.if-is_empty.true) c.in_ok-both.ensures.held

-- a right now, and none then
pub returns-then-is_empty-2-clause-event : goal.returns-then-is_empty-2-clause-event
returns-then-is_empty-2-clause-event c =
    let at : Some (change_of c.in-Some.changed) ≡ change_at c.args.reader.now.log (c.args.n - 1) =
    sym (ap (option_map change_of) c.in-Some.is) ∙ (c.changed_by.ensures ∙ ap (λ l. change_at l (c.args.n - 1)) c.tree-tree.ensures.log) in
    let some = some_of _ _ c.is_empty.ensures c.if-is_empty.false in
    told_early c.args.reader.now c.args.n c.requires.first (change_of c.in-Some.changed) at c.in_ok-both.both.0 c.in_ok-both.both.1
    some (none_of _ _ c.is_empty-2.ensures c.if-is_empty-2.true) c.in_ok-both.ensures.held (c.in_ok-both.ensures.earlier some)

-- a right both now and then
pub returns-clause-event : goal.returns-clause-event
returns-clause-event c =
    let at : Some (change_of c.in-Some.changed) ≡ change_at c.args.reader.now.log (c.args.n - 1) =
    sym (ap (option_map change_of) c.in-Some.is) ∙ (c.changed_by.ensures ∙ ap (λ l. change_at l (c.args.n - 1)) c.tree-tree.ensures.log) in
    let some = some_of _ _ c.is_empty.ensures c.if-is_empty.false in
    told_shown c.args.reader.now c.args.n c.requires.first (change_of c.in-Some.changed) at c.in_ok-both.both.0 c.in_ok-both.both.1 c.in_ok-shown.field-0
    some (some_of _ _ c.is_empty-2.ensures c.if-is_empty-2.false) c.in_ok-both.ensures.held (c.in_ok-both.ensures.earlier some)
    (c.in_ok-shown.ensures ∙ ap (λ b. shown_as b c.in-Some.changed.entry.now) c.has.ensures)
