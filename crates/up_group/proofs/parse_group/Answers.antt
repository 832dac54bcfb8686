-- Each line is bad, or the last, or read before the rest.
use Rattle.up_names.specs.ControlTexts.{words_in}
use Rattle.up_names.specs.ItemLists.{items_in}
use Rattle.up_names.proofs.TextMeaningLemmas.{Reads-begins, Reads-spoilt, Reads-goes, Reads-ends}
use Rattle.up_group.specs.GroupTexts.{group_of}
use Rattle.up_group.proofs.parse_group.Goals as goal

pub loop-items-init : goal.loop-items-init
loop-items-init c = rw c.new-items.ensures.items (Reads-begins (λ line. items_in c.args.owner.now (words_in line)) c.args.text.now)

pub returns-then-not-branch : goal.returns-then-not-branch
unfolding group_of
returns-then-not-branch c = λ _.
    let found = rw c.if-not-branch.true at c.in_ok-push_items.ensures.found in
    Reads-spoilt (λ line. items_in c.args.owner.now (words_in line)) c.args.text.now c.loop-items.rest.now c.next_control_line.result.0.now c.next_control_line.result.1 c.loop-items.number c.loop-items.items.items c.loop-items.invariant c.next_control_line.ensures.lines found

pub returns-in_default : goal.returns-in_default
unfolding group_of
returns-in_default c =
    let lines = rw c.in_default.is at c.next_control_line.ensures.lines in
    let found = rw c.if-not-branch.false at c.in_ok-push_items.ensures.found in
    rw c.from_vec.ensures (Reads-ends (λ line. items_in c.args.owner.now (words_in line)) c.args.text.now c.loop-items.rest.now c.next_control_line.result.0.now c.loop-items.number c.loop-items.items.items c.push_items.new.items.items c.loop-items.invariant lines found)

pub loop-items-preserved : goal.loop-items-preserved
loop-items-preserved c =
    let lines = rw c.in-Some.is at c.next_control_line.ensures.lines in
    let shorter = rw c.in-Some.is at c.next_control_line.ensures.shorter in
    let found = rw c.if-not-branch.false at c.in_ok-push_items.ensures.found in
    Reads-goes (λ line. items_in c.args.owner.now (words_in line)) c.args.text.now c.loop-items.rest.now c.next_control_line.result.0.now c.in-Some.after.now c.loop-items.number c.loop-items.items.items c.push_items.new.items.items c.loop-items.invariant lines shorter found
