-- Each line is bad, or the last, or read before the rest. What was read can be printed and read again.
use Rattle.up_names.proofs.TextMeaningLemmas.{Reads-begins, Reads-spoilt, Reads-goes, Reads-ends}
use Rattle.up_access.specs.AccessTexts.{access_of, rules_in}
use Rattle.up_access.proofs.ReadAgain.{access_of-printed}
use Rattle.up_access.proofs.parsing.parse_access.Goals as goal

pub loop-rules-init : goal.loop-rules-init
loop-rules-init c = rw c.new-rules.ensures.items (Reads-begins (rules_in c.args.owner.now) c.args.text.now)

pub returns-then-not-branch : goal.returns-then-not-branch
unfolding access_of
returns-then-not-branch c = λ _.
    let found = rw c.if-not-branch.true at c.in_ok-push_rules.ensures in
    Reads-spoilt (rules_in c.args.owner.now) c.args.text.now c.loop-rules.rest.now c.next_control_line.result.0.now c.next_control_line.result.1 c.loop-rules.number c.loop-rules.rules.items c.loop-rules.invariant c.next_control_line.ensures.lines found

pub returns-in_default : goal.returns-in_default
unfolding access_of
returns-in_default c =
    let lines = rw c.in_default.is at c.next_control_line.ensures.lines in
    let found = rw c.if-not-branch.false at c.in_ok-push_rules.ensures in
    rw c.from_vec.ensures (Reads-ends (rules_in c.args.owner.now) c.args.text.now c.loop-rules.rest.now c.next_control_line.result.0.now c.loop-rules.number c.loop-rules.rules.items c.push_rules.new.rules.items c.loop-rules.invariant lines found)

pub invariant_of-result : goal.invariant_of-result
unfolding access_of
invariant_of-result c =
    let lines = rw c.in_default.is at c.next_control_line.ensures.lines in
    let found = rw c.if-not-branch.false at c.in_ok-push_rules.ensures in
    let is = Reads-ends (rules_in c.args.owner.now) c.args.text.now c.loop-rules.rest.now c.next_control_line.result.0.now c.loop-rules.number c.loop-rules.rules.items c.push_rules.new.rules.items c.loop-rules.invariant lines found in
    rw c.from_vec.ensures (access_of-printed c.args.owner.now c.args.text.now c.push_rules.new.rules.items c.allocator.ensures.canonical is)

pub loop-rules-preserved : goal.loop-rules-preserved
loop-rules-preserved c =
    let lines = rw c.in-Some.is at c.next_control_line.ensures.lines in
    let shorter = rw c.in-Some.is at c.next_control_line.ensures.shorter in
    let found = rw c.if-not-branch.false at c.in_ok-push_rules.ensures in
    Reads-goes (rules_in c.args.owner.now) c.args.text.now c.loop-rules.rest.now c.next_control_line.result.0.now c.in-Some.after.now c.loop-rules.number c.loop-rules.rules.items c.push_rules.new.rules.items c.loop-rules.invariant lines shorter found
