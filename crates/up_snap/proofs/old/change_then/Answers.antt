use Rattle.up_snap.proofs.OldLemmas.{back_first, back_here, back_next, back_none}
use Rattle.up_snap.proofs.old.change_then.Goals as goal

pub loop-step-init : goal.loop-step-init
loop-step-init c = back_first c.args.tree.now.log c.args.path.now c.args.n _ c.last_change-last.ensures

pub returns-in_default : goal.returns-in_default
returns-in_default c = back_none c.args.tree.now.log c.args.path.now c.args.n c.loop-step.last c.loop-step.invariant c.in_default.is

pub returns-then-at-n : goal.returns-then-at-n
returns-then-at-n c = back_here c.args.tree.now.log c.args.path.now c.args.n c.in-Some.at c.loop-step.last c.loop-step.invariant c.in-Some.is c.if-at-n.true

pub loop-step-preserved : goal.loop-step-preserved
loop-step-preserved c =
    back_next c.args.tree.now.log c.args.path.now c.args.n c.in-Some.at c.loop-step.last _ c.loop-step.invariant c.in-Some.is c.if-at-n.false c.change_before-last.ensures
