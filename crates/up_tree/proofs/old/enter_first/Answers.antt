use Rattle.std.proofs.Common.{◌≡◌, ◌∙◌, ap, arith, take}
use Rattle.up_tree.proofs.old.enter_first.Goals as goal

pub loop-i-init : goal.loop-i-init
loop-i-init c = (c.requires.owner, c.requires.empty)

pub enter_next-requires-clause-owner : goal.enter_next-requires-clause-owner
enter_next-requires-clause-owner c = c.loop-i.invariant.0

pub enter_next-requires-clause-log : goal.enter_next-requires-clause-log
enter_next-requires-clause-log c = c.loop-i.invariant.1

pub loop-i-preserved : goal.loop-i-preserved
loop-i-preserved c = (c.enter_next.ensures.owner, c.in_ok-enter_next.ensures.log)

pub returns : goal.returns
returns c =
    let all : c.loop-i.i ≡ c.args.n = omega (arith, c.loop-i-test.false, c.loop-i.auto.i-end) in
    c.loop-i.invariant.1 ∙ ap (λ n. take n c.args.tree.now.log) all
