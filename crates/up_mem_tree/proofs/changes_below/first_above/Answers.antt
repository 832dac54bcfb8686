use Rattle.std.proofs.Common.{◌<◌, ◌+◌, ◌-◌, ◌/◌, arith}
use Rattle.up_mem_tree.proofs.Fronts.{above_rest, front_within, low_front}
use Rattle.up_mem_tree.proofs.changes_below.first_above.Goals as goal

pub loop-low-init : goal.loop-low-init
loop-low-init c = (omega arith, omega arith, λ front rest is low high. (omega arith, front_within c.args.positions.now front rest is))

-- the one in the middle is not above
pub loop-low-preserved-then-positions-middle : goal.loop-low-preserved-then-positions-middle
loop-low-preserved-then-positions-middle c =
    let i = c.loop-low.invariant in
    let middle = c.loop-low.low + (c.loop-low.high - c.loop-low.low) / 2 in
    let lt : middle < c.loop-low.high = omega (arith, c.loop-low-test.true) in (
      omega (arith, lt),
      i.1,
      λ front rest is low high. (low_front c.args.positions.now front rest c.args.above middle is high (omega (arith, lt, i.1)) c.if-positions-middle.true, (i.2 front rest is low high).1),
    )

-- or it is
pub loop-low-preserved : goal.loop-low-preserved
loop-low-preserved c =
    let i = c.loop-low.invariant in
    let middle = c.loop-low.low + (c.loop-low.high - c.loop-low.low) / 2 in
    let lt : middle < c.loop-low.high = omega (arith, c.loop-low-test.true) in (
      omega arith,
      omega (arith, lt, i.1),
      λ front rest is low high. ((i.2 front rest is low high).0, above_rest c.args.positions.now front rest c.args.above middle is low c.if-positions-middle.false),
    )

pub returns-clause-first : goal.returns-clause-first
returns-clause-first c front rest is low high =
    let i = c.loop-low.invariant in
    let both = i.2 front rest is low high in
    omega (arith, c.loop-low-test.false, both.0, both.1)
