use Rattle.std.proofs.Common.{◌<◌, length, sym, ◌∙◌, arith}
use Rattle.up_foreign.proofs.LeftLemmas.{key_there, soon_end, soon_next, soon_none}
use Rattle.up_foreign.proofs.left.soonest.Goals as goal

pub loop-i-init : goal.loop-i-init
loop-i-init c = soon_none c.args.groups.now.entries _

-- one group more
pub loop-i-preserved : goal.loop-i-preserved
loop-i-preserved c =
    let entries = c.args.groups.now.entries in
    let within : c.loop-i.i < length entries = omega (arith, c.loop-i-test.true, c.len-i-end.ensures) in
    let key = key_there entries c.loop-i.i within in
    soon_next entries c.loop-i.i key.0 c.in-Some.from c.loop-i.soon c.min-soon.result key.1 (sym (c.from_at.ensures key.0 (sym key.1)) ∙ c.in-Some.is) (omega (arith, c.min-soon.ensures)) (omega (arith, c.min-soon.ensures)) c.loop-i.invariant

pub returns : goal.returns
returns c = λ early. soon_end c.args.groups.now.entries c.loop-i.i c.loop-i.soon (omega (arith, c.loop-i-test.false, c.len-i-end.ensures)) c.loop-i.invariant
