use Rattle.std.proofs.Common.{◌<◌, length, arith}
use Rattle.up_policy.proofs.MarkLemmas.{hashed_more}
use Rattle.up_policy.proofs.marks.hash_of.Goals as goal

pub loop-i-preserved : goal.loop-i-preserved
loop-i-preserved c =
    let within : c.loop-i.i < length c.args.path.now.elements = omega (arith, c.loop-i-test.true, c.len-i-end.ensures) in
    hashed_more c.args.keys c.args.path.now.elements c.loop-i.i c.loop-i.hasher c.add_element.new.hasher within c.loop-i.invariant c.add_element.ensures
