use Rattle.std.proofs.Common.{◌≡◌, subst, false, arith}
use Rattle.up_maps.specs.Joined.{IsAt}
use Rattle.up_maps.proofs.Finds.{found}
use Rattle.up_maps.proofs.long_list.LongList.find.Goals as goal

pub returns-clause-place : goal.returns-clause-place
returns-clause-place g c ordered =
    let kept = c.loop-low.invariant in
    let end : c.loop-low.high ≡ c.loop-low.low = omega (arith, kept.order, c.loop-low-test.false) in
    let here = subst (IsAt (g.K.Below.below c.args.key.now) false c.args.self.now.items) end kept.after in
    found (g.K.Below.below c.args.key.now) c.args.self.now.items c.loop-low.low (omega (arith, kept.order, kept.bound)) kept.before here ordered
