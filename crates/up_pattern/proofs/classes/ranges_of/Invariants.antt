use Rattle.std.proofs.Common.{◌≡◌, length}
use Rattle.up_pattern.specs.Elements.{prepended, ranges_of}
use Rattle.up_pattern.proofs.classes.ranges_of.Given as goal

abbrev pub invariant-loop-left : goal.invariant-loop-left
invariant-loop-left l = prepended l.ranges (ranges_of l.left) ≡ ranges_of l.tokens

abbrev pub decreases-loop-left : goal.decreases-loop-left
decreases-loop-left l = length l.left
