use Rattle.std.proofs.Common.{◌≡◌, ◌∙◌, [], Some, sym, ap, rules}
use Rattle.std.proofs.lemmas.List.{nil_from_length}
use Rattle.up_pattern.specs.Elements.{ranges_of}
use Rattle.up_pattern.proofs.Parts.{prepended-nil}
use Rattle.up_pattern.proofs.classes.ranges_of.Goals as goal

pub returns : goal.returns
unfolding ranges_of
returns c =
    let left = nil_from_length c.loop-left.left.now (search rules) in
    let none : ranges_of c.loop-left.left.now ≡ Some [] = ap ranges_of left in
    sym c.loop-left.invariant ∙ prepended-nil c.loop-left.ranges _ none
