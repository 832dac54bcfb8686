use Rattle.std.proofs.Common.{◌≡◌, None, length}
use Rattle.up_pattern.specs.Elements.{prepended, terms_behind}
use Rattle.up_pattern.proofs.elements.terms_outside.Given as goal

abbrev pub invariant-loop-token : goal.invariant-loop-token
invariant-loop-token l = prepended l.terms (terms_behind None l.left) ≡ terms_behind None l.tokens

abbrev pub decreases-loop-token : goal.decreases-loop-token
decreases-loop-token l = length l.left
