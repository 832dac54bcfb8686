use Rattle.std.proofs.Common.{◌≡◌, drop}
use Rattle.std.specs.String.{string_bytes}
use Rattle.up_pattern.specs.Elements.{literal_of, prepended}
use Rattle.up_pattern.proofs.elements.literal_of.Given as goal

abbrev pub invariant-loop-term : goal.invariant-loop-term
invariant-loop-term l = prepended (string_bytes l.text) (literal_of (drop l.term-index l.terms)) ≡ literal_of l.terms
