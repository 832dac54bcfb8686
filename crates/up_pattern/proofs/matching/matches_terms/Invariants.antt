use Rattle.std.proofs.Common.{◌≡◌, length}
use denote.Text.{Utf8}
use denote.Shadow.{shadow}
use Rattle.std.specs.Str.{chars}
use Rattle.up_pattern.specs.Matching.{matches}
use Rattle.up_pattern.proofs.matching.matches_terms.Given as goal

abbrev pub invariant-loop-term : goal.invariant-loop-term
invariant-loop-term l = shadow (Utf8 l.rest) × (matches l.terms (chars l.text) ≡ matches l.left (chars l.rest))

abbrev pub decreases-loop-term : goal.decreases-loop-term
decreases-loop-term l = length l.left
