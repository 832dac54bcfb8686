use Rattle.std.proofs.Common.{◌∷◌, length, ◌+◌, ◌*◌, ◌≤◌}
use denote.Text.{Utf8}
use denote.Shadow.{shadow}
use Rattle.std.specs.Str.{chars}
use Rattle.up_pattern.specs.Matching.{matches}
use Rattle.up_pattern.specs.declared.terms.Term.TheVariants.{Many}
use Rattle.up_pattern.proofs.Stars.{Walks}
use Rattle.up_pattern.proofs.matching.matches_somewhere.Given as goal

abbrev pub invariant-loop-c : goal.invariant-loop-c
invariant-loop-c l = record {
  from_is_text : shadow (Utf8 l.from);
  rest_is_text : shadow (Utf8 l.rest);
  walk : Walks (matches (Many ∷ l.terms) (chars l.text)) l.again (chars l.from) l.left (chars l.rest);
  again_bound : length l.again ≤ length l.terms;
  left_bound : length l.left ≤ length l.terms;
  rest_bound : length (chars l.rest) ≤ length (chars l.from);
}

abbrev pub decreases-loop-c : goal.decreases-loop-c
decreases-loop-c l = length (chars l.from) * (length l.terms + 1) + length l.left
