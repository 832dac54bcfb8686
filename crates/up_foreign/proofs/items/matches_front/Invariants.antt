use Rattle.std.proofs.Common.{◌≡◌, drop}
use Rattle.up_list.specs.Globs.{matches_front}
use Rattle.up_foreign.proofs.items.matches_front.Given as goal

-- those so far match
abbrev pub invariant-loop-at : goal.invariant-loop-at
invariant-loop-at l = matches_front (drop l.at l.pattern.elements) (drop l.at l.path.elements) ≡ matches_front l.pattern.elements l.path.elements
