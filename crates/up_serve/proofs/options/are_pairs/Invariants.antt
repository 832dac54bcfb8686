-- What is left are pairs exactly where all are.
use Rattle.std.proofs.Common.{◌≡◌, length, map, string_bytes}
use Rattle.up_serve.specs.Plans.{are_pairs}
use Rattle.up_serve.proofs.options.are_pairs.Given as goal

abbrev pub invariant-loop-name : goal.invariant-loop-name
invariant-loop-name l = are_pairs (map string_bytes l.left) ≡ are_pairs (map string_bytes l.fn.words)

abbrev pub decreases-loop-name : goal.decreases-loop-name
decreases-loop-name l = length l.left
