-- What is left is a text exactly where all the bytes are.
use Rattle.std.proofs.Common.{◌≡◌, length, is_some}
use Rattle.up_text.specs.Words.{decoded_bytes}
use Rattle.up_text.proofs.words.has_pairs.Given as goal

abbrev pub invariant-loop-rest : goal.invariant-loop-rest
invariant-loop-rest l =
    is_some (decoded_bytes l.rest) ≡ is_some (decoded_bytes l.bytes)

abbrev pub decreases-loop-rest : goal.decreases-loop-rest
decreases-loop-rest l = length l.rest
