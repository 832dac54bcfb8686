-- The text so far, before what the rest stands for, is what all the bytes stand for.
use Rattle.std.proofs.Common.{◌≡◌, ◌++◌, length, option_map}
use Rattle.up_text.specs.Words.{decoded_bytes}
use Rattle.up_text.proofs.words.decode.Given as goal

abbrev pub invariant-loop-rest : goal.invariant-loop-rest
invariant-loop-rest l =
    option_map (λ more. l.text.items ++ more) (decoded_bytes l.rest) ≡ decoded_bytes l.bytes

abbrev pub decreases-loop-rest : goal.decreases-loop-rest
decreases-loop-rest l = length l.rest
