-- Sizes of spellings that stand one behind another.
use Rattle.std.proofs.Common.{◌≡◌, ℕ, ◌+◌, ◌-◌, ◌^◌, min, List, ◌++◌, length, arith}
use Rattle.std.proofs.lemmas.List.{length-append}
use Rattle.up_bytes.specs.Sizes.{size_of}

-- how long five parts are together, of which the first and the fourth may be longer than is told
pub five_sizes : (a b c d e : List ℕ) (na nb nc nd ne n1 n2 n3 n : ℕ)
    → na ≡ size_of a → nb ≡ length b → nc ≡ length c → nd ≡ size_of d → ne ≡ length e
    → n1 ≡ min (na + nb) (2 ^ 64 - 1) → n2 ≡ min (n1 + nc) (2 ^ 64 - 1) → n3 ≡ min (n2 + nd) (2 ^ 64 - 1) → n ≡ min (n3 + ne) (2 ^ 64 - 1)
    → n ≡ size_of (a ++ b ++ c ++ d ++ e)
five_sizes a b c d e na nb nc nd ne n1 n2 n3 n ea eb ec ed ee e1 e2 e3 e4 =
    omega (arith, length-append (a ++ b ++ c ++ d) e, length-append (a ++ b ++ c) d, length-append (a ++ b) c, length-append a b)
