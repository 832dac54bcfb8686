-- Worked examples: the digests of the empty text and of `abc`, and texts that are no reference's.
use Rattle.std.proofs.Common.{◌≡◌, [], codes, Some, None, refl}
use Rattle.sha2.specs.Sha256.{sha256, digest_bytes, hash_after, compress, rounds, schedule, first_words}
use Rattle.hex.proofs.OnLiterals.{hex_on_literals}
use Rattle.up_refs.specs.References.{reference_in, text_of}

text_of-sha256_of_nothing : text_of (sha256 []) ≡ codes "E3B0C44298FC1C149AFBF4C8996FB92427AE41E4649B934CA495991B7852B855"
unfolding sha256 digest_bytes hash_after compress rounds schedule first_words hex_on_literals
text_of-sha256_of_nothing = refl

text_of-sha256_of_abc : text_of (sha256 (codes "abc")) ≡ codes "BA7816BF8F01CFEA414140DE5DAE2223B00361A396177A9CB410FF61F20015AD"
unfolding sha256 digest_bytes hash_after compress rounds schedule first_words hex_on_literals
text_of-sha256_of_abc = refl

reference_in-text_of_abc : reference_in (codes "BA7816BF8F01CFEA414140DE5DAE2223B00361A396177A9CB410FF61F20015AD") ≡ Some (sha256 (codes "abc"))
unfolding sha256 digest_bytes hash_after compress rounds schedule first_words hex_on_literals reference_in
reference_in-text_of_abc = refl

one_lower_case_digit : reference_in (codes "BA7816BF8F01CFEA414140DE5DAE2223B00361A396177A9CB410FF61F20015aD") ≡ None
unfolding reference_in
one_lower_case_digit = refl

sixty_three_digits : reference_in (codes "BA7816BF8F01CFEA414140DE5DAE2223B00361A396177A9CB410FF61F20015A") ≡ None
unfolding reference_in
sixty_three_digits = refl

sixty_six_digits : reference_in (codes "BA7816BF8F01CFEA414140DE5DAE2223B00361A396177A9CB410FF61F20015AD00") ≡ None
unfolding reference_in
sixty_six_digits = refl

a_blank_in_front : reference_in (codes " A7816BF8F01CFEA414140DE5DAE2223B00361A396177A9CB410FF61F20015AD") ≡ None
unfolding reference_in
a_blank_in_front = refl
