-- Worked examples of the words.
use Rattle.std.proofs.Common.{◌≡◌, [], ◌∷◌, codes, Some, None, refl}
use Rattle.hex.proofs.OnLiterals.{hex_on_literals}
use Rattle.up_helper.specs.HelperWords.{bytes_in, hex_word}

word_of_two_bytes : hex_word (10 ∷ 255 ∷ []) ≡ codes "0AFF"
unfolding hex_on_literals
word_of_two_bytes = refl

word_of_no_byte : hex_word [] ≡ codes "-"
word_of_no_byte = refl

bytes_of_a_word : bytes_in (codes "0AFF") ≡ Some (10 ∷ 255 ∷ [])
unfolding bytes_in hex_on_literals
bytes_of_a_word = refl

bytes_of_a_hyphen : bytes_in (codes "-") ≡ Some []
unfolding bytes_in
bytes_of_a_hyphen = refl

empty_word : bytes_in [] ≡ None
unfolding bytes_in
empty_word = refl

lower_case_digits : bytes_in (codes "0aff") ≡ None
unfolding bytes_in
lower_case_digits = refl

three_digits : bytes_in (codes "0AF") ≡ None
unfolding bytes_in hex_on_literals
three_digits = refl
