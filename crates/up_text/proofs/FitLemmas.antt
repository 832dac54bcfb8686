-- Whether a word stands for a text.
use Rattle.std.proofs.Common.{◌≡◌, ◌∙◌, ◌==◌, not, ℕ, ◌<◌, true, false, List, [], ◌∷◌, length, is_some, codes, bytes_eq, refl, sym, ap, arith, ⊎_elim}
use Rattle.std.specs.List.{list_any}
use Rattle.std.proofs.lemmas.Bool.{cases_Bool, ne_eqb}
use Rattle.std.proofs.lemmas.List.{nil_from_length}
use Rattle.up_text.specs.Words.{decoded, decoded_bytes, ends_word}
use Rattle.up_text.proofs.DecodeLemmas.{decoded-nil}
use Rattle.up_text.proofs.WordLemmas.{decoded-dash, decoded-empty, decoded-ended, decoded-marked, decoded-unmarked, is_dash, is_mark, not-dash}

pub fits-nothing : (bytes : List ℕ) → length bytes ≡ 0 → is_some (decoded_bytes bytes) ≡ true
fits-nothing bytes none = ap (λ b. is_some (decoded_bytes b)) (nil_from_length bytes none) ∙ ap is_some decoded-nil

pub fits-marked : (word : List ℕ) → list_any is_mark word ≡ true → list_any ends_word word ≡ false → is_some (decoded word) ≡ is_some (decoded_bytes word)
fits-marked word marked whole = ap is_some (decoded-marked word marked whole)

pub fits-ended : (word : List ℕ) → list_any ends_word word ≡ true → is_some (decoded word) ≡ false
fits-ended word ended = ap is_some (decoded-ended word ended)

pub fits-unmarked : (word : List ℕ) → list_any is_mark word ≡ false → is_some (decoded word) ≡ not (length word == 0)
fits-unmarked [] unmarked = ap is_some (decoded-empty [] refl)
fits-unmarked (b ∷ bs) unmarked =
    let word = b ∷ bs in
    let some : 0 < length word = omega arith in
    let full : not (length word == 0) ≡ true = ap not (ne_eqb (length word) 0 (λ none. omega (arith, none))) in
    ⊎_elim (λ dash. ap is_some (decoded-dash word (is_dash word dash)) ∙ sym full)
    (λ other. ap is_some (decoded-unmarked word unmarked some (not-dash word other)) ∙ sym full) (cases_Bool (bytes_eq word (codes "-")))
