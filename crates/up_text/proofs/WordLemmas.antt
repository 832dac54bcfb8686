-- What a word stands for, by the bytes that stand in it.
use Rattle.std.proofs.Common.{◌≡◌, ◌≢◌, ◌==◌, ◌||◌, ℕ, ◌<◌, Bool, true, false, List, [], ◌∷◌, length, Option, None, Some, option_map, is_some, codes, bytes_eq, cond, refl, ⊎_elim, sym, ◌∙◌, ap, arith}
use Rattle.std.specs.List.{list_any}
use Rattle.std.proofs.lemmas.Bool.{cases_Bool, ne_eqb, or_parts, or_from, or_right, true≢false}
use Rattle.std.proofs.lemmas.List.{nil_from_length, get_or_default}
use Rattle.std.proofs.lemmas.List.Folds.{list_any_none, list_any_at}
use Rattle.std.proofs.lemmas.Slice.Eq.{bytes_eq-Decides}
use Rattle.memchr.specs.Find.{IsFirstByte}
use Rattle.up_text.specs.Words.{is_percent, ends_word, decoded, decoded_bytes}
use Rattle.up_text.proofs.DecodeLemmas.{decoded-nil, decoded-plain}
use Rattle.up_text.proofs.CutLemmas.{failed}

-- whether `memchr` found a byte
pub any-from_first : (test : ℕ → Bool) (bytes : List ℕ) (found : Option ℕ) → IsFirstByte test bytes found → is_some found ≡ list_any test bytes
any-from_first test bytes None nowhere =
    sym (list_any_none test bytes (λ k d low. let read = get_or_default bytes k d 0 low in failed _ (λ passes. nowhere k (omega arith) low (ap test (sym read) ∙ passes))))
any-from_first test bytes (Some i) first = sym (list_any_at test bytes i 0 first.0.high first.1)

-- a byte that does not stand for itself
abbrev pub is_mark : ℕ → Bool
is_mark b = ends_word b || is_percent b

no_mark : (word : List ℕ) → list_any is_mark word ≡ false → (list_any ends_word word ≡ false) × (list_any is_percent word ≡ false)
no_mark [] none = (refl, refl)
no_mark (b ∷ bs) none =
    let parts = or_parts (is_mark b) (list_any is_mark bs) none in
    let first = or_parts (ends_word b) (is_percent b) parts.0 in
    let rest = no_mark bs parts.1 in (
      or_from (ends_word b) (list_any ends_word bs) first.0 rest.0,
      or_from (is_percent b) (list_any is_percent bs) first.1 rest.1,
    )

-- a word without `%` stands for itself
decoded_bytes-same : (word : List ℕ) → list_any is_percent word ≡ false → decoded_bytes word ≡ Some word
decoded_bytes-same [] none = decoded-nil
decoded_bytes-same (b ∷ bs) none =
    let parts = or_parts (is_percent b) (list_any is_percent bs) none in
    decoded-plain b bs parts.0 ∙ ap (option_map (λ text. b ∷ text)) (decoded_bytes-same bs parts.1)

pub is_dash : (word : List ℕ) → bytes_eq word (codes "-") ≡ true → word ≡ 45 ∷ []
is_dash word = (bytes_eq-Decides word (codes "-")).0

pub no-dash_from : (word : List ℕ) → word ≢ 45 ∷ [] → bytes_eq word (codes "-") ≡ false
no-dash_from word other = failed _ (λ same. other (is_dash word same))

pub not-dash : (word : List ℕ) → bytes_eq word (codes "-") ≡ false → word ≢ 45 ∷ []
not-dash word other is = absurd (true≢false (sym ((bytes_eq-Decides word (codes "-")).1 is) ∙ other))

pub decoded-dash : (word : List ℕ) → word ≡ 45 ∷ [] → decoded word ≡ Some []
unfolding decoded
decoded-dash word is = ap decoded is

pub decoded-empty : (word : List ℕ) → length word ≡ 0 → decoded word ≡ None
unfolding decoded
decoded-empty word none = ap decoded (nil_from_length word none)

-- a word with a space or LF
pub decoded-ended : (word : List ℕ) → list_any ends_word word ≡ true → decoded word ≡ None
unfolding decoded
decoded-ended word ended =
    let other = no-dash_from word (λ is. absurd (true≢false (sym ended ∙ ap (list_any ends_word) is))) in
    ap (λ dash. cond dash (Some []) (cond (length word == 0 || list_any ends_word word) None (decoded_bytes word))) other
    ∙ ap (λ bad. cond bad None (decoded_bytes word)) (or_right (length word == 0) (list_any ends_word word) ended)

-- any other word that is not empty and not `-`
pub decoded-other : (word : List ℕ) → list_any ends_word word ≡ false → 0 < length word → word ≢ 45 ∷ [] → decoded word ≡ decoded_bytes word
unfolding decoded
decoded-other word whole some other =
    ap (λ dash. cond dash (Some []) (cond (length word == 0 || list_any ends_word word) None (decoded_bytes word))) (no-dash_from word other)
    ∙ ap (λ bad. cond bad None (decoded_bytes word)) (or_from (length word == 0) (list_any ends_word word) (ne_eqb (length word) 0 (λ none. omega (arith, none))) whole)

pub decoded-marked : (word : List ℕ) → list_any is_mark word ≡ true → list_any ends_word word ≡ false → decoded word ≡ decoded_bytes word
decoded-marked [] marked whole = absurd (true≢false (sym marked))
decoded-marked (b ∷ bs) marked whole =
    decoded-other (b ∷ bs) whole (omega arith) (λ is. absurd (true≢false (sym marked ∙ ap (list_any is_mark) is)))

pub decoded-unmarked : (word : List ℕ) → list_any is_mark word ≡ false → 0 < length word → word ≢ 45 ∷ [] → decoded word ≡ Some word
decoded-unmarked word unmarked some other =
    let parts = no_mark word unmarked in
    decoded-other word parts.0 some other ∙ decoded_bytes-same word parts.1

no-mark_from : (word : List ℕ) → list_any ends_word word ≡ false → list_any is_percent word ≡ false → list_any is_mark word ≡ false
no-mark_from [] whole plain = refl
no-mark_from (b ∷ bs) whole plain =
    let w = or_parts (ends_word b) (list_any ends_word bs) whole in
    let p = or_parts (is_percent b) (list_any is_percent bs) plain in
    or_from (is_mark b) (list_any is_mark bs) (or_from (ends_word b) (is_percent b) w.0 p.0) (no-mark_from bs w.1 p.1)

-- a word with a mark but no space and LF has a `%`
pub some-percent : (word : List ℕ) → list_any is_mark word ≡ true → list_any ends_word word ≡ false → list_any is_percent word ≡ true
some-percent word marked whole =
    ⊎_elim (λ has. has) (λ plain. absurd (true≢false (sym marked ∙ no-mark_from word whole plain))) (cases_Bool (list_any is_percent word))
