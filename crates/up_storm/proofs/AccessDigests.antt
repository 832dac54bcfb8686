-- The SHA-256 of the texts of all Access files, by their first two bytes: no two of them begin alike.
use Rattle.std.proofs.Common.{◌≡◌, ℕ, ◌+◌, ◌*◌, ◌<◌, ◌≤◌, Bool, true, false, not, ◌||◌, List, [], ◌∷◌, refl, sym, ap, ◌∙◌, arith}
use Rattle.std.specs.Prelude.{◌==◌, slice_index}
use Rattle.std.specs.Fmt.{digits}
use Rattle.std.proofs.lemmas.Bool.{false≢true}
use Rattle.std.proofs.lemmas.Bool.Decides.{nat_tests}
use Rattle.sha2.specs.Sha256.{compress, digest_bytes, first_words, hash_after, rounds, schedule, sha256}
use Rattle.up_storm.proofs.Readings.{all_below, below_holds, not_true}
use Rattle.up_storm.specs.Asked.{access_text}

-- No two of the texts of the Access files of so many sessions have one SHA-256: two that have are one text.
pub record AreApart (sessions : ℕ) : Type 0 where
  pub apart : (k m : ℕ) → k < sessions → m < sessions → sha256 (access_text k) ≡ sha256 (access_text m) → access_text k ≡ access_text m

-- the first two bytes of a digest, as one number
abbrev head : List ℕ → ℕ
head digest = slice_index digest 0 * 256 + slice_index digest 1

-- those of the texts of the 32 sessions
abbrev heads : List ℕ
heads =
    41035 ∷ 50049 ∷ 6718 ∷ 50852 ∷ 55255 ∷ 53959 ∷ 10376 ∷ 43151 ∷ 57318 ∷ 3183 ∷ 6517 ∷ 64962 ∷ 28896 ∷ 29501 ∷ 11778 ∷ 12362 ∷
    19910 ∷ 16098 ∷ 46760 ∷ 39538 ∷ 42019 ∷ 49739 ∷ 41829 ∷ 20863 ∷ 8446 ∷ 38948 ∷ 16429 ∷ 25505 ∷ 18179 ∷ 53479 ∷ 58689 ∷ 43225 ∷ []

-- whether the digest of a session's text begins so
abbrev begins_so : ℕ → Bool
begins_so k = head (sha256 (access_text k)) == slice_index heads k

all_begin : all_below begins_so 32 ≡ true
unfolding digits first_words schedule rounds compress hash_after digest_bytes sha256
all_begin = refl

-- whether two sessions are one, or the digests of their texts begin otherwise
abbrev differ_so : ℕ → ℕ → Bool
differ_so k m = k == m || not (slice_index heads k == slice_index heads m)

all_differ : all_below (λ k. all_below (λ m. differ_so k m) 32) 32 ≡ true
all_differ = refl

-- numbers that pass the test of equality are equal, and equal ones pass it
equal : (a b : ℕ) → (a == b) ≡ true → a ≡ b
equal a b h = grind (arith, nat_tests)

same : (a b : ℕ) → a ≡ b → (a == b) ≡ true
same a b h = grind (arith, nat_tests)

-- what the digest of a session's text begins with
head_is : (k : ℕ) → k < 32 → head (sha256 (access_text k)) ≡ slice_index heads k
head_is k low = equal (head (sha256 (access_text k))) (slice_index heads k) (below_holds begins_so 32 k all_begin low)

-- digests that begin alike are those of one session
one_session : (k m : ℕ) → k < 32 → m < 32 → slice_index heads k ≡ slice_index heads m → k ≡ m
one_session k m low less alike =
    by (k == m) refl (below_holds (λ j. differ_so k j) 32 m (below_holds (λ i. all_below (λ j. differ_so i j) 32) 32 k all_differ low) less)
  where
    by : (b : Bool) → (k == m) ≡ b → (b || not (slice_index heads k == slice_index heads m)) ≡ true → k ≡ m
    by true is h = equal k m is
    by false is h = absurd (false≢true (sym (not_true (slice_index heads k == slice_index heads m) h) ∙ same (slice_index heads k) (slice_index heads m) alike))

-- No two texts of Access files have one SHA-256.
pub all_are_apart : (sessions : ℕ) → sessions ≤ 32 → AreApart sessions
all_are_apart sessions most = record {
  apart = λ k m low less alike.
      let one : k < 32 = omega (arith, low, most) in
      let two : m < 32 = omega (arith, less, most) in
      ap (λ (n : ℕ). access_text n) (one_session k m one two (sym (head_is k one) ∙ ap head alike ∙ head_is m two));
}
