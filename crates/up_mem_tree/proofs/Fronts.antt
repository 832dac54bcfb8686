-- A list cut where its numbers pass a bound.
use Rattle.std.proofs.Common.{◌≡◌, ℕ, zero, suc, ◌+◌, ◌<◌, ◌≤◌, List, [], ◌∷◌, ◌++◌, length, get_or, ap, ◌∙◌, arith, inl, inr}
use Rattle.std.proofs.lemmas.Bool.{cases_lt}
use Rattle.std.proofs.lemmas.List.{length-append}
use Rattle.std.specs.List.{AllByRecursion}

pub front_within : (all front rest : List ℕ) → all ≡ front ++ rest → length front ≤ length all
front_within all front rest is = omega (arith, ap length is ∙ length-append front rest)

low_at : (front rest : List ℕ) (above i : ℕ) → AllByRecursion (λ n. n ≤ above) front → i < length front → get_or (front ++ rest) i 0 ≤ above
low_at [] rest above i low lt = absurd (omega (arith, lt))
low_at (n ∷ front) rest above zero low lt = low.0
low_at (n ∷ front) rest above (suc i) low lt = low_at front rest above i low.1 (omega (arith, lt))

high_at : (front rest : List ℕ) (above i : ℕ) → AllByRecursion (λ n. above < n) rest → length front ≤ i → i < length (front ++ rest) → above < get_or (front ++ rest) i 0
high_at [] [] above i high le lt = absurd (omega (arith, lt))
high_at [] (n ∷ rest) above zero high le lt = high.0
high_at [] (n ∷ rest) above (suc i) high le lt = high_at [] rest above i high.1 (omega arith) (omega (arith, lt))
high_at (n ∷ front) rest above zero high le lt = absurd (omega (arith, le))
high_at (n ∷ front) rest above (suc i) high le lt = high_at front rest above i high (omega (arith, le)) (omega (arith, lt))

-- a number that is not above the bound is one of the front
pub low_front : (all front rest : List ℕ) (above i : ℕ) → all ≡ front ++ rest → AllByRecursion (λ n. above < n) rest → i < length all → get_or all i 0 ≤ above → i + 1 ≤ length front
low_front all front rest above i is high within early = elim (cases_lt i (length front)) [
  | inl lt ↦ omega (arith, lt)
  | inr ge ↦
      let same : get_or all i 0 ≡ get_or (front ++ rest) i 0 = ap (λ l. get_or l i 0) is in
      let long : length all ≡ length (front ++ rest) = ap length is in
      let late : above < get_or (front ++ rest) i 0 = high_at front rest above i high ge (omega (arith, within, long)) in
      absurd (omega (arith, same, late, early))
]

-- and one that is above it is one of the rest
pub above_rest : (all front rest : List ℕ) (above i : ℕ) → all ≡ front ++ rest → AllByRecursion (λ n. n ≤ above) front → above < get_or all i 0 → length front ≤ i
above_rest all front rest above i is low late = elim (cases_lt i (length front)) [
  | inl lt ↦
      let early : get_or (front ++ rest) i 0 ≤ above = low_at front rest above i low lt in
      let same : get_or all i 0 ≡ get_or (front ++ rest) i 0 = ap (λ l. get_or l i 0) is in
      absurd (omega (arith, early, same, late))
  | inr ge ↦ omega (arith, ge)
]
