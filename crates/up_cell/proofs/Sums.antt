-- Sums over lists that change at one place, and the positions above a number.
use Rattle.std.proofs.Common.{◌≡◌, ℕ, zero, suc, ◌+◌, ◌*◌, ◌-◌, ◌<◌, ◌≤◌, ◌≢◌, List, [], ◌∷◌, ◌++◌, set, sym, refl, ap, ◌∙◌, arith, cond, true, false, eqb, nat_lt, nat_eq, subst, lt-ltb, le-ltb, lt_of_not-le}
use Rattle.std.proofs.lemmas.Bool.Decides.{nat_tests}
use mathlib.Core.Logic.{dite}
use native.Mathlib.Decide.{dec_le}
use mathlib.Core.Option.{some, some-injective, some-ne-none}
use lib.ListN.{get_elem?}
use Rattle.up_cell.specs.Positions.{above, between, times, positions, total, Rising, insert, merged}

module _ {A : Type 0} where
  pub there : (l : List A) (i : ℕ) (v w : A) → get_elem? l i ≡ some v → get_elem? (set l i w) i ≡ some w
  there [] i v w e = absurd (some-ne-none v (sym e))
  there (x ∷ xs) zero v w e = refl
  there (x ∷ xs) (suc i) v w e = there xs i v w e

  module _ (g : A → ℕ) where
    pub total-append : (l m : List A) → total g (l ++ m) ≡ total g l + total g m
    total-append [] m = omega arith
    total-append (x ∷ xs) m = omega (arith, total-append xs m)

    pub term_le : (l : List A) (j : ℕ) (v : A) → get_elem? l j ≡ some v → g v ≤ total g l
    term_le [] j v e = absurd (some-ne-none v (sym e))
    term_le (x ∷ xs) zero v e = omega (arith, ap g (some-injective x v e))
    term_le (x ∷ xs) (suc j) v e = omega (arith, term_le xs j v e)

    pub terms_le : (l : List A) (j k : ℕ) (v u : A) → k ≢ j → get_elem? l j ≡ some v → get_elem? l k ≡ some u → g v + g u ≤ total g l
    terms_le [] j k v u n e d = absurd (some-ne-none v (sym e))
    terms_le (x ∷ xs) zero zero v u n e d = absurd (n refl)
    terms_le (x ∷ xs) zero (suc k) v u n e d = omega (arith, ap g (some-injective x v e), term_le xs k u d)
    terms_le (x ∷ xs) (suc j) zero v u n e d = omega (arith, ap g (some-injective x u d), term_le xs j v e)
    terms_le (x ∷ xs) (suc j) (suc k) v u n e d = omega (arith, terms_le xs j k v u (λ h. n (ap suc h)) e d)

    pub total-set : (l : List A) (j : ℕ) (v w : A) → get_elem? l j ≡ some v → total g (set l j w) + g v ≡ total g l + g w
    total-set [] j v w e = absurd (some-ne-none v (sym e))
    total-set (x ∷ xs) zero v w e = omega (arith, ap g (some-injective x v e))
    total-set (x ∷ xs) (suc j) v w e = omega (arith, total-set xs j v w e)

module _ {A : Type 0} (g f : A → ℕ) where
  pub nothing : (l : List A) → total g l ≡ 0 → ((i : ℕ) (u : A) → get_elem? l i ≡ some u → g u ≡ 0 → f u ≡ 0) → total f l ≡ 0
  nothing [] s h = refl
  nothing (x ∷ xs) s h = omega (arith, h 0 x refl (omega arith), nothing xs (omega arith) (λ i u at. h (suc i) u at))

  -- where one place makes up the first sum, it makes up the second
  pub alone : (l : List A) (j : ℕ) (v : A) → get_elem? l j ≡ some v → total g l ≡ g v → ((i : ℕ) (u : A) → get_elem? l i ≡ some u → g u ≡ 0 → f u ≡ 0) → total f l ≡ f v
  alone [] j v e s h = absurd (some-ne-none v (sym e))
  alone (x ∷ xs) zero v e s h = let same = some-injective x v e in omega (arith, ap f same, nothing xs (omega (arith, ap g same)) (λ i u at. h (suc i) u at))
  alone (x ∷ xs) (suc j) v e s h = let le = term_le g xs j v e in omega (arith, h 0 x refl (omega arith), alone xs j v e (omega arith) (λ i u at. h (suc i) u at))

  pub total-double : (l : List A) → ((i : ℕ) (u : A) → get_elem? l i ≡ some u → f u ≡ 2 * g u) → total f l ≡ 2 * total g l
  total-double [] h = refl
  total-double (x ∷ xs) h = omega (arith, h 0 x refl, total-double xs (λ i u at. h (suc i) u at))

pub times-append : (x : ℕ) (l m : List ℕ) → times x (l ++ m) ≡ times x l + times x m
times-append x [] m = omega arith
times-append x (y ∷ ys) m = omega (arith, times-append x ys m)

step_above : (x n : ℕ) → cond (eqb (n + 1) x) 1 0 + above (n + 1) x ≡ above n x
step_above x n = grind (arith, nat_tests)

pub times-positions : (x n k : ℕ) → times x (positions n k) + above (n + k) x ≡ above n x
times-positions x n zero = let e : n + 0 ≡ n = omega arith in ap (λ (m : ℕ). 0 + above m x) e ∙ (omega arith)
times-positions x n (suc k) =
    let e : (n + 1) + k ≡ n + suc k = omega arith in
    let moved : above ((n + 1) + k) x ≡ above (n + suc k) x = ap (λ (m : ℕ). above m x) e in
    omega (arith, times-positions x (n + 1) k, step_above x n, moved)

pub above-most : (n x : ℕ) → above n x ≤ 1
above-most n x = grind (arith, nat_tests)

pub above-yes : (n x : ℕ) → n < x → above n x ≡ 1
above-yes n x h = grind (arith, nat_tests)

pub above-no : (n x : ℕ) → x ≤ n → above n x ≡ 0
above-no n x h = grind (arith, nat_tests)

pub times-self : (x : ℕ) (xs : List ℕ) → times x (x ∷ xs) ≡ 1 + times x xs
times-self x xs = grind (arith, nat_tests)

pub positions-above : (n k y : ℕ) → 0 < times y (positions n k) → n < y
positions-above n k y has = dite (dec_le y n) (λ le. absurd (omega (arith, times-positions y n k, above-no n y le))) (λ no. lt_of_not-le no)

pub rising-positions : (n k : ℕ) → Rising (positions n k)
rising-positions n zero = tt
rising-positions n (suc k) = (positions-above (n + 1) k, rising-positions (n + 1) k)

pub rising-append : (xs ys : List ℕ) (n : ℕ) → Rising xs → Rising ys → ((x : ℕ) → n < x → times x xs ≡ 0) → ((y : ℕ) → 0 < times y ys → n < y) → Rising (xs ++ ys)
rising-append [] ys n r q low high = q
rising-append (x ∷ xs) ys n r q low high =
    let here = times-self x xs in (
      (λ y has. dite (dec_le 1 (times y xs)) (λ le. r.0 y le)
          (λ no. let in-ys : n < y = high y (omega (arith, times-append y xs ys, lt_of_not-le no)) in
          dite (dec_le x n) (λ le. omega arith) (λ past. absurd (omega (arith, low x (lt_of_not-le past)))))),
      rising-append xs ys n r.1 q (λ z past. omega (arith, low z past)) high,
    )

pub times-insert : (z y : ℕ) (xs : List ℕ) → times z (insert y xs) ≡ cond (nat_eq y z) 1 0 + times z xs
times-insert z y [] = refl
times-insert z y (x ∷ xs) =
    elim (nat_lt y x) as (λ b. times z (cond b (y ∷ x ∷ xs) (x ∷ insert y xs)) ≡ cond (nat_eq y z) 1 0 + times z (x ∷ xs)) [ true ↦ refl | false ↦ omega (arith, times-insert z y xs) ]

at_least : (x y z : ℕ) (xs : List ℕ) → x ≤ y → x ≢ y → 0 < times z (insert y xs) → times z xs ≡ 0 → x < z
at_least x y z xs le apart has none = let t = times-insert z y xs in grind (arith, nat_tests)

just : (x y z : ℕ) (xs : List ℕ) → y < x → 0 < times z (x ∷ xs) → times z xs ≡ 0 → y < z
just x y z xs less has none = grind (arith, nat_tests)

pub rising-insert : (y : ℕ) (xs : List ℕ) → times y xs ≡ 0 → Rising xs → Rising (insert y xs)
rising-insert y [] absent r = ((λ z has. absurd (omega arith)), tt)
rising-insert y (x ∷ xs) absent r =
    let here = times-self x xs in
    dite (dec_le x y)
    (λ le.
    let apart : x ≢ y = λ e. let P : ℕ → Type 0 = λ k. times k (x ∷ xs) ≡ 0 in absurd (omega (arith, subst P (sym e) absent)) in
    subst (λ b. Rising (cond b (y ∷ x ∷ xs) (x ∷ insert y xs))) (sym (le-ltb y x le)) (
      (λ z has. dite (dec_le 1 (times z xs)) (λ inner. r.0 z inner) (λ out. at_least x y z xs le apart has (omega (arith, lt_of_not-le out)))),
      rising-insert y xs (omega arith) r.1,
    ))
    (λ no-le.
    let less : y < x = lt_of_not-le no-le in
    subst (λ b. Rising (cond b (y ∷ x ∷ xs) (x ∷ insert y xs))) (sym (lt-ltb y x less)) (
      (λ z has. dite (dec_le 1 (times z xs)) (λ inner. let far = r.0 z inner in omega arith) (λ out. just x y z xs less has (omega (arith, lt_of_not-le out)))),
      r,
    ))

pub times-merged : (z : ℕ) (xs ys : List ℕ) → times z (merged xs ys) ≡ times z xs + times z ys
times-merged z [] ys = omega arith
times-merged z (x ∷ xs) ys = omega (arith, times-insert z x (merged xs ys), times-merged z xs ys)

pub rising-merged : (xs ys : List ℕ) → Rising xs → Rising ys → ((z : ℕ) → times z xs + times z ys ≤ 1) → Rising (merged xs ys)
rising-merged [] ys r q once = q
rising-merged (x ∷ xs) ys r q once =
    rising-insert x (merged xs ys) (omega (arith, once x, times-self x xs, times-merged x xs ys)) (rising-merged xs ys r.1 q (λ z. omega (arith, once z)))

before_all : (x y : ℕ) (xs ys : List ℕ) → x < y → times x (x ∷ xs) ≡ times x (y ∷ ys) → Rising (y ∷ ys) → ⊥
before_all x y xs ys less same r =
    let here = times-self x xs in
    let apart : times x (y ∷ ys) ≡ times x ys = grind (arith, nat_tests) in
    omega (arith, r.0 x (omega (arith, same, here, apart)))

-- two rising lists in which each number stands as often are one
same_rising : (xs ys : List ℕ) → Rising xs → Rising ys → ((x : ℕ) → times x xs ≡ times x ys) → xs ≡ ys
same_rising [] [] r q same = refl
same_rising [] (y ∷ ys) r q same = absurd (omega (arith, same y, times-self y ys))
same_rising (x ∷ xs) [] r q same = absurd (omega (arith, same x, times-self x xs))
same_rising (x ∷ xs) (y ∷ ys) r q same =
    dite (dec_le y x)
    (λ le. dite (dec_le x y)
    (λ ge. let heads : x ≡ y = omega (arith, le, ge) in
    let tails : xs ≡ ys = same_rising xs ys r.1 q.1 (λ z. let here = same z in let there : times z (x ∷ xs) ≡ times z (y ∷ xs) = ap (λ (h : ℕ). times z (h ∷ xs)) heads in omega (arith, here, there)) in
    cc (heads, tails))
    (λ past. absurd (before_all y x ys xs (lt_of_not-le past) (sym (same y)) r)))
    (λ past. absurd (before_all x y xs ys (lt_of_not-le past) (same x) q))

-- a rising list in which each position above the base and up to n stands once, and no other
pub every_own : (own : List ℕ) (base n : ℕ) → base ≤ n → Rising own → ((x : ℕ) → times x own + above n x ≡ above base x) → own ≡ between base n
every_own own base n le r all =
    let sum : base + (n - base) ≡ n = omega (arith, le) in
    same_rising own (between base n) r (rising-positions base (n - base)) (λ x. omega (arith, all x, times-positions x base (n - base), ap (λ (m : ℕ). above m x) sum))
