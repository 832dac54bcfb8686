-- The positions of own records.
use Rattle.std.proofs.Common.{◌≡◌, ◌≤◌, ◌<◌, ◌+◌, ℕ, zero, suc, Bool, true, false, cond, List, [], ◌∷◌, ◌++◌, length, refl, ap, ◌∙◌, sym, arith, length-append, add-one, nat_le}
use Rattle.std.proofs.lemmas.Bool.Decides.{nat_tests}
use Rattle.up_host.specs.Alone.{AddsOwn, positions, view_of}

nat_le-true : (a b : ℕ) → a ≤ b → nat_le a b ≡ true
nat_le-true a b h = grind (arith, nat_tests)

le_from_test : (a b : ℕ) → nat_le a b ≡ true → a ≤ b
le_from_test a b e = grind (arith, nat_tests)

gt_from_test : (a b : ℕ) → nat_le a b ≡ false → b < a
gt_from_test a b e = grind (arith, nat_tests)

pub positions_next : (base n : ℕ) → base ≤ n → positions base (n + 1) ≡ positions base n ++ (n + 1) ∷ []
positions_next base n h =
    ap (positions base) (add-one n) ∙ ap (λ b. cond b (positions base n ++ suc n ∷ []) (positions base n)) (nat_le-true base n h) ∙ ap (λ m. positions base n ++ m ∷ []) (sym (add-one n))

positions_none : (base n : ℕ) → n ≤ base → positions base n ≡ []
positions_none base zero h = refl
positions_none base (suc n) h = by (nat_le base n) refl (positions_none base n (omega (arith, h)))
  where
    by : (b : Bool) → nat_le base n ≡ b → positions base n ≡ [] → cond b (positions base n ++ suc n ∷ []) (positions base n) ≡ []
    by true e rest = let k : base ≤ n = le_from_test base n e in absurd (omega (arith, k, h))
    by false e rest = rest

pub positions_length : (base n : ℕ) → base ≤ n → length (positions base n) + base ≡ n
positions_length base zero h = omega (arith, h)
positions_length base (suc n) h = by (nat_le base n) refl (positions_length base n)
  where
    by : (b : Bool) → nat_le base n ≡ b → (base ≤ n → length (positions base n) + base ≡ n) → length (cond b (positions base n ++ suc n ∷ []) (positions base n)) + base ≡ suc n
    by true e rest =
        let k : length (positions base n) + base ≡ n = rest (le_from_test base n e) in
        let l : length (positions base n ++ suc n ∷ []) ≡ length (positions base n) + 1 = length-append (positions base n) (suc n ∷ []) in
        omega (arith, k, l)
    by false e rest =
        let k : n < base = gt_from_test base n e in
        let none : length (positions base n) ≡ 0 = ap length (positions_none base n (omega (arith, k))) in
        omega (arith, none, h, k)

module _ {E F : Type 0} (before after : List E) (base failed_before failed_after : ℕ) (fixed_before fixed_after : F) where
  pub grown_own : base ≤ length before → base ≤ length after → AddsOwn (view_of before base failed_before fixed_before) (view_of after base failed_after fixed_after)
  grown_own fits later =
      let a : length (positions base (length before)) + base ≡ length before = positions_length base (length before) fits in
      let b : length (positions base (length after)) + base ≡ length after = positions_length base (length after) later in
      omega (arith, a, b)
