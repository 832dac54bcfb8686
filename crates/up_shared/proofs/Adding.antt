-- Shares of seats that are split and joined.
use Rattle.std.proofs.Common.{◌≡◌, ℕ, zero, suc, ◌+◌, ◌*◌, ◌^◌, ◌-◌, ◌<◌, ◌≤◌, max, List, [], ◌∷◌, length, refl, ap, sym, ◌∙◌, arith, suc-mul, subst}
use Rattle.std.specs.Prelude.{map}
use Rattle.std.proofs.Math.Nat.{pow-succ'}
use Rattle.std.proofs.lemmas.Nat.{pow-add}
use lib.Pow.{pow_pos}
use Rattle.up_cell.specs.Known.{Known, both_of, first_of, second_of}
use Rattle.up_shared.specs.Splits.{AreBoth, AreFirsts, AreSeconds, IsWhole, SeatsAdd, SharesAdd, TreesAdd, first_tree, joined_trees, parts, second_tree}
use Rattle.up_shared.specs.declared.shared.Seats.{Seats}
use Rattle.up_shared.specs.declared.shared.TreeSeat.{TreeSeat}

grow : (b m d : ℕ) → b ≤ m → m ≤ d → 2 ^ (m - b) * 2 ^ (d - m) ≡ 2 ^ (d - b)
grow b m d h k = let e : (m - b) + (d - m) ≡ d - b = omega arith in sym (pow-add 2 (m - b) (d - m)) ∙ ap (λ (n : ℕ). 2 ^ n) e

two_parts : (a c x y z p q : ℕ) → x * z ≡ p → y * z ≡ q → (a * x + c * y) * z ≡ a * p + c * q
two_parts a c x y z p q e f = omega (arith, ap (λ (n : ℕ). a * n) e, ap (λ (n : ℕ). c * n) f)

same_factor : (a b p : ℕ) → 0 < p → a * p ≡ b * p → a ≡ b
same_factor zero zero p h e = refl
same_factor zero (suc b) p h e = absurd (omega (arith, suc-mul b p, e))
same_factor (suc a) zero p h e = absurd (omega (arith, suc-mul a p, e))
same_factor (suc a) (suc b) p h e = ap suc (same_factor a b p h (omega (arith, suc-mul a p, suc-mul b p, e)))

module _ {E F : Type 0} where
  -- two halves are the whole
  pub halves_add : (v : Known E F) → SharesAdd (first_of v) (second_of v) v
  halves_add v = record {
    add = λ n one other whole.
        let e : n - v.halvings ≡ suc (n - (v.halvings + 1)) = omega (arith, one) in
        let p : 2 ^ (n - v.halvings) ≡ 2 * 2 ^ (n - (v.halvings + 1)) = ap (λ (k : ℕ). 2 ^ k) e ∙ pow-succ' 2 (n - (v.halvings + 1)) in
        omega (arith, ap (λ (k : ℕ). v.part * k) p);
  }

  -- two are both
  pub both_add : (v w : Known E F) → SharesAdd v w (both_of v w)
  both_add v w = record {
    add = λ n one other whole.
        let m : ℕ = max v.halvings w.halvings in
        sym (two_parts v.part w.part (2 ^ (m - v.halvings)) (2 ^ (m - w.halvings)) (2 ^ (n - m)) (2 ^ (n - v.halvings)) (2 ^ (n - w.halvings))
        (grow v.halvings m n (omega arith) (omega (arith, one, other))) (grow w.halvings m n (omega arith) (omega (arith, one, other))));
  }

  -- who has all parts has the whole
  pub whole_by_parts : (n : ℕ) (v : Known E F) → v.halvings ≤ n → parts n v ≡ 2 ^ n → IsWhole v
  whole_by_parts n v h all =
      let e : v.halvings + (n - v.halvings) ≡ n = omega (arith, h) in
      same_factor v.part (2 ^ v.halvings) (2 ^ (n - v.halvings)) (pow_pos (n - v.halvings)) (all ∙ sym (ap (λ (k : ℕ). 2 ^ k) e) ∙ pow-add 2 v.halvings (n - v.halvings))

  pub parts_of_whole : (n : ℕ) (v : Known E F) → v.halvings ≤ n → IsWhole v → parts n v ≡ 2 ^ n
  parts_of_whole n v h all =
      let e : v.halvings + (n - v.halvings) ≡ n = omega (arith, h) in
      ap (λ (k : ℕ). k * 2 ^ (n - v.halvings)) all ∙ (sym (pow-add 2 v.halvings (n - v.halvings)) ∙ ap (λ (k : ℕ). 2 ^ k) e)

module _ {D : Type 0} where
  trees_halve : (xs : List (TreeSeat D)) → TreesAdd (map first_tree xs) (map second_tree xs) xs
  trees_halve [] = tt
  trees_halve (x ∷ xs) = (halves_add x.seat, trees_halve xs)

  trees_join : (xs ys : List (TreeSeat D)) → length xs ≡ length ys → TreesAdd xs ys (joined_trees xs ys)
  trees_join [] [] h = tt
  trees_join [] (y ∷ ys) h = absurd (omega (arith, h))
  trees_join (x ∷ xs) [] h = absurd (omega (arith, h))
  trees_join (x ∷ xs) (y ∷ ys) h = (both_add x.seat y.seat, trees_join xs ys (omega (arith, h)))

  pub split_adds : (before after other : Seats D) → AreFirsts before after → AreSeconds before other → SeatsAdd after other before
  split_adds before after other h k = record {
    trees = subst (λ (xs : List (TreeSeat D)). TreesAdd xs other.trees.items before.trees.items) (sym h.trees)
        (subst (λ (ys : List (TreeSeat D)). TreesAdd (map first_tree before.trees.items) ys before.trees.items) (sym k.trees) (trees_halve before.trees.items));
    store = subst (λ (v : Known _ _). SharesAdd v other.store before.store) (sym h.store) (subst (λ (v : Known _ _). SharesAdd (first_of before.store) v before.store) (sym k.store) (halves_add before.store));
    keys = subst (λ (v : Known _ _). SharesAdd v other.keys before.keys) (sym h.keys) (subst (λ (v : Known _ _). SharesAdd (first_of before.keys) v before.keys) (sym k.keys) (halves_add before.keys));
  }

  pub join_adds : (before other after : Seats D) → length before.trees.items ≡ length other.trees.items → AreBoth before other after → SeatsAdd before other after
  join_adds before other after even h = record {
    trees = subst (TreesAdd before.trees.items other.trees.items) (sym h.trees) (trees_join before.trees.items other.trees.items even);
    store = subst (SharesAdd before.store other.store) (sym h.store) (both_add before.store other.store);
    keys = subst (SharesAdd before.keys other.keys) (sym h.keys) (both_add before.keys other.keys);
  }
