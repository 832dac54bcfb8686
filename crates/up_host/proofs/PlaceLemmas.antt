-- The tree of an owner, and a tree that is set in its place.
use Rattle.std.proofs.Common.{◌≡◌, ◌<◌, ◌≤◌, ℕ, zero, suc, Bool, true, false, cond, List, [], ◌∷◌, length, refl, sym, ap, subst, ◌∙◌, arith, Some, None, slice_get, slice_set, nat_lt, bytes_eq}
use Rattle.std.specs.Prelude.{position}
use Rattle.std.specs.List.{AllByRecursion, find, position_or_len}
use Rattle.std.proofs.lemmas.Bool.Decides.{nat_tests}
use Rattle.std.proofs.lemmas.List.Folds.{find_at, find-set}
use Rattle.std.proofs.lemmas.Option.{slice_get_past}
use Rattle.std.proofs.lemmas.Slice.Eq.{bytes_eq-Decides}
use Rattle.up_host.specs.Alone.{IsBase, tree_for}
use Rattle.up_host.specs.declared.held.Held.{Held}
use Rattle.up_names.specs.Texts.{UserName}
use Rattle.up_tree.specs.States.{State}

nat_lt-true : (a b : ℕ) → nat_lt a b ≡ true → a < b
nat_lt-true a b e = grind (arith, nat_tests)

nat_lt-false : (a b : ℕ) → nat_lt a b ≡ false → b ≤ a
nat_lt-false a b e = grind (arith, nat_tests)

pub position-place : {X : Type 0} (p : X → Bool) (xs : List X) (i : ℕ) → position p xs ≡ Some i → (i ≡ position_or_len p xs) × (i < length xs)
position-place p xs i h = by_test (nat_lt (position_or_len p xs) (length xs)) refl where
  by_test : (b : Bool) → nat_lt (position_or_len p xs) (length xs) ≡ b → (i ≡ position_or_len p xs) × (i < length xs)
  by_test true e = let k : Some i ≡ Some (position_or_len p xs) = sym h ∙ ap (λ b. cond b (Some (position_or_len p xs)) None) e in let same : i ≡ position_or_len p xs = cc in (same, let lt : position_or_len p xs < length xs = nat_lt-true (position_or_len p xs) (length xs) e in omega arith)
  by_test false e = let k : Some i ≡ None = sym h ∙ ap (λ b. cond b (Some (position_or_len p xs)) None) e in absurd (cc)

pub position-none : {X : Type 0} (p : X → Bool) (xs : List X) → position p xs ≡ None → find p xs ≡ None
position-none p xs h = by_test (nat_lt (position_or_len p xs) (length xs)) refl where
  by_test : (b : Bool) → nat_lt (position_or_len p xs) (length xs) ≡ b → find p xs ≡ None
  by_test true e = let k : None ≡ Some (position_or_len p xs) = sym h ∙ ap (λ b. cond b (Some (position_or_len p xs)) None) e in absurd (cc)
  by_test false e = find_at p xs ∙ slice_get_past xs (position_or_len p xs) (nat_lt-false (position_or_len p xs) (length xs) e)

pub found_at : {X : Type 0} (p : X → Bool) (xs : List X) (i : ℕ) → position p xs ≡ Some i → find p xs ≡ slice_get xs i
found_at p xs i h = find_at p xs ∙ ap (slice_get xs) (sym (position-place p xs i h).0)

pub found_set : {X : Type 0} (p : X → Bool) (xs : List X) (i : ℕ) (y : X) → position p xs ≡ Some i → p y ≡ true → find p (slice_set xs i y) ≡ Some y
found_set p xs i y h k = find-set p xs i y (position-place p xs i h).0 (position-place p xs i h).1 k

pub find_other : {X : Type 0} (q : X → Bool) (xs : List X) (i : ℕ) (x y : X) → slice_get xs i ≡ Some x → q x ≡ false → q y ≡ false → find q (slice_set xs i y) ≡ find q xs
find_other q [] i x y h k l = absurd (cc)
find_other q (z ∷ zs) zero x y h k l =
    let same : x ≡ z = cc in
    let m : q z ≡ false = subst (λ w. q w ≡ false) same k in
    ap (λ b. cond b (Some y) (find q zs)) l ∙ sym (ap (λ b. cond b (Some z) (find q zs)) m)
find_other q (z ∷ zs) (suc i) x y h k l = ap (λ r. cond (q z) (Some z) r) (find_other q zs i x y h k l)

-- the tree that is found is the owner's
pub found_is : {D : Type 0} (trees : List (Held (State D))) (owner : UserName) (held : Held (State D)) → tree_for trees owner ≡ Some held → held.state.owner ≡ owner
found_is [] owner held h = absurd (cc)
found_is (tree ∷ trees) owner held h = by_test (bytes_eq tree.state.owner owner) refl (found_is trees owner held) where
  by_test : (b : Bool) → bytes_eq tree.state.owner owner ≡ b → (tree_for trees owner ≡ Some held → held.state.owner ≡ owner) → held.state.owner ≡ owner
  by_test true e later =
      let k : Some tree ≡ Some held = sym (ap (λ b. cond b (Some tree) (tree_for trees owner)) e) ∙ h in
      let same : tree ≡ held = cc in
      subst (λ (t : Held (State _)). t.state.owner ≡ owner) same ((bytes_eq-Decides tree.state.owner owner).0 e)
  by_test false e later = later (sym (ap (λ b. cond b (Some tree) (tree_for trees owner)) e) ∙ h)

-- each base is still within its log
pub bases_set : {D : Type 0} (trees : List (Held (State D))) (place : ℕ) (held : Held (State D)) → AllByRecursion IsBase trees → IsBase held → AllByRecursion IsBase (slice_set trees place held)
bases_set [] place held all one = tt
bases_set (tree ∷ trees) zero held all one = (one, all.1)
bases_set (tree ∷ trees) (suc place) held all one = (all.0, bases_set trees place held all.1 one)

pub base_at : {D : Type 0} (trees : List (Held (State D))) (place : ℕ) (held : Held (State D)) → AllByRecursion IsBase trees → slice_get trees place ≡ Some held → held.base ≤ length held.state.log
base_at [] place held all at = absurd (cc)
base_at (tree ∷ trees) zero held all at = let same : tree ≡ held = cc in subst IsBase same all.0
base_at (tree ∷ trees) (suc place) held all at = base_at trees place held all.1 at

pub length_set : {D : Type 0} (trees : List (Held (State D))) (place : ℕ) (held : Held (State D)) → length (slice_set trees place held) ≡ length trees
length_set [] place held = refl
length_set (tree ∷ trees) zero held = refl
length_set (tree ∷ trees) (suc place) held = let rest : length (slice_set trees place held) ≡ length trees = length_set trees place held in omega (arith, rest)
