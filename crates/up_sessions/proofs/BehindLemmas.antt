-- What stands behind a host gives what it is said to give.
use Rattle.std.proofs.Common.{◌≡◌, ◌++◌, ◌∷◌, [], Bool, true, false, List, Some, None, refl}
use Rattle.std.specs.List.{find}
use Rattle.std.specs.Prelude.{cond}

-- the first that is found in two lists, one after the other
pub found_first : {X : Type 0} (test : X → Bool) (xs ys : List X) (x : X) → Some x ≡ find test xs → Some x ≡ find test (xs ++ ys)
found_first test [] ys x is = absurd (cc)
found_first {X} test (z ∷ xs) ys x is = by (test z) is (found_first test xs ys x)
  where
    by : (b : Bool) → Some x ≡ cond b (Some z) (find test xs) → (Some x ≡ find test xs → Some x ≡ find test (xs ++ ys)) → Some x ≡ cond b (Some z) (find test (xs ++ ys))
    by true is rest = is
    by false is rest = rest is

pub found_later : {X : Type 0} (test : X → Bool) (xs ys : List X) → find test xs ≡ None → find test (xs ++ ys) ≡ find test ys
found_later test [] ys none = refl
found_later {X} test (z ∷ xs) ys none = by (test z) none (found_later test xs ys)
  where
    by : (b : Bool) → cond b (Some z) (find test xs) ≡ None → (find test xs ≡ None → find test (xs ++ ys) ≡ find test ys) → cond b (Some z) (find test (xs ++ ys)) ≡ find test ys
    by true none rest = absurd (cc)
    by false none rest = rest none
