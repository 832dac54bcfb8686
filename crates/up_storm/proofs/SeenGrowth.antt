-- What came to a log of which one caller has seen all, where nobody else writes.
use Rattle.std.proofs.Common.{◌≡◌, ℕ, suc, ◌+◌, List, [], ◌∷◌, ◌++◌, length, refl, sym, ap, ◌∙◌, arith, length-append, Some, slice_get}
use Rattle.std.specs.List.{AllByRecursion}
use Rattle.up_calls.specs.Turns.{Recorded}
use Rattle.up_calls.specs.Views.{Seen}
use Rattle.up_host.specs.Alone.{AddsOwn}
use Rattle.up_lists.proofs.BeginsLemmas.{Begins-whole}
use Rattle.up_lists.specs.Begins.{Begins}

-- the item behind a list is the one that was put there
pub get_last : {X : Type 0} (xs : List X) (x : X) → slice_get (xs ++ x ∷ []) (length xs) ≡ Some x
get_last [] x = refl
get_last (y ∷ xs) x = get_last xs x

-- what holds of each item holds of each of the front
pub all_front : {X : Type 0} (P : X → Type 0) (xs ys : List X) → AllByRecursion P (xs ++ ys) → AllByRecursion P xs
all_front P [] ys h = tt
all_front P (x ∷ xs) ys h = (h.0, all_front P xs ys h.1)

-- and of the last one
pub all_last : {X : Type 0} (P : X → Type 0) (xs : List X) (x : X) → AllByRecursion P (xs ++ x ∷ []) → P x
all_last P [] x h = h.0
all_last P (y ∷ xs) x h = all_last P xs x h.1

-- a list with one item more
one_longer : {X : Type 0} (xs rest all : List X) (x : X) → xs ++ rest ≡ all → length all ≡ length xs + 1 → slice_get all (length xs) ≡ Some x → all ≡ xs ++ x ∷ []
one_longer xs [] all x whole long there =
    absurd (let same = ap length whole in let sum : length (xs ++ []) ≡ length xs + 0 = length-append xs [] in omega (arith, same, sum, long))
one_longer xs (y ∷ []) all x whole long there =
    let last : Some y ≡ Some x = sym (get_last xs y) ∙ ap (λ zs. slice_get zs (length xs)) whole ∙ there in
    let same : y ≡ x = cc in
    sym whole ∙ ap (λ z. xs ++ z ∷ []) same
one_longer xs (y ∷ (z ∷ rest)) all x whole long there =
    absurd (let same = ap length whole in let sum : length (xs ++ (y ∷ (z ∷ rest))) ≡ length xs + suc (suc (length rest)) = length-append xs (y ∷ (z ∷ rest)) in omega (arith, same, sum, long))

module _ {E F : Type 0} (v w : Seen E F) (begins : Begins v.seen w.seen) (grown : AddsOwn v w) where
  -- where no own record came, nothing did
  pub seen_stays : w.own ≡ v.own → w.seen ≡ v.seen
  seen_stays same =
      let own : length w.own ≡ length v.own = ap (λ (ns : List ℕ). length ns) same in
      let sums : length w.seen + length v.own ≡ length v.seen + length w.own = grown in
      sym (Begins-whole begins (omega (arith, own, sums)))

  -- where one own record came, it is all that did
  pub seen_grows : (rec : E) → Recorded v w (length v.seen) (rec ∷ []) → w.seen ≡ v.seen ++ rec ∷ []
  seen_grows rec recorded =
      let own : length w.own ≡ length (v.own ++ (length v.seen + 1) ∷ []) = ap (λ (ns : List ℕ). length ns) recorded.1 in
      let longer : length (v.own ++ (length v.seen + 1) ∷ []) ≡ length v.own + 1 = length-append v.own ((length v.seen + 1) ∷ []) in
      let sums : length w.seen + length v.own ≡ length v.seen + length w.own = grown in
      one_longer v.seen begins.rest w.seen rec begins.whole (omega (arith, own, longer, sums)) recorded.0
