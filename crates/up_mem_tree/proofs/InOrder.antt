-- Texts in the order in which they were replaced.
use Rattle.std.proofs.Common.{◌≡◌, ◌⊎◌, ℕ, zero, suc, ◌+◌, ◌-◌, ◌<◌, ◌≤◌, List, [], ◌∷◌, ◌++◌, length, take, drop, refl, sym, ap, subst, ◌∙◌, inl, inr, arith, Some}
use Rattle.std.specs.Prelude.{Contains, slice_get}
use Rattle.std.proofs.lemmas.Bool.{cases_lt}
use Rattle.std.proofs.lemmas.List.{length-drop, take_all}
use Rattle.std.proofs.lemmas.Option.{slice_get-get_or, slice_get_within}
use Rattle.up_policy.proofs.PathLists.{Contains-at}
use Rattle.up_log_tree.proofs.Paths.{some_none, some_same}
use Rattle.up_mem_tree.specs.Gone.{AreInOrder, IsBehind}
use Rattle.up_mem_tree.specs.declared.gone.Naming.{Naming}
use Rattle.up_mem_tree.proofs.Meeting.{get_drop}

-- what stands at a place of a list with one item more
get_pushed : {X : Type 0} (xs : List X) (y z : X) (k : ℕ) → slice_get (xs ++ y ∷ []) k ≡ Some z → (slice_get xs k ≡ Some z) ⊎ ((k ≡ length xs) × (z ≡ y))
get_pushed [] y z zero at = inr (refl, sym (some_same y z at))
get_pushed [] y z (suc k) at = absurd (some_none z (sym at))
get_pushed (x ∷ xs) y z zero at = inl at
get_pushed (x ∷ xs) y z (suc k) at = elim (get_pushed xs y z k at) [ inl before ↦ inl before | inr here ↦ inr (ap suc here.0, here.1) ]

pub order_push : (texts : List Naming) (text : Naming) → AreInOrder texts → IsBehind texts text.until → AreInOrder (texts ++ text ∷ [])
order_push texts text order last = record { each = λ i j one other le at_i at_j. by i j one other le (get_pushed texts text one i at_i) (get_pushed texts text other j at_j) }
  where
    to_last : (i : ℕ) (one : Naming) → slice_get texts i ≡ Some one → one.until ≤ text.until
    to_last i one at =
        let within : i < length texts = slice_get_within texts i one at in
        let end : slice_get texts (length texts - 1) ≡ Some _ = slice_get-get_or texts (length texts - 1) one (omega (arith, within)) in
        let low = order.each i (length texts - 1) one _ (omega (arith, within)) at end in
        let high = last _ end in
        omega (arith, low, high)

    by : (i j : ℕ) (one other : Naming) → i ≤ j → (slice_get texts i ≡ Some one) ⊎ ((i ≡ length texts) × (one ≡ text)) → (slice_get texts j ≡ Some other) ⊎ ((j ≡ length texts) × (other ≡ text)) → one.until ≤ other.until
    by i j one other le (inl at_i) (inl at_j) = order.each i j one other le at_i at_j
    by i j one other le (inl at_i) (inr here) = subst (λ (t : Naming). one.until ≤ t.until) (sym here.1) (to_last i one at_i)
    by i j one other le (inr here) (inl at_j) = absurd (omega (arith, le, here.0, slice_get_within texts j other at_j))
    by i j one other le (inr here) (inr there) = subst (λ (t : Naming). t.until ≤ other.until) (sym here.1) (subst (λ (t : Naming). text.until ≤ t.until) (sym there.1) (omega arith))

-- those up to one that was not replaced later were not either
pub lower_text : (texts : List Naming) (middle above : ℕ) (text : Naming) → AreInOrder texts → slice_get texts middle ≡ Some text → text.until ≤ above → (k : ℕ) (one : Naming) → k < middle + 1 → slice_get texts k ≡ Some one → one.until ≤ above
lower_text texts middle above text order at low k one less here = let e = order.each k middle one text (omega (arith, less)) here at in omega (arith, e, low)

-- those from a place on
pub rest_is : (texts read : List Naming) (low : ℕ) → read ≡ texts → take (length read - low) (drop low read) ≡ drop low texts
rest_is texts read low is = take_all (length read - low) (drop low read) (let e = length-drop low read in omega (arith, e)) ∙ ap (drop low) is

-- the last ones have all that were replaced later
pub after_all : (texts rest : List Naming) (low above : ℕ) → rest ≡ drop low texts → ((k : ℕ) (one : Naming) → k < low → slice_get texts k ≡ Some one → one.until ≤ above) → (text : Naming) → Contains texts text → above < text.until → Contains rest text
after_all texts rest low above is early text there later =
    let at : slice_get texts there.0 ≡ Some text = slice_get-get_or texts there.0 text there.1 ∙ ap Some there.2 in
    elim (cases_lt there.0 low) [
      | inl before ↦ absurd (let e = early there.0 text before at in omega (arith, e, later))
      | inr behind ↦
          subst (λ l. Contains l text) (sym is)
          (Contains-at (drop low texts) (there.0 - low) text (get_drop low texts (there.0 - low) ∙ (ap (slice_get texts) (let e : low + (there.0 - low) ≡ there.0 = omega (arith, behind) in e) ∙ at)))
    ]
