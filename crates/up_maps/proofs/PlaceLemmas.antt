-- The place of a key among entries in the order of their keys: what it finds, and what a change there makes.
use Rattle.std.proofs.Common.{◌≡◌, ◌≤◌, ◌<◌, ◌-◌, ◌&&◌, ℕ, zero, suc, Bool, true, false, not, cond, List, [], ◌∷◌, length, Option, Some, None, is_some, T, refl, sym, ap, subst, ◌∙◌, arith, slice_get}
use Rattle.std.proofs.Math.ListN.{get_or}
use Rattle.std.proofs.lemmas.Option.{slice_get-get_or}
use Rattle.std.specs.Cmp.{IsTotalOrder}
use Rattle.std.specs.FinMap.Entries.{below_all, by_order, find, is_sorted, is_sorted-put, is_sorted-where_key, put, where_key}
use Rattle.std.specs.List.{insert, remove}
use Rattle.std.specs.Ordering.{eq_by_cmp, is_eq, is_lt, ordering_reverse}
use Rattle.std.specs.declared.cmp.Ordering.{Ordering}
use Rattle.std.specs.declared.cmp.Ordering.TheVariants.{Less, Equal, Greater}
use Rattle.up_maps.specs.Joined.{IsAt}
use Rattle.up_maps.specs.Maps.{IsPlaceOf, value_at}

and_first : (a b : Bool) → (a && b) ≡ true → a ≡ true
and_first true b h = refl
and_first false b h = absurd (cc)

and_second : (a b : Bool) → (a && b) ≡ true → b ≡ true
and_second true b h = h
and_second false b h = absurd (cc)

both : (a b : Bool) → a ≡ true → b ≡ true → (a && b) ≡ true
both a b p q = ap (λ x. x && b) p ∙ q

less : (r : Ordering) → is_lt r ≡ true → r ≡ Less
less Less h = refl
less Equal h = absurd (cc)
less Greater h = absurd (cc)

one_less : (i : ℕ) → suc i - 1 ≡ i
one_less i = omega arith

greater : {K : Type 0} (R : K → K → Ordering) (o : IsTotalOrder R) (x y : K) → R x y ≡ Less → R y x ≡ Greater
greater R o x y p = o.antisymm y x ∙ ap ordering_reverse p

not_greater : {K : Type 0} (R : K → K → Ordering) (o : IsTotalOrder R) (k x : K) → is_lt (R x k) ≡ false → R k x ≡ Greater → ⊥
not_greater R o k x split p =
    let lesser : R x k ≡ Less = o.antisymm x k ∙ ap ordering_reverse p in
    let h : is_lt (R x k) ≡ true = ap is_lt lesser in
    cc

from_test : (b : Bool) → T b → b ≡ true
from_test true h = refl
from_test false h = absurd h

module _ {K V : Type 0} (R : K → K → Ordering) (o : IsTotalOrder R) where
  -- whether an entry has a lesser key
  abbrev pub is_below : K → K × V → Bool
  is_below k e = is_lt (R e.0 k)

  below_less : (x y : K) (es : List (K × V)) → R x y ≡ Less → below_all R y es ≡ true → below_all R x es ≡ true
  below_less x y [] p h = refl
  below_less x y (e ∷ es) p h =
      both _ _ (ap is_lt (o.trans x y e.0 p (less _ (and_first _ _ h)))) (below_less x y es p (and_second (is_lt (R y e.0)) _ h))

  below_get : (x : K) (es : List (K × V)) (j : ℕ) (e : K × V) → below_all R x es ≡ true → slice_get es j ≡ Some e → R x e.0 ≡ Less
  below_get x [] j e h there = absurd (cc)
  below_get x (f ∷ es) zero e h there = let same : f ≡ e = cc in subst (λ (g : K × V). R x g.0 ≡ Less) same (less _ (and_first _ _ h))
  below_get x (f ∷ es) (suc j) e h there = below_get x es j e (and_second (is_lt (R x f.0)) _ h) there

  -- ---- where a key belongs

  pub split_at : (k : K) (es : List (K × V)) (i : ℕ) → is_sorted R es ≡ true → i ≤ length es → (0 < i → IsAt (is_below k) true es (i - 1)) → IsAt (is_below k) false es i → IsPlaceOf R k es i
  split_at k [] zero sorted within before here = tt
  split_at k [] (suc i) sorted within before here = absurd (omega arith)
  split_at k (e ∷ es) zero sorted within before here = here e refl
  split_at k (e ∷ es) (suc i) sorted within before here = (first i before within, split_at k es i (and_second (below_all R e.0 es) _ sorted) (omega arith) (later i before) here)
    where
      first : (i : ℕ) → (0 < suc i → IsAt (is_below k) true (e ∷ es) (suc i - 1)) → suc i ≤ length (e ∷ es) → R e.0 k ≡ Less
      first zero before within = less _ (subst (λ n. IsAt (is_below k) true (e ∷ es) n) (one_less zero) (before (omega arith)) e refl)
      first (suc j) before within =
          let there : slice_get es j ≡ Some (get_or es j e) = slice_get-get_or es j e (omega arith) in
          let mid : R (get_or es j e).0 k ≡ Less = less _ (subst (λ n. IsAt (is_below k) true (e ∷ es) n) (one_less (suc j)) (before (omega arith)) (get_or es j e) there) in
          o.trans e.0 (get_or es j e).0 k (below_get e.0 es j (get_or es j e) (and_first _ (is_sorted R es) sorted) there) mid

      later : (i : ℕ) → (0 < suc i → IsAt (is_below k) true (e ∷ es) (suc i - 1)) → 0 < i → IsAt (is_below k) true es (i - 1)
      later zero before some = absurd (omega arith)
      later (suc j) before some = subst (λ n. IsAt (is_below k) true es n) (sym (one_less j)) (subst (λ n. IsAt (is_below k) true (e ∷ es) n) (one_less (suc j)) (before (omega arith)))

  -- ---- what is found

  find_none : (k : K) (es : List (K × V)) → below_all R k es ≡ true → find R k es ≡ None
  find_none k [] h = refl
  find_none k (e ∷ es) h = ap (λ r. cond (is_eq r) (Some e.1) (find R k es)) (less _ (and_first _ _ h)) ∙ find_none k es (and_second (is_lt (R k e.0)) _ h)

  pub find_split : (k : K) (es : List (K × V)) (i : ℕ) → is_sorted R es ≡ true → IsPlaceOf R k es i → find R k es ≡ value_at R k (slice_get es i)
  find_split k [] zero sorted split = refl
  find_split k [] (suc i) sorted split = absurd split
  find_split k (e ∷ es) zero sorted split = by_tie (R k e.0) refl
    where
      by_tie : (r : Ordering) → R k e.0 ≡ r → cond (is_eq r) (Some e.1) (find R k es) ≡ cond (is_eq r) (Some e.1) None
      by_tie Less p = find_none k es (below_less k e.0 es p (and_first _ _ sorted))
      by_tie Equal p = refl
      by_tie Greater p = absurd (not_greater R o k e.0 split p)
  find_split k (e ∷ es) (suc i) sorted split =
      ap (λ r. cond (is_eq r) (Some e.1) (find R k es)) (greater R o e.0 k split.0) ∙ find_split k es i (and_second (below_all R e.0 es) _ sorted) split.1

  -- ---- what is put

  -- a new entry stands at the place
  pub put_new : (k : K) (v : V) (es : List (K × V)) (i : ℕ) → IsPlaceOf R k es i → ((e : K × V) → slice_get es i ≡ Some e → is_eq (R k e.0) ≡ false) → put R k v es ≡ insert es i (k, v)
  put_new k v [] zero split apart = refl
  put_new k v [] (suc i) split apart = absurd split
  put_new k v (e ∷ es) zero split apart = by_tie (R k e.0) refl
    where
      by_tie : (r : Ordering) → R k e.0 ≡ r → by_order r ((k, v) ∷ e ∷ es) ((e.0, v) ∷ es) (e ∷ put R k v es) ≡ (k, v) ∷ e ∷ es
      by_tie Less p = refl
      by_tie Equal p = let h : is_eq (R k e.0) ≡ true = ap is_eq p in let n : is_eq (R k e.0) ≡ false = apart e refl in absurd (cc)
      by_tie Greater p = absurd (not_greater R o k e.0 split p)
  put_new k v (e ∷ es) (suc i) split apart =
      ap (λ r. by_order r ((k, v) ∷ e ∷ es) ((e.0, v) ∷ es) (e ∷ put R k v es)) (greater R o e.0 k split.0) ∙ ap (λ rest. e ∷ rest) (put_new k v es i split.1 apart)

  -- an entry that ties keeps its key, and has the new value
  pub put_tied : (k : K) (v : V) (es : List (K × V)) (i : ℕ) (e : K × V) → IsPlaceOf R k es i → slice_get es i ≡ Some e → is_eq (R k e.0) ≡ true → put R k v es ≡ insert (remove es i) i (e.0, v)
  put_tied k v [] i e split there tie = absurd (cc)
  put_tied k v (f ∷ es) zero e split there tie = by_tie (R k f.0) refl
    where
      same : f ≡ e
      same = cc

      by_tie : (r : Ordering) → R k f.0 ≡ r → by_order r ((k, v) ∷ f ∷ es) ((f.0, v) ∷ es) (f ∷ put R k v es) ≡ (e.0, v) ∷ es
      by_tie Less p = let h : is_eq (R k f.0) ≡ false = ap is_eq p in let t : is_eq (R k f.0) ≡ true = subst (λ (g : K × V). is_eq (R k g.0) ≡ true) (sym same) tie in absurd (cc)
      by_tie Equal p = ap (λ (g : K × V). (g.0, v) ∷ es) same
      by_tie Greater p = absurd (not_greater R o k f.0 split p)
  put_tied k v (f ∷ es) (suc i) e split there tie =
      ap (λ r. by_order r ((k, v) ∷ f ∷ es) ((f.0, v) ∷ es) (f ∷ put R k v es)) (greater R o f.0 k split.0) ∙ ap (λ rest. f ∷ rest) (put_tied k v es i e split.1 there tie)

  -- ---- what is taken out

  abbrev pub others : K → List (K × V) → List (K × V)
  others k = where_key R (λ other. not (eq_by_cmp R k other))

  all_others : (k : K) (es : List (K × V)) → below_all R k es ≡ true → others k es ≡ es
  all_others k [] h = refl
  all_others k (e ∷ es) h =
      ap (λ r. cond (not (is_eq r)) (e ∷ others k es) (others k es)) (less _ (and_first _ _ h)) ∙ ap (λ rest. e ∷ rest) (all_others k es (and_second (is_lt (R k e.0)) _ h))

  pub others_none : (k : K) (es : List (K × V)) (i : ℕ) → is_sorted R es ≡ true → IsPlaceOf R k es i → ((e : K × V) → slice_get es i ≡ Some e → is_eq (R k e.0) ≡ false) → others k es ≡ es
  others_none k [] zero sorted split apart = refl
  others_none k [] (suc i) sorted split apart = absurd split
  others_none k (e ∷ es) zero sorted split apart = by_tie (R k e.0) refl
    where
      by_tie : (r : Ordering) → R k e.0 ≡ r → cond (not (is_eq r)) (e ∷ others k es) (others k es) ≡ e ∷ es
      by_tie Less p = ap (λ rest. e ∷ rest) (all_others k es (below_less k e.0 es p (and_first _ _ sorted)))
      by_tie Equal p = let h : is_eq (R k e.0) ≡ true = ap is_eq p in let n : is_eq (R k e.0) ≡ false = apart e refl in absurd (cc)
      by_tie Greater p = absurd (not_greater R o k e.0 split p)
  others_none k (e ∷ es) (suc i) sorted split apart =
      ap (λ r. cond (not (is_eq r)) (e ∷ others k es) (others k es)) (greater R o e.0 k split.0)
      ∙ ap (λ rest. e ∷ rest) (others_none k es i (and_second (below_all R e.0 es) _ sorted) split.1 apart)

  pub others_tied : (k : K) (es : List (K × V)) (i : ℕ) (e : K × V) → is_sorted R es ≡ true → IsPlaceOf R k es i → slice_get es i ≡ Some e → is_eq (R k e.0) ≡ true → others k es ≡ remove es i
  others_tied k [] i e sorted split there tie = absurd (cc)
  others_tied k (f ∷ es) zero e sorted split there tie = by_tie (R k f.0) refl
    where
      same : f ≡ e
      same = cc

      tied_f : is_eq (R k f.0) ≡ true
      tied_f = subst (λ (g : K × V). is_eq (R k g.0) ≡ true) (sym same) tie

      below_tied : (es : List (K × V)) → R k f.0 ≡ Equal → below_all R f.0 es ≡ true → below_all R k es ≡ true
      below_tied [] p h = refl
      below_tied (x ∷ es) p h = both _ _ (ap is_lt (o.congr k f.0 x.0 p) ∙ and_first _ _ h) (below_tied es p (and_second (is_lt (R f.0 x.0)) _ h))

      by_tie : (r : Ordering) → R k f.0 ≡ r → cond (not (is_eq r)) (f ∷ others k es) (others k es) ≡ es
      by_tie Less p = let h : is_eq (R k f.0) ≡ false = ap is_eq p in absurd (let t = tied_f in cc)
      by_tie Equal p = all_others k es (below_tied es p (and_first _ _ sorted))
      by_tie Greater p = absurd (not_greater R o k f.0 split p)
  others_tied k (f ∷ es) (suc i) e sorted split there tie =
      ap (λ r. cond (not (is_eq r)) (f ∷ others k es) (others k es)) (greater R o f.0 k split.0)
      ∙ ap (λ rest. f ∷ rest) (others_tied k es i e (and_second (below_all R f.0 es) _ sorted) split.1 there tie)

  -- ---- by whether the key is there

  is_tied : (k : K) (e : K × V) → is_some (value_at R k (Some e)) ≡ true → is_eq (R k e.0) ≡ true
  is_tied k e h = by_test (is_eq (R k e.0)) h
    where
      by_test : (b : Bool) → is_some (cond b (Some e.1) None) ≡ true → b ≡ true
      by_test true h = refl
      by_test false h = absurd (cc)

  is_apart : (k : K) (found : Option (K × V)) (e : K × V) → is_some (value_at R k found) ≡ false → found ≡ Some e → is_eq (R k e.0) ≡ false
  is_apart k None e h is = absurd (cc)
  is_apart k (Some f) e h is = subst (λ (g : K × V). is_eq (R k g.0) ≡ false) same (by_test (is_eq (R k f.0)) h)
    where
      same : f ≡ e
      same = cc

      by_test : (b : Bool) → is_some (cond b (Some f.1) None) ≡ false → b ≡ false
      by_test true h = absurd (cc)
      by_test false h = refl

  pub put_there : (k : K) (v : V) (es : List (K × V)) (i : ℕ) (e : K × V) → IsPlaceOf R k es i → slice_get es i ≡ Some e → is_some (value_at R k (slice_get es i)) ≡ true → put R k v es ≡ insert (remove es i) i (e.0, v)
  put_there k v es i e place there some = put_tied k v es i e place there (is_tied k e (subst (λ found. is_some (value_at R k found) ≡ true) there some))

  pub put_fresh : (k : K) (v : V) (es : List (K × V)) (i : ℕ) → IsPlaceOf R k es i → is_some (value_at R k (slice_get es i)) ≡ false → put R k v es ≡ insert es i (k, v)
  put_fresh k v es i place none = put_new k v es i place (λ e there. is_apart k (slice_get es i) e none there)

  pub others_there : (k : K) (es : List (K × V)) (i : ℕ) (e : K × V) → is_sorted R es ≡ true → IsPlaceOf R k es i → slice_get es i ≡ Some e → is_some (value_at R k (slice_get es i)) ≡ true → others k es ≡ remove es i
  others_there k es i e sorted place there some = others_tied k es i e sorted place there (is_tied k e (subst (λ found. is_some (value_at R k found) ≡ true) there some))

  pub others_fresh : (k : K) (es : List (K × V)) (i : ℕ) → is_sorted R es ≡ true → IsPlaceOf R k es i → is_some (value_at R k (slice_get es i)) ≡ false → others k es ≡ es
  others_fresh k es i sorted place none = others_none k es i sorted place (λ e there. is_apart k (slice_get es i) e none there)

  -- ---- the order stays

  pub sorted_put : (k : K) (v : V) (es : List (K × V)) → is_sorted R es ≡ true → is_sorted R (put R k v es) ≡ true
  sorted_put k v es sorted = from_test _ (is_sorted-put R o k v es (subst T (sym sorted) tt))

  pub sorted_others : (k : K) (es : List (K × V)) → is_sorted R es ≡ true → is_sorted R (others k es) ≡ true
  sorted_others k es sorted = from_test _ (is_sorted-where_key R (λ other. not (eq_by_cmp R k other)) es (subst T (sym sorted) tt))
