-- Lists in order and without repeats: what is in them, and that there is one for each set of elements.
use Rattle.std.proofs.Common.{◌≡◌, Bool, true, false, ◌&&◌, ◌||◌, T, List, [], ◌∷◌, map, cond, refl, sym, ap, subst, ◌∙◌, Option, Some, None, is_some, Contains, ◌↔◌, ◌⊎◌, inl, inr}
use Rattle.std.specs.Cmp.{IsTotalOrder, Equal-is, eq_by_cmp_equiv}
use Rattle.std.specs.FinMap.Entries.{below_all, find, find-put, is_some-find, is_sorted, is_sorted-put, put, same_entries}
use Rattle.std.specs.List.{AllByRecursion, list_any}
use Rattle.std.specs.List.Sorted.{IsStrictlySortedBy}
use Rattle.std.specs.Map.{keys_of}
use Rattle.std.specs.Ordering.{eq_by_cmp, is_lt}
use Rattle.std.specs.declared.cmp.Ordering.{Ordering}
use Rattle.std.specs.declared.cmp.Ordering.TheVariants.{Less, Equal, Greater}
use Rattle.std.proofs.lemmas.Bool.{false≢true}
use Rattle.std.proofs.lemmas.Map.Lookups.{CmpEqualImpliesEq}
use Rattle.std.proofs.lemmas.Map.Views.{Contains-from_any, list_any-from_Contains}
use Rattle.up_share.specs.Orders.{Keys, in_order, with_key, with_keys}

pub T_is : (b : Bool) → T b → b ≡ true
T_is true h = refl
T_is false h = absurd h

pub is_T : (b : Bool) → b ≡ true → T b
is_T true h = tt
is_T false h = absurd (false≢true h)

T_parts : (a b : Bool) → T (a && b) → T a × T b
T_parts true b h = (tt, h)
T_parts false b h = absurd h

T_both : (a b : Bool) → T a → T b → T (a && b)
T_both true b h k = k
T_both false b h k = absurd h

is_less : (o : Ordering) → is_lt o ≡ true → o ≡ Less
is_less Less h = refl
is_less Equal h = absurd (false≢true h)
is_less Greater h = absurd (false≢true h)

or_false : (b : Bool) → (b || false) ≡ b
or_false true = refl
or_false false = refl

one_more : (b : Bool) (found : Option (Unit {0})) (rest : Bool) → (is_some (cond b (Some tt) found) || rest) ≡ (is_some found || (b || rest))
one_more true None rest = refl
one_more true (Some u) rest = refl
one_more false None rest = refl
one_more false (Some u) rest = refl

-- options of nothing that are there alike are one
alike : (a b : Option (Unit {0})) → is_some a ≡ is_some b → a ≡ b
alike None None h = refl
alike None (Some u) h = absurd (false≢true h)
alike (Some u) None h = absurd (false≢true (sym h))
alike (Some u) (Some v) h = refl

both_ways : (a b : Bool) → (a ≡ true → b ≡ true) → (b ≡ true → a ≡ true) → a ≡ b
both_ways true b f g = sym (f refl)
both_ways false true f g = g refl
both_ways false false f g = refl

module _ {K : Type 0} (cmp : K → K → Ordering) (total : IsTotalOrder cmp) where
  -- the keys stay in order
  pub sorted_more : (keys : Keys K) (more : List K) → T (is_sorted cmp keys) → T (is_sorted cmp (with_keys cmp keys more))
  sorted_more keys [] h = h
  sorted_more keys (key ∷ more) h = sorted_more (with_key cmp keys key) more (is_sorted-put cmp total key tt keys h)

  -- a key is found among those that were there and those that were added
  pub found_more : (keys : Keys K) (more : List K) (q : K) → is_some (find cmp q (with_keys cmp keys more)) ≡ (is_some (find cmp q keys) || list_any (eq_by_cmp cmp q) more)
  found_more keys [] q = sym (or_false (is_some (find cmp q keys)))
  found_more keys (key ∷ more) q =
      found_more (with_key cmp keys key) more q
      ∙ (ap (λ found. is_some found || list_any (eq_by_cmp cmp q) more) (find-put cmp total q key tt keys)
      ∙ one_more (eq_by_cmp cmp q key) (find cmp q keys) (list_any (eq_by_cmp cmp q) more))

  -- each key is below those behind it
  below_keys : (key : K) (keys : Keys K) → T (below_all cmp key keys) → AllByRecursion (λ other. cmp key other ≡ Less) (keys_of keys)
  below_keys key [] h = tt
  below_keys key (entry ∷ keys) h =
      let both = T_parts (is_lt (cmp key entry.0)) (below_all cmp key keys) h in
      (is_less (cmp key entry.0) (T_is (is_lt (cmp key entry.0)) both.0), below_keys key keys both.1)

  pub strictly : (keys : Keys K) → T (is_sorted cmp keys) → IsStrictlySortedBy cmp (keys_of keys)
  unfolding IsStrictlySortedBy
  strictly [] h = tt
  strictly (entry ∷ keys) h =
      let both = T_parts (below_all cmp entry.0 keys) (is_sorted cmp keys) h in
      (below_keys entry.0 keys both.0, strictly keys both.1)

  -- a list as the keys of a map
  abbrev keyed : List K → Keys K
  keyed list = map (λ key. (key, tt)) list

  keyed_again : (list : List K) → keys_of (keyed list) ≡ list
  keyed_again [] = refl
  keyed_again (key ∷ list) = ap (λ rest. key ∷ rest) (keyed_again list)

  keyed_below : (key : K) (list : List K) → AllByRecursion (λ other. cmp key other ≡ Less) list → T (below_all cmp key (keyed list))
  keyed_below key [] h = tt
  keyed_below key (other ∷ list) h = T_both (is_lt (cmp key other)) (below_all cmp key (keyed list)) (is_T (is_lt (cmp key other)) (ap is_lt h.0)) (keyed_below key list h.1)

  keyed_sorted : (list : List K) → IsStrictlySortedBy cmp list → T (is_sorted cmp (keyed list))
  unfolding IsStrictlySortedBy
  keyed_sorted [] h = tt
  keyed_sorted (key ∷ list) h = T_both (below_all cmp key (keyed list)) (is_sorted cmp (keyed list)) (keyed_below key list h.0) (keyed_sorted list h.1)

  module _ (exact : CmpEqualImpliesEq cmp) where
    same : (x y : K) → eq_by_cmp cmp x y ≡ true → x ≡ y
    same x y h = exact x y ((Equal-is (cmp x y)).0 h)

    pub any_from : (list : List K) (x : K) → list_any (eq_by_cmp cmp x) list ≡ true → Contains list x
    any_from list x h = Contains-from_any same x list h

    pub any_in : (list : List K) (x : K) → Contains list x → list_any (eq_by_cmp cmp x) list ≡ true
    any_in list x h = list_any-from_Contains (eq_by_cmp_equiv total) x list h

    -- what is found is a key, and each key is found
    pub found_in : (keys : Keys K) (x : K) → is_some (find cmp x keys) ≡ true → Contains (keys_of keys) x
    found_in keys x h = any_from (keys_of keys) x (sym (is_some-find cmp x keys) ∙ h)

    pub in_found : (keys : Keys K) (x : K) → Contains (keys_of keys) x → is_some (find cmp x keys) ≡ true
    in_found keys x h = is_some-find cmp x keys ∙ any_in (keys_of keys) x h

    -- the list in order has the elements of the list
    pub in_order_has : (list : List K) (x : K) → Contains (in_order cmp list) x ↔ Contains list x
    in_order_has list x = (
      λ h. any_from list x (sym (found_more [] list x) ∙ in_found (with_keys cmp [] list) x h),
      λ h. found_in (with_keys cmp [] list) x (found_more [] list x ∙ any_in list x h),
    )

    -- and it is in order
    pub in_order_strictly : (list : List K) → IsStrictlySortedBy cmp (in_order cmp list)
    in_order_strictly list = strictly (with_keys cmp [] list) (sorted_more [] list tt)

    -- Two sets of keys in order that have the same keys are one.
    pub same_keys : (one other : Keys K) → T (is_sorted cmp one) → T (is_sorted cmp other) → ((x : K) → is_some (find cmp x one) ≡ is_some (find cmp x other)) → one ≡ other
    same_keys one other h k alike_at = same_entries cmp total exact one other h k (λ x. alike (find cmp x one) (find cmp x other) (alike_at x))

    -- Two lists in order that have the same elements are one.
    pub one_list : (one other : List K) → IsStrictlySortedBy cmp one → IsStrictlySortedBy cmp other → ((x : K) → Contains one x ↔ Contains other x) → one ≡ other
    one_list one other h k members =
        sym (keyed_again one)
        ∙ (ap keys_of (same_keys (keyed one) (keyed other) (keyed_sorted one h) (keyed_sorted other k) (λ x. both_ways (is_some (find cmp x (keyed one))) (is_some (find cmp x (keyed other)))
        (λ there. in_found (keyed other) x (subst (λ list. Contains list x) (sym (keyed_again other)) ((members x).0 (subst (λ list. Contains list x) (keyed_again one) (found_in (keyed one) x there)))))
        (λ there. in_found (keyed one) x (subst (λ list. Contains list x) (sym (keyed_again one)) ((members x).1 (subst (λ list. Contains list x) (keyed_again other) (found_in (keyed other) x there)))))))
        ∙ keyed_again other)
