-- A map that is kept by the numbers of records: how it goes on as the log does.
use Rattle.std.proofs.Common.{◌≡◌, ◌+◌, ℕ, zero, suc, Bool, true, false, cond, List, [], ◌∷◌, ◌++◌, length, Option, Some, None, option_map, refl, sym, ap, ◌∙◌, slice_get}
use Rattle.std.specs.FinMap.Entries.{by_order, find, put, where_key}
use Rattle.std.specs.Map.{keys_of}
use Rattle.std.specs.Option.{option_and_then}
use Rattle.std.specs.Ordering.{eq_by_cmp}
use Rattle.std.specs.declared.cmp.Ordering.{Ordering}
use Rattle.std.specs.declared.cmp.Ordering.TheVariants.{Less, Equal, Greater}
use Rattle.up_maps.specs.Numbers.{AreNumbers, given_by, with_values}

-- ---- other values at the same keys

module _ {K V W : Type 0} (f : V → W) where
  pub keys-with_values : (es : List (K × V)) → keys_of (with_values f es) ≡ keys_of es
  keys-with_values [] = refl
  keys-with_values (e ∷ es) = ap (λ ks. e.0 ∷ ks) (keys-with_values es)

  module _ (R : K → K → Ordering) where
    pub find-with_values : (k : K) (es : List (K × V)) → find R k (with_values f es) ≡ option_map f (find R k es)
    find-with_values k [] = refl
    find-with_values k (e ∷ es) = by_tie (eq_by_cmp R k e.0) (find-with_values k es)
      where
        by_tie : (b : Bool) → find R k (with_values f es) ≡ option_map f (find R k es) → cond b (Some (f e.1)) (find R k (with_values f es)) ≡ option_map f (cond b (Some e.1) (find R k es))
        by_tie true rest = refl
        by_tie false rest = rest

    pub put-with_values : (k : K) (v : V) (es : List (K × V)) → put R k (f v) (with_values f es) ≡ with_values f (put R k v es)
    put-with_values k v [] = refl
    put-with_values k v (e ∷ es) = by_place (R k e.0) (put-with_values k v es)
      where
        by_place : (r : Ordering) → put R k (f v) (with_values f es) ≡ with_values f (put R k v es) → by_order r ((k, f v) ∷ (e.0, f e.1) ∷ with_values f es) ((e.0, f v) ∷ with_values f es) ((e.0, f e.1) ∷ put R k (f v) (with_values f es))
            ≡ with_values f (by_order r ((k, v) ∷ e ∷ es) ((e.0, v) ∷ es) (e ∷ put R k v es))
        by_place Less rest = refl
        by_place Equal rest = refl
        by_place Greater rest = ap (λ es. (e.0, f e.1) ∷ es) rest

    pub where_key-with_values : (p : K → Bool) (es : List (K × V)) → where_key R p (with_values f es) ≡ with_values f (where_key R p es)
    where_key-with_values p [] = refl
    where_key-with_values p (e ∷ es) = by_test (p e.0) (where_key-with_values p es)
      where
        by_test : (b : Bool) → where_key R p (with_values f es) ≡ with_values f (where_key R p es) → cond b ((e.0, f e.1) ∷ where_key R p (with_values f es)) (where_key R p (with_values f es)) ≡ with_values f (cond b (e ∷ where_key R p es) (where_key R p es))
        by_test true rest = ap (λ es. (e.0, f e.1) ∷ es) rest
        by_test false rest = rest

-- ---- the log goes on

get_longer : {X : Type 0} (xs ys : List X) (i : ℕ) (x : X) → slice_get xs i ≡ Some x → slice_get (xs ++ ys) i ≡ Some x
get_longer [] ys i x h = absurd (cc)
get_longer (z ∷ zs) ys zero x h = h
get_longer (z ∷ zs) ys (suc i) x h = get_longer zs ys i x h

get_last : {X : Type 0} (xs : List X) (x : X) → slice_get (xs ++ x ∷ []) (length xs) ≡ Some x
get_last [] x = refl
get_last (z ∷ zs) x = get_last zs x

given_longer : {R V : Type 0} (value : R → Option V) (log more : List R) (i : ℕ) (v : V) → given_by value log i ≡ Some v → given_by value (log ++ more) i ≡ Some v
given_longer {R} {V} value log more i v h = by_found (slice_get log i) refl h
  where
    by_found : (found : Option R) → slice_get log i ≡ found → option_and_then value found ≡ Some v → given_by value (log ++ more) i ≡ Some v
    by_found None is h = absurd (cc)
    by_found (Some r) is h = ap (option_and_then value) (get_longer log more i r is) ∙ h

-- the first of a list, and the others
abbrev first_or : {X : Type 0} → X → List X → X
first_or x [] = x
first_or x (y ∷ ys) = y

abbrev others_of : {X : Type 0} → List X → List X
others_of [] = []
others_of (x ∷ xs) = xs

module _ {K R V : Type 0} (value : R → Option V) where
  -- records behind change nothing
  pub numbers_longer : (log more : List R) (numbers : List (K × ℕ)) (entries : List (K × V)) → AreNumbers value log numbers entries → AreNumbers value (log ++ more) numbers entries
  numbers_longer log more numbers entries are = record { same = by_list numbers entries are.same }
    where
      by_list : (ns : List (K × ℕ)) (es : List (K × V)) → with_values (given_by value log) ns ≡ with_values Some es → with_values (given_by value (log ++ more)) ns ≡ with_values Some es
      by_list [] [] h = refl
      by_list [] (e ∷ es) h = absurd (cc)
      by_list (n ∷ ns) [] h = absurd (cc)
      by_list (n ∷ ns) (e ∷ es) h =
          let key : n.0 ≡ e.0 = ap (λ xs. (first_or {X = K × Option V} (n.0, None) xs).0) h in
          let there : given_by value log n.1 ≡ Some e.1 = ap (λ xs. (first_or {X = K × Option V} (n.0, None) xs).1) h in
          let longer : given_by value (log ++ more) n.1 ≡ Some e.1 = given_longer value log more n.1 e.1 there in
          let rest = by_list ns es (ap others_of h) in
          λ i. (key i, longer i) ∷ rest i

  -- a record that gives a value is the one at its key
  pub numbers_put : (cmp : K → K → Ordering) (log : List R) (r : R) (k : K) (v : V) (numbers : List (K × ℕ)) (entries : List (K × V)) → AreNumbers value log numbers entries → value r ≡ Some v
      → AreNumbers value (log ++ r ∷ []) (put cmp k (length log) numbers) (put cmp k v entries)
  numbers_put cmp log r k v numbers entries are gives = record {
    same =
        let f : ℕ → Option V = given_by value (log ++ r ∷ []) in
        let longer = numbers_longer log (r ∷ []) numbers entries are in
        let here : f (length log) ≡ Some v = ap (option_and_then value) (get_last log r) ∙ gives in
        sym (put-with_values f cmp k (length log) numbers) ∙ ap (λ w. put cmp k w (with_values f numbers)) here
        ∙ ap (put cmp k (Some v)) longer.same ∙ put-with_values Some cmp k v entries;
  }

  -- entries are taken out
  pub numbers_without : (cmp : K → K → Ordering) (p : K → Bool) (log : List R) (numbers : List (K × ℕ)) (entries : List (K × V)) → AreNumbers value log numbers entries
      → AreNumbers value log (where_key cmp p numbers) (where_key cmp p entries)
  numbers_without cmp p log numbers entries are = record {
    same = sym (where_key-with_values (given_by value log) cmp p numbers) ∙ ap (where_key cmp p) are.same ∙ where_key-with_values Some cmp p entries;
  }

  pub numbers_keys : (log : List R) (numbers : List (K × ℕ)) (entries : List (K × V)) → AreNumbers value log numbers entries → keys_of numbers ≡ keys_of entries
  numbers_keys log numbers entries are = sym (keys-with_values (given_by value log) numbers) ∙ ap keys_of are.same ∙ keys-with_values Some entries

  -- what is found by a number
  pub numbers_found : (cmp : K → K → Ordering) (k : K) (log : List R) (numbers : List (K × ℕ)) (entries : List (K × V)) → AreNumbers value log numbers entries
      → option_map (given_by value log) (find cmp k numbers) ≡ option_map Some (find cmp k entries)
  numbers_found cmp k log numbers entries are =
      sym (find-with_values (given_by value log) cmp k numbers) ∙ ap (find cmp k) are.same ∙ find-with_values Some cmp k entries
