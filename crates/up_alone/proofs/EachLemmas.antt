-- What holds of each node of a tree, by what holds of each record of a log.
use Rattle.std.proofs.Common.{◌≡◌, ℕ, zero, suc, Bool, true, false, cond, List, [], ◌∷◌, ◌++◌, length, take, refl, sym, subst, Option, Some, None}
use Rattle.std.specs.Prelude.{⊤, map, filter, fold, slice_get}
use Rattle.std.specs.FinMap.Entries as entries
use Rattle.std.specs.FinMap.Entries.{by_order, find, put}
use Rattle.std.specs.List.{AllByRecursion}
use Rattle.std.specs.Map.{values_of}
use Rattle.std.specs.Ordering.{eq_by_cmp}
use Rattle.std.specs.declared.cmp.Ordering.{Ordering}
use Rattle.std.specs.declared.cmp.Ordering.TheVariants.{Less, Equal, Greater}
use Rattle.up_log_tree.proofs.Paths.{some_none, some_same}

-- ---- lists

pub all_got : {X : Type 0} (P : X → Type 0) (xs : List X) → ((n : ℕ) (x : X) → slice_get xs n ≡ Some x → P x) → AllByRecursion P xs
all_got P [] each = tt
all_got P (x ∷ xs) each = (each zero x refl, all_got P xs (λ n y is. each (suc n) y is))

pub all_take : {X : Type 0} (P : X → Type 0) (n : ℕ) (xs : List X) → AllByRecursion P xs → AllByRecursion P (take n xs)
all_take P zero xs all = tt
all_take P (suc n) [] all = tt
all_take P (suc n) (x ∷ xs) all = (all.0, all_take P n xs all.1)

pub all_map : {X Y : Type 0} (P : X → Type 0) (Q : Y → Type 0) (f : X → Y) → ((x : X) → P x → Q (f x)) → (xs : List X) → AllByRecursion P xs → AllByRecursion Q (map f xs)
all_map P Q f each [] all = tt
all_map P Q f each (x ∷ xs) all = (each x all.0, all_map P Q f each xs all.1)

pub all_filter : {X : Type 0} (P : X → Type 0) (test : X → Bool) (xs : List X) → AllByRecursion P xs → AllByRecursion P (filter test xs)
all_filter P test [] all = tt
all_filter P test (x ∷ xs) all = go (test x) (all_filter P test xs all.1)
  where
    go : (b : Bool) → AllByRecursion P (filter test xs) → AllByRecursion P (cond b (x ∷ filter test xs) (filter test xs))
    go true rest = (all.0, rest)
    go false rest = rest

pub all_fold : {X S : Type 0} (P : X → Type 0) (I : S → Type 0) (step : S → X → S) → ((s : S) (x : X) → I s → P x → I (step s x)) → (s : S) (xs : List X) → I s → AllByRecursion P xs → I (fold step s xs)
all_fold P I step keeps s [] start all = start
all_fold P I step keeps s (x ∷ xs) start all = all_fold P I step keeps (step s x) xs (keeps s x start all.0) all.1

-- ---- maps

module _ {K X : Type 0} (R : K → K → Ordering) (P : X → Type 0) where
  abbrev pub Each : List (K × X) → Type 0
  Each es = AllByRecursion (λ (e : K × X). P e.1) es

  pub each_put : (k : K) (x : X) (es : List (K × X)) → P x → Each es → Each (put R k x es)
  each_put k x [] is all = (is, tt)
  each_put k x (e ∷ es) is all = go (R k e.0) (each_put k x es is all.1)
    where
      go : (o : Ordering) → Each (put R k x es) → Each (by_order o ((k, x) ∷ e ∷ es) ((e.0, x) ∷ es) (e ∷ put R k x es))
      go Less rest = (is, all)
      go Equal rest = (is, all.1)
      go Greater rest = (all.0, rest)

  pub each_found : (q : K) (es : List (K × X)) (x : X) → Each es → find R q es ≡ Some x → P x
  each_found q [] x all is = absurd (some_none x (sym is))
  each_found q (e ∷ es) x all is = go (eq_by_cmp R q e.0) (each_found q es x all.1) is
    where
      go : (b : Bool) → (find R q es ≡ Some x → P x) → cond b (Some e.1) (find R q es) ≡ Some x → P x
      go true rest is = subst P (some_same e.1 x is) all.0
      go false rest is = rest is

  pub each_value : (es : List (K × X)) → Each es → AllByRecursion P (values_of es)
  each_value [] all = tt
  each_value (e ∷ es) all = (all.0, each_value es all.1)
