-- Lists in which something passes a test, and the items of an ordered list of entries.
use Rattle.std.proofs.Common.{◌≡◌, ◌∙◌, ℕ, zero, suc, Bool, true, false, cond, ◌||◌, ◌&&◌, T, List, [], ◌∷◌, map, Some, refl, sym, ap}
use Rattle.std.proofs.lemmas.Bool.{false≢true}
use Rattle.std.proofs.lemmas.List.Folds.{list_any-append}
use Rattle.std.specs.FinMap.Entries.{below_all, find, is_sorted}
use Rattle.std.specs.List.{filter, flat_map, list_any}
use Rattle.std.specs.Ordering.{eq_by_cmp, is_eq, is_lt}
use Rattle.std.specs.declared.cmp.Ordering.{Ordering}
use Rattle.std.specs.declared.cmp.Ordering.TheVariants.{Less, Equal, Greater}
use Rattle.std.specs.Prelude.{slice_get}
use Rattle.up_names.specs.PathNames.{PathName}
use Rattle.up_names.specs.PathOrder.{path_cmp, path_eq}
use Rattle.up_names.specs.PathOrderLaws.{path_cmp_eq}
use Rattle.up_log_tree.proofs.Paths.{path_eq_itself, path_same, some_none, some_same}

module _ {X : Type 0} where
  -- an item of a list that passes a test
  pub record Found (test : X → Bool) (xs : List X) : Type 0 where
    pub place : ℕ
    pub item : X
    pub there : slice_get xs place ≡ Some item
    pub passes : test item ≡ true

  pub found_in : (test : X → Bool) (xs : List X) → list_any test xs ≡ true → Found test xs
  found_in test [] any = absurd (false≢true any)
  found_in test (x ∷ xs) any = go (test x) refl any (λ more. found_in test xs more)
    where
      go : (b : Bool) → test x ≡ b → (b || list_any test xs) ≡ true → (list_any test xs ≡ true → Found test xs) → Found test (x ∷ xs)
      go true is any behind = record { place = 0; item = x; there = refl; passes = is }
      go false is any behind = let rest = behind any in record { place = suc rest.place; item = rest.item; there = rest.there; passes = rest.passes }

  pub any_at : (test : X → Bool) (xs : List X) (place : ℕ) (item : X) → slice_get xs place ≡ Some item → test item ≡ true → list_any test xs ≡ true
  any_at test [] place item there passes = absurd (some_none item (sym there))
  any_at test (x ∷ xs) zero item there passes = ap (λ b. b || list_any test xs) (ap test (some_same x item there) ∙ passes)
  any_at test (x ∷ xs) (suc place) item there passes = ap (λ b. test x || b) (any_at test xs place item there passes) ∙ or_true (test x)
    where
      or_true : (b : Bool) → (b || true) ≡ true
      or_true true = refl
      or_true false = refl

  -- what passes among lists put together
  pub any_flat : {Y : Type 0} (test : X → Bool) (parts : Y → List X) (ys : List Y) → list_any test (flat_map parts ys) ≡ list_any (λ y. list_any test (parts y)) ys
  any_flat test parts [] = refl
  any_flat test parts (y ∷ ys) = list_any-append test (parts y) (flat_map parts ys) ∙ ap (λ b. list_any test (parts y) || b) (any_flat test parts ys)

  pub any_map : {Y : Type 0} (test : X → Bool) (f : Y → X) (ys : List Y) → list_any test (map f ys) ≡ list_any (λ y. test (f y)) ys
  any_map test f [] = refl
  any_map test f (y ∷ ys) = ap (λ b. test (f y) || b) (any_map test f ys)

  -- ---- tests that agree

  pub filter_same : (p q : X → Bool) (xs : List X) → ((x : X) → p x ≡ q x) → filter p xs ≡ filter q xs
  filter_same p q [] same = refl
  filter_same p q (x ∷ xs) same = ap (λ b. cond b (x ∷ filter p xs) (filter p xs)) (same x) ∙ ap (λ ys. cond (q x) (x ∷ ys) ys) (filter_same p q xs same)

both_ways : (a b : Bool) → (a ≡ true → b ≡ true) → (b ≡ true → a ≡ true) → a ≡ b
both_ways true b there back = sym (there refl)
both_ways false true there back = absurd (false≢true (back refl))
both_ways false false there back = refl

pub alike : (a b : Bool) → (a ≡ true → b ≡ true) → (b ≡ true → a ≡ true) → a ≡ b
alike = both_ways

-- ---- entries in the order of paths

T_parts : (a b : Bool) → T (a && b) → T a × T b
T_parts true b h = (tt, h)
T_parts false b h = absurd h

tied : (p q : PathName) → eq_by_cmp path_cmp p q ≡ path_eq p q
tied p q = sym (path_cmp_eq p q)

less_not_tied : (o : Ordering) → T (is_lt o) → is_eq o ≡ false
less_not_tied Less h = refl
less_not_tied Equal h = absurd h
less_not_tied Greater h = absurd h

turned_tie : (p q : PathName) → eq_by_cmp path_cmp p q ≡ true → is_eq (path_cmp q p) ≡ false → ⊥
turned_tie p q tie apart =
    let same : p ≡ q = path_same p q (sym (tied p q) ∙ tie) in
    false≢true (sym apart ∙ ap (λ r. eq_by_cmp path_cmp r p) (sym same) ∙ ap (λ r. eq_by_cmp path_cmp p r) same ∙ tie)

module _ {X : Type 0} where
  below_at : (q : PathName) (es : List (PathName × X)) (place : ℕ) (e : PathName × X) → T (below_all path_cmp q es) → slice_get es place ≡ Some e → is_eq (path_cmp q e.0) ≡ false
  below_at q [] place e low there = absurd (some_none e (sym there))
  below_at q (x ∷ es) zero e low there = ap (λ (y : PathName × X). is_eq (path_cmp q y.0)) (sym (some_same x e there)) ∙ less_not_tied (path_cmp q x.0) (T_parts _ _ low).0
  below_at q (x ∷ es) (suc place) e low there = below_at q es place e (T_parts _ _ low).1 there

  -- each entry is found at its key
  pub listed_found : (es : List (PathName × X)) (place : ℕ) (e : PathName × X) → T (is_sorted path_cmp es) → slice_get es place ≡ Some e → find path_cmp e.0 es ≡ Some e.1
  listed_found [] place e sorted there = absurd (some_none e (sym there))
  listed_found (x ∷ es) zero e sorted there =
      let same = some_same x e there in
      ap (λ b. cond b (Some x.1) (find path_cmp e.0 es)) (ap (λ (y : PathName × X). eq_by_cmp path_cmp e.0 y.0) same ∙ self e.0) ∙ ap (λ (y : PathName × X). Some y.1) same
    where
      self : (p : PathName) → eq_by_cmp path_cmp p p ≡ true
      self p = tied p p ∙ path_eq_itself p
  listed_found (x ∷ es) (suc place) e sorted there = go (eq_by_cmp path_cmp e.0 x.0) refl (listed_found es place e (T_parts _ _ sorted).1 there)
    where
      go : (b : Bool) → eq_by_cmp path_cmp e.0 x.0 ≡ b → find path_cmp e.0 es ≡ Some e.1 → cond b (Some x.1) (find path_cmp e.0 es) ≡ Some e.1
      go true tie behind = absurd (turned_tie e.0 x.0 tie (below_at x.0 es place e (T_parts _ _ sorted).0 there))
      go false apart behind = behind

  -- what is found at a key is an entry
  pub record Listed (es : List (PathName × X)) (value : X) : Type 0 where
    pub place : ℕ
    pub key : PathName
    pub there : slice_get es place ≡ Some (key, value)

  pub found_listed : (q : PathName) (es : List (PathName × X)) (value : X) → find path_cmp q es ≡ Some value → Listed es value
  found_listed q [] value is = absurd (some_none value (sym is))
  found_listed q (x ∷ es) value is = go (eq_by_cmp path_cmp q x.0) is (λ behind. found_listed q es value behind)
    where
      go : (b : Bool) → cond b (Some x.1) (find path_cmp q es) ≡ Some value → (find path_cmp q es ≡ Some value → Listed es value) → Listed (x ∷ es) value
      go true is behind = record { place = 0; key = x.0; there = ap (λ v. Some (x.0, v)) (some_same x.1 value is) }
      go false is behind = let rest = behind is in record { place = suc rest.place; key = rest.key; there = rest.there }
