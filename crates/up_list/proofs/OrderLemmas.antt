-- Lists in one order that have the same at each path are one list.
use Rattle.std.proofs.Common.{◌≡◌, ℕ, suc, ◌<◌, ◌≤◌, Bool, true, false, ◌&&◌, List, [], ◌∷◌, length, refl, sym, ap, subst, ◌∙◌, arith, T}
use Rattle.std.specs.Prelude.{⊤, if◌then◌else◌, filter, slice_index_or}
use Rattle.std.specs.FinMap.Entries.{is_sorted, below_all}
use Rattle.std.specs.List.{AllByRecursion}
use Rattle.std.specs.List.Sorted.{IsSortedBy}
use Rattle.std.specs.Map.{values_of}
use Rattle.std.specs.Ordering.{is_eq, is_lt}
use Rattle.std.specs.declared.cmp.Ordering.{Ordering}
use Rattle.std.specs.declared.cmp.Ordering.TheVariants.{Less, Equal, Greater}
use Rattle.std.proofs.lemmas.Bool.{false≢true}
use Rattle.std.proofs.lemmas.List.MinMax.{ranks_by}
use Rattle.std.proofs.lemmas.List.Sorted.{sorted_far}
use Rattle.up_names.specs.PathNames.{PathName}
use Rattle.up_names.specs.PathOrder.{path_cmp, path_eq}
use Rattle.up_names.specs.PathOrderLaws.{path_cmp_eq, path_cmp_total}
use Rattle.up_log_tree.proofs.Paths.{path_eq_itself, path_same}
use Rattle.up_log_tree.proofs.Rising.{greater_below, not_below_itself, not_both_below}

all_from : {X : Type 0} (P : X → Type 0) (xs : List X) → ((j : ℕ) (d : X) → j < length xs → P (slice_index_or xs j d)) → AllByRecursion P xs
all_from P [] h = tt
all_from P (x ∷ xs) h = (h 0 x (omega arith), all_from P xs (λ j d within. h (suc j) d (omega (arith, within))))

T_parts : (a b : Bool) → T (a && b) → T a × T b
T_parts true b h = (tt, h)
T_parts false b h = absurd h

T_is : (b : Bool) → T b → b ≡ true
T_is true h = refl
T_is false h = absurd h

module _ {X : Type 0} (key : X → PathName) where
  -- those at a path
  abbrev pub at : PathName → List X → List X
  at q xs = filter (λ x. path_eq q (key x)) xs

  -- none of these is below a path
  abbrev NoneBelow : PathName → List X → Type 0
  NoneBelow p xs = AllByRecursion (λ x. is_lt (path_cmp (key x) p) ≡ false) xs

  -- none is below one that stands before it
  abbrev pub IsRising : List X → Type 0
  IsRising [] = ⊤
  IsRising (x ∷ xs) = NoneBelow (key x) xs × IsRising xs

  at_head : (x : X) (xs : List X) (q : PathName) (b : Bool) → path_eq q (key x) ≡ b → at q (x ∷ xs) ≡ (if b then x ∷ at q xs else at q xs)
  at_head x xs q b is = ap (λ c. if c then x ∷ at q xs else at q xs) is

  -- what stands at a path is not below what none is below
  not_below_at : (p q : PathName) (xs : List X) (x : X) (rest : List X) → NoneBelow p xs → at q xs ≡ x ∷ rest → is_lt (path_cmp q p) ≡ false
  not_below_at p q [] x rest none is = absurd (cc)
  not_below_at p q (y ∷ ys) x rest none is = go (path_eq q (key y)) refl (λ later. not_below_at p q ys x rest none.1 later)
    where
      go : (b : Bool) → path_eq q (key y) ≡ b → (at q ys ≡ x ∷ rest → is_lt (path_cmp q p) ≡ false) → is_lt (path_cmp q p) ≡ false
      go true e later = subst (λ r. is_lt (path_cmp r p) ≡ false) (sym (path_same q (key y) e)) none.0
      go false e later = later (sym (at_head y ys q false e) ∙ is)

  first_here : (x : X) (xs : List X) → at (key x) (x ∷ xs) ≡ x ∷ at (key x) xs
  first_here x xs = at_head x xs (key x) true (path_eq_itself (key x))

  tied : (p q : PathName) (o : Ordering) → path_cmp p q ≡ o → is_lt (path_cmp p q) ≡ false → is_lt (path_cmp q p) ≡ false → p ≡ q
  tied p q Less is a b = absurd (false≢true (sym a ∙ ap is_lt is))
  tied p q Equal is a b = path_same p q (path_cmp_eq p q ∙ ap is_eq is)
  tied p q Greater is a b = absurd (false≢true (sym b ∙ greater_below p q is))

  heads : (x y : X) (xs ys : List X) → x ∷ xs ≡ y ∷ ys → (x ≡ y) × (xs ≡ ys)
  heads x y xs ys h = (cc, cc)

  pub one_order : (xs ys : List X) → IsRising xs → IsRising ys → ((q : PathName) → at q xs ≡ at q ys) → xs ≡ ys
  one_order [] [] f g same = refl
  one_order [] (y ∷ ys) f g same = absurd (let h : [] ≡ y ∷ at (key y) ys = same (key y) ∙ first_here y ys in cc)
  one_order (x ∷ xs) [] f g same = absurd (let h : [] ≡ x ∷ at (key x) xs = sym (same (key x)) ∙ first_here x xs in cc)
  one_order (x ∷ xs) (y ∷ ys) f g same =
      ap (λ z. z ∷ xs) both.0 ∙ ap (λ zs. y ∷ zs) (one_order xs ys f.1 g.1 (λ q. others q (path_eq q (key x)) refl))
    where
      keys : key x ≡ key y
      keys = tied (key x) (key y) (path_cmp (key x) (key y)) refl
          (not_below_at (key y) (key x) (y ∷ ys) x (at (key x) xs) (not_below_itself (key y), g.0) (sym (same (key x)) ∙ first_here x xs))
          (not_below_at (key x) (key y) (x ∷ xs) y (at (key y) ys) (not_below_itself (key x), f.0) (same (key y) ∙ first_here y ys))

      both : (x ≡ y) × (at (key x) xs ≡ at (key x) ys)
      both = heads x y (at (key x) xs) (at (key x) ys) (sym (first_here x xs) ∙ (same (key x) ∙ at_head y ys (key x) true (ap (path_eq (key x)) (sym keys) ∙ path_eq_itself (key x))))

      others : (q : PathName) (b : Bool) → path_eq q (key x) ≡ b → at q xs ≡ at q ys
      others q true e = subst (λ r. at r xs ≡ at r ys) (sym (path_same q (key x) e)) both.1
      others q false e = sym (at_head x xs q false e) ∙ (same q ∙ at_head y ys q false (ap (path_eq q) (sym keys) ∙ e))

  -- what a sort by the paths leaves rises
  pub rising_from_sorted : (xs : List X) → IsSortedBy (λ x y. is_lt (path_cmp (key x) (key y))) xs → IsRising xs
  rising_from_sorted xs h = from xs (λ i j d low within. sorted_far (λ x y. is_lt (path_cmp (key x) (key y))) (ranks_by path_cmp_total key) xs h i j d low within)
    where
      from : (xs : List X) → ((i j : ℕ) (d : X) → i ≤ j → j < length xs → is_lt (path_cmp (key (slice_index_or xs j d)) (key (slice_index_or xs i d))) ≡ false) → IsRising xs
      from [] h = tt
      from (x ∷ xs) h = (
        all_from (λ y. is_lt (path_cmp (key y) (key x)) ≡ false) xs (λ j d within. h 0 (suc j) d (omega arith) (omega (arith, within))),
        from xs (λ i j d low within. h (suc i) (suc j) d (omega (arith, low)) (omega (arith, within))),
      )

  -- so do the values of a list in order of paths, each at its path
  pub rising_values : (es : List (PathName × X)) → T (is_sorted path_cmp es) → AllByRecursion (λ (e : PathName × X). key e.1 ≡ e.0) es → IsRising (values_of es)
  rising_values [] h named = tt
  rising_values (e ∷ es) h named =
      (above es (T_parts (below_all path_cmp e.0 es) (is_sorted path_cmp es) h).0 named.1, rising_values es (T_parts (below_all path_cmp e.0 es) (is_sorted path_cmp es) h).1 named.1)
    where
      above : (fs : List (PathName × X)) → T (below_all path_cmp e.0 fs) → AllByRecursion (λ (f : PathName × X). key f.1 ≡ f.0) fs → NoneBelow (key e.1) (values_of fs)
      above [] below names = tt
      above (f ∷ fs) below names = (
        ap (λ a. is_lt (path_cmp a (key e.1))) names.0 ∙ (ap (λ b. is_lt (path_cmp f.0 b)) named.0 ∙ not_both_below e.0 f.0 (T_is (is_lt (path_cmp e.0 f.0)) (T_parts (is_lt (path_cmp e.0 f.0)) (below_all path_cmp e.0 fs) below).0)),
        above fs (T_parts (is_lt (path_cmp e.0 f.0)) (below_all path_cmp e.0 fs) below).1 names.1,
      )
