-- A path sought among siblings.
use Rattle.std.proofs.Common.{◌≡◌, ℕ, zero, suc, ◌<◌, ◌≤◌, Bool, true, false, List, [], ◌∷◌, length, get_or, refl, sym, ap, subst, ◌∙◌, ◌⊎◌, inl, inr, arith, Option, Some, None}
use Rattle.std.specs.Prelude.{slice_get}
use Rattle.std.specs.Cmp.Lexicographic.{slice_cmp}
use Rattle.std.specs.List.{list_all}
use Rattle.std.specs.List.Sorted.{IsPartitionedBy, IsPartitionPoint}
use Rattle.std.specs.Option.{option_map}
use Rattle.std.specs.Ordering.{is_lt, nat_cmp}
use Rattle.std.specs.Str.{bytes_eq}
use Rattle.std.proofs.lemmas.Bool.{and_parts, cases_lt, false≢true}
use Rattle.std.proofs.lemmas.List.{length-map}
use Rattle.std.proofs.lemmas.Option.{get_or_from_slice_get, slice_get-get_or, slice_get-map, slice_get_within}
use Rattle.std.proofs.lemmas.Slice.Eq.{bytes_eq-Decides}
use Rattle.up_names.specs.PathNames.{PathName, extended}
use Rattle.up_names.specs.PathOrder.{path_cmp}
use Rattle.up_log_tree.specs.Orders.{IsPlaceOf}
use Rattle.up_mem_tree.specs.Slots.{AreSiblings, Known, ends_in, is_below, path_in}
use Rattle.up_log_tree.specs.Trees.{last_element, is_parent}
use Rattle.up_log_tree.proofs.Paths.{extended_last, is_parent_of, last_extended, sibling_cmp, some_none, some_same}
use Rattle.up_log_tree.proofs.Rising.{below_below, earlier_below}

pub all_at : {X : Type 0} (test : X → Bool) (xs : List X) (n : ℕ) (x : X) → list_all test xs ≡ true → slice_get xs n ≡ Some x → test x ≡ true
all_at test [] n x h is = absurd (some_none x (sym is))
all_at test (y ∷ xs) zero x h is = subst (λ z. test z ≡ true) (some_same y x is) (and_parts (test y) (list_all test xs) h).0
all_at test (y ∷ xs) (suc n) x h is = all_at test xs n x (and_parts (test y) (list_all test xs) h).1 is

module _ (slots : List Known) (dir : PathName) (ids : List ℕ) (paths : List PathName) (siblings : AreSiblings slots dir ids paths) where
  -- the slot at a place has the path at that place
  at : (n : ℕ) → option_map (path_in slots) (slice_get ids n) ≡ option_map Some (slice_get paths n)
  at n = sym (slice_get-map (path_in slots) ids n) ∙ ap (λ l. slice_get l n) siblings.same ∙ slice_get-map Some paths n

  pub path_at : (n id : ℕ) → slice_get ids n ≡ Some id → (path : PathName) × (path_in slots id ≡ Some path) × (slice_get paths n ≡ Some path)
  path_at n id is = go (slice_get paths n) refl
    where
      go : (o : Option PathName) → slice_get paths n ≡ o → (path : PathName) × (path_in slots id ≡ Some path) × (slice_get paths n ≡ Some path)
      go None none = absurd (some_none (path_in slots id) (ap (option_map (path_in slots)) (sym is) ∙ at n ∙ ap (option_map Some) none))
      go (Some path) there = (path, some_same (path_in slots id) (Some path) (ap (option_map (path_in slots)) (sym is) ∙ at n ∙ ap (option_map Some) there), there)

  pub id_at : (n : ℕ) (path : PathName) → slice_get paths n ≡ Some path → (id : ℕ) × (slice_get ids n ≡ Some id) × (path_in slots id ≡ Some path)
  id_at n path is = go (slice_get ids n) refl
    where
      go : (o : Option ℕ) → slice_get ids n ≡ o → (id : ℕ) × (slice_get ids n ≡ Some id) × (path_in slots id ≡ Some path)
      go None none = absurd (some_none (Some path) (ap (option_map Some) (sym is) ∙ sym (at n) ∙ ap (option_map (path_in slots)) none))
      go (Some id) there = (id, there, some_same (path_in slots id) (Some path) (ap (option_map (path_in slots)) (sym there) ∙ at n ∙ ap (option_map Some) is))

  pub same_length : length ids ≡ length paths
  same_length = sym (length-map ids (path_in slots)) ∙ ap length siblings.same ∙ length-map paths Some

  is_extended : (n : ℕ) (path : PathName) → slice_get paths n ≡ Some path → path ≡ extended dir (last_element path)
  is_extended n path is = extended_last path dir (is_parent_of dir path (all_at (is_parent dir) paths n path siblings.within is))

  module _ (element : List ℕ) where
    target : PathName
    target = extended dir element

    below : PathName → Bool
    below path = is_lt (path_cmp path (extended dir element))

    -- the test by last elements is that by paths
    tested : (n id : ℕ) (path : PathName) → path_in slots id ≡ Some path → slice_get paths n ≡ Some path → is_below slots element id ≡ is_lt (path_cmp path (extended dir element))
    tested n id path is there =
        ap (λ o. elim o as (λ _. Bool) [ None ↦ false | Some p ↦ is_lt (slice_cmp nat_cmp (last_element p) element) ]) is
        ∙ ap is_lt (sym (sibling_cmp dir (last_element path) element))
        ∙ ap (λ p. is_lt (path_cmp p (extended dir element))) (sym (is_extended n path there))

    partitioned : IsPartitionedBy (is_below slots element) ids
    partitioned i j d le lt passes = go (path_at i (get_or ids i d) (slice_get-get_or ids i d (omega arith))) (path_at j (get_or ids j d) (slice_get-get_or ids j d lt))
      where
        by_place : (p q : PathName) → slice_get paths i ≡ Some p → slice_get paths j ≡ Some q → (i ≡ j) ⊎ (i < j) → is_lt (path_cmp q (extended dir element)) ≡ true → is_lt (path_cmp p (extended dir element)) ≡ true
        by_place p q a b (inl same) lower = subst (λ r. is_lt (path_cmp r (extended dir element)) ≡ true) (some_same q p (sym b ∙ ap (slice_get paths) (sym same) ∙ a)) lower
        by_place p q a b (inr before) lower = below_below p q (extended dir element) (earlier_below paths i j p q siblings.rising before a b) lower

        cases : (i ≡ j) ⊎ (i < j)
        cases = elim (cases_lt i j) [ inl before ↦ inr before | inr after ↦ inl (omega (arith, after, le)) ]

        go : ((p : PathName) × (path_in slots (get_or ids i d) ≡ Some p) × (slice_get paths i ≡ Some p)) → ((q : PathName) × (path_in slots (get_or ids j d) ≡ Some q) × (slice_get paths j ≡ Some q)) → is_below slots element (get_or ids i d) ≡ true
        go (p, pi, pa) (q, qi, qa) = tested i (get_or ids i d) p pi pa ∙ by_place p q pa qa cases (sym (tested j (get_or ids j d) q qi qa) ∙ passes)

    -- what bisection answers is the place of the path
    pub placed : (n : ℕ) → n ≤ length ids → (IsPartitionedBy (is_below slots element) ids → IsPartitionPoint (λ x. is_below slots element x ≡ true) (λ x. is_below slots element x ≡ false) ids n) → IsPlaceOf (extended dir element) paths n
    placed n bound point = record {
      bound = omega (arith, bound, same_length);
      before = λ m other lt is. let id = id_at m other is in sym (tested m id.0 other id.2 is) ∙ subst (λ x. is_below slots element x ≡ true) (get_or_from_slice_get ids m id.0 id.0 id.1) ((point partitioned).0 m id.0 (omega arith) lt);
      from = λ m other le is. let id = id_at m other is in sym (tested m id.0 other id.2 is) ∙ subst (λ x. is_below slots element x ≡ false) (get_or_from_slice_get ids m id.0 id.0 id.1) ((point partitioned).1 m id.0 le (slice_get_within ids m id.0 id.1));
    }

    -- the slot there that ends in the element is the one sought
    pub here : (n id : ℕ) → slice_get ids n ≡ Some id → ends_in slots element id ≡ true → slice_get paths n ≡ Some (extended dir element)
    here n id is ends = go (path_at n id is)
      where
        go : ((p : PathName) × (path_in slots id ≡ Some p) × (slice_get paths n ≡ Some p)) → slice_get paths n ≡ Some (extended dir element)
        go (p, pi, pa) =
            let last : last_element p ≡ element = (bytes_eq-Decides (last_element p) element).0 (sym (ap (λ o. elim o as (λ _. Bool) [ None ↦ false | Some p ↦ bytes_eq (last_element p) element ]) pi) ∙ ends) in
            pa ∙ ap Some (is_extended n p pa ∙ ap (extended dir) last)

    -- and one that does not end in it is another
    pub not_here : (n id : ℕ) → slice_get ids n ≡ Some id → ends_in slots element id ≡ false → slice_get paths n ≡ Some (extended dir element) → ⊥
    not_here n id is ends same = go (path_at n id is)
      where
        go : ((p : PathName) × (path_in slots id ≡ Some p) × (slice_get paths n ≡ Some p)) → ⊥
        go (p, pi, pa) =
            let is_target : p ≡ extended dir element = some_same p (extended dir element) (sym pa ∙ same) in
            false≢true (sym (sym (ap (λ o. elim o as (λ _. Bool) [ None ↦ false | Some p ↦ bytes_eq (last_element p) element ]) pi) ∙ ends)
            ∙ ap (λ p. bytes_eq (last_element p) element) is_target ∙ ap (λ e. bytes_eq e element) (last_extended dir element) ∙ (bytes_eq-Decides element element).1 refl)

    pub nothing_here : (n : ℕ) → slice_get ids n ≡ None → slice_get paths n ≡ Some (extended dir element) → ⊥
    nothing_here n none same = let id = id_at n (extended dir element) same in some_none id.0 (sym id.1 ∙ none)
