-- Slots that are linked, and the way down to a path.
use Rattle.std.proofs.Common.{◌≡◌, ℕ, zero, suc, ◌+◌, ◌-◌, ◌<◌, ◌≤◌, Bool, true, false, cond, ◌&&◌, List, [], ◌∷◌, length, refl, sym, ap, subst, ◌∙◌, inl, inr, arith, Option, Some, None}
use Rattle.std.specs.Prelude.{slice_get, MatchOption}
use Rattle.std.specs.List.{filter, list_all}
use Rattle.std.specs.Option.{option_map}
use Rattle.std.proofs.lemmas.Bool.{and_from, cases_lt, false≢true}
use Rattle.std.proofs.lemmas.Option.{slice_get_within}
use Rattle.up_names.specs.PathNames.{PathName, cut, extended, parent_of}
use Rattle.up_log_tree.specs.Orders.{IsPlaceOf, are_rising, has_path as has}
use Rattle.up_mem_tree.specs.Slots.{AreLinked, AreSiblings, IsDeepest, IsFoundAs, IsIdOf, IsParentIdOf, Known, path_in}
use Rattle.up_log_tree.specs.Trees.{is_parent}
use Rattle.up_log_tree.proofs.Paths.{cut_cut, cut_whole, length_cut, parent_extended, parent_is, parent_none, parent_passes, some_none, some_same}
use Rattle.up_log_tree.proofs.Rising.{earlier_below, has-filter, not_below_itself, place_of, rising-filter}
use Rattle.up_mem_tree.proofs.Siblings.{path_at}

pub all_filtered : {X : Type 0} (test : X → Bool) (xs : List X) → list_all test (filter test xs) ≡ true
all_filtered test [] = refl
all_filtered test (x ∷ xs) = go (test x) refl (all_filtered test xs)
  where
    go : (b : Bool) → test x ≡ b → list_all test (filter test xs) ≡ true → list_all test (cond b (x ∷ filter test xs) (filter test xs)) ≡ true
    go true is rest = and_from (test x) (list_all test (filter test xs)) is rest
    go false is rest = rest

-- ---- a slot by its path

pub slot_there : (slots : List Known) (id : ℕ) (path : PathName) → path_in slots id ≡ Some path → (slot : Known) × (slice_get slots id ≡ Some slot) × (slot.path ≡ path)
unfolding path_in
slot_there slots id path is = go (slice_get slots id) refl is
  where
    go : (o : Option Known) → slice_get slots id ≡ o → option_map (λ (slot : Known). slot.path) o ≡ Some path → (slot : Known) × (slice_get slots id ≡ Some slot) × (slot.path ≡ path)
    go None there h = absurd (some_none path (sym h))
    go (Some slot) there h = (slot, there, some_same slot.path path h)

pub path_there : (slots : List Known) (id : ℕ) (slot : Known) → slice_get slots id ≡ Some slot → path_in slots id ≡ Some slot.path
unfolding path_in
path_there slots id slot is = ap (option_map (λ (slot : Known). slot.path)) is

pub id_within : (slots : List Known) (id : ℕ) (path : PathName) → path_in slots id ≡ Some path → id < length slots
id_within slots id path is = let slot = slot_there slots id path is in slice_get_within slots id slot.0 slot.1

-- ---- among siblings

-- a path that is not at its place is none of them
pub not_among : (paths : List PathName) (path : PathName) (n : ℕ) → are_rising paths ≡ true → IsPlaceOf path paths n → (slice_get paths n ≡ Some path → ⊥) → has paths path ≡ false
not_among paths path n rising place missing = go (has paths path) refl
  where
    nowhere : (m : ℕ) → slice_get paths m ≡ Some path → ⊥
    nowhere m is = elim (cases_lt m n) [
      | inl before ↦ false≢true (sym (not_below_itself path) ∙ place.before m path before is)
      | inr from ↦ elim (cases_lt n m) [
        | inl after ↦ later (slice_get paths n) refl after
        | inr same ↦ missing (ap (slice_get paths) (let e : n ≡ m = omega (arith, from, same) in e) ∙ is)
      ]
    ]
      where
        later : (o : Option PathName) → slice_get paths n ≡ o → n < m → ⊥
        later None none after = omega_gap (slice_get_within paths m path is) (none_past paths n none)
          where
            none_past : (paths : List PathName) (n : ℕ) → slice_get paths n ≡ None → length paths ≤ n
            none_past [] n none = omega arith
            none_past (p ∷ paths) zero none = absurd (some_none p none)
            none_past (p ∷ paths) (suc n) none = let rest : length paths ≤ n = none_past paths n none in omega (arith, rest)

            omega_gap : m < length paths → length paths ≤ n → ⊥
            omega_gap a b = absurd (omega (arith, a, b, after))
        later (Some other) there after = false≢true (sym (place.from n other (omega arith) there) ∙ earlier_below paths n m other path rising after there is)

    go : (b : Bool) → has paths path ≡ b → has paths path ≡ false
    go true is = absurd (let at = place_of paths path is in nowhere at.0 at.1)
    go false is = is

module _ (owner : List ℕ) (paths : List PathName) (slots : List Known) (linked : AreLinked owner paths slots) where
  pub named_siblings : (id : ℕ) (slot : Known) → slice_get slots id ≡ Some slot → AreSiblings slots slot.path slot.named (filter (is_parent slot.path) paths)
  named_siblings id slot is = record {
    same = linked.named id slot is;
    rising = rising-filter (is_parent slot.path) paths linked.rising;
    within = all_filtered (is_parent slot.path) paths;
  }

  -- what is found among the paths under a slot's is the slot of the path
  pub found_id : (id : ℕ) (slot : Known) (element : List ℕ) (place : ℕ) (found : Option ℕ) → slice_get slots id ≡ Some slot
      → IsFoundAs (extended slot.path element) slot.named (filter (is_parent slot.path) paths) place found → IsIdOf paths slots (extended slot.path element) found
  found_id id slot element place None is at =
      let keys = filter (is_parent slot.path) paths in
      let target = extended slot.path element in
      let none : has keys target ≡ false = not_among keys target place (rising-filter (is_parent slot.path) paths linked.rising) at.place at.here in
      go (is_parent slot.path target) (parent_passes slot.path target (parent_extended slot.path element)) (sym (has-filter (is_parent slot.path) paths target) ∙ none)
    where
      go : (b : Bool) → b ≡ true → (b && has paths (extended slot.path element)) ≡ false → has paths (extended slot.path element) ≡ false
      go true t h = h
      go false t h = absurd (false≢true t)
  found_id id slot element place (Some found) is at =
      let keys = filter (is_parent slot.path) paths in
      let there = path_at slots slot.path slot.named keys (named_siblings id slot is) place found at.here.0 in
      there.1 ∙ sym there.2 ∙ at.here.1

  -- ---- prefixes of a path that has a slot have one

  above_one : (path : PathName) (n : ℕ) → suc n ≤ length path.elements → has paths (cut (suc n) path) ≡ true → has paths (cut n path) ≡ true
  above_one path n le named =
      let long : length (cut (suc n) path).elements ≡ suc n = length_cut (suc n) path le in
      subst (λ o. MatchOption o ((cut (suc n) path).owner ≡ owner) (λ dir. has paths dir ≡ true)) (parent_is (cut (suc n) path) n long ∙ ap Some (cut_cut n (suc n) path (omega arith))) (linked.closed (cut (suc n) path) named)

  pub above_named : (path : PathName) (n k : ℕ) → n + k ≤ length path.elements → has paths (cut (n + k) path) ≡ true → has paths (cut n path) ≡ true
  above_named path n zero le named = subst (λ m. has paths (cut m path) ≡ true) (let e : n + 0 ≡ n = omega arith in e) named
  above_named path n (suc k) le named =
      above_named path n k (omega (arith, le)) (above_one path (n + k) (omega (arith, le)) (subst (λ m. has paths (cut m path) ≡ true) (let e : n + suc k ≡ suc (n + k) = omega arith in e) named))

  pub below_unnamed : (path : PathName) (n m : ℕ) → n ≤ m → m ≤ length path.elements → has paths (cut n path) ≡ false → has paths (cut m path) ≡ false
  below_unnamed path n m le within none = go (has paths (cut m path)) refl
    where
      go : (b : Bool) → has paths (cut m path) ≡ b → has paths (cut m path) ≡ false
      go true is =
          let gap : n + (m - n) ≡ m = omega (arith, le) in
          absurd (false≢true (sym none ∙ above_named path n (m - n) (omega (arith, gap, within)) (subst (λ k. has paths (cut k path) ≡ true) (sym gap) is)))
      go false is = is

  pub owned : (path : PathName) → has paths path ≡ true → path.owner ≡ owner
  owned path named =
      let whole : has paths (cut (0 + length path.elements) path) ≡ true = subst (λ k. has paths (cut k path) ≡ true) (let e : length path.elements ≡ 0 + length path.elements = omega arith in e) (subst (λ p. has paths p ≡ true) (sym (cut_whole path)) named) in
      let root : has paths (cut 0 path) ≡ true = above_named path 0 (length path.elements) (omega arith) whole in
      subst (λ o. MatchOption o (path.owner ≡ owner) (λ dir. has paths dir ≡ true)) (parent_none (cut 0 path) refl) (linked.closed (cut 0 path) root)

  -- nothing is named where there are no slots, nor of another owner
  pub none_without_slots : length slots ≡ 0 → (path : PathName) → has paths path ≡ false
  none_without_slots empty path = go (has paths path) refl
    where
      go : (b : Bool) → has paths path ≡ b → has paths path ≡ false
      go true is = absurd (let at = linked.all path is in let lt : at.0 < length slots = id_within slots at.0 path at.1 in omega (arith, lt, empty))
      go false is = is

  pub none_of_others : (path : PathName) → (path.owner ≡ owner → ⊥) → has paths path ≡ false
  none_of_others path other = go (has paths path) refl
    where
      go : (b : Bool) → has paths path ≡ b → has paths path ≡ false
      go true is = absurd (other (owned path is))
      go false is = is

  -- the walk begins at the root
  pub first_root : (path : PathName) → 0 < length slots → path.owner ≡ owner → path_in slots 0 ≡ Some (cut 0 path)
  first_root path some same = go (slice_get slots 0) refl
    where
      none_there : (slots : List Known) → 0 < length slots → slice_get slots 0 ≡ None → ⊥
      none_there [] lt none = absurd (omega (arith, lt))
      none_there (slot ∷ slots) lt none = some_none slot none

      go : (o : Option Known) → slice_get slots 0 ≡ o → path_in slots 0 ≡ Some (cut 0 path)
      go None none = absurd (none_there slots some none)
      go (Some slot) is =
          let at = path_there slots 0 slot is in
          at ∙ ap Some (linked.root slot.path at ∙ ap (λ o. record { owner = o; elements = [] }) (sym same))

  -- ---- what the deepest slot says

  pub of_deepest : (path : PathName) (n id : ℕ) → IsDeepest paths slots path (Some (n, id)) → n ≡ length path.elements → path_in slots id ≡ Some path
  of_deepest path n id deep whole = (deep.some n id refl).1 ∙ ap (λ k. Some (cut k path)) whole ∙ ap Some (cut_whole path)

  pub not_deepest : (path : PathName) (n id : ℕ) → IsDeepest paths slots path (Some (n, id)) → (n ≡ length path.elements → ⊥) → has paths path ≡ false
  not_deepest path n id deep short =
      subst (λ p. has paths p ≡ false) (cut_whole path) ((deep.some n id refl).2 (length path.elements) (let le = (deep.some n id refl).0 in omega (arith, le, short)) (omega arith))

  pub never_deepest : (path : PathName) → IsDeepest paths slots path None → has paths path ≡ false
  never_deepest path deep = subst (λ p. has paths p ≡ false) (cut_whole path) (deep.none refl (length path.elements) (omega arith))

  -- ---- a parent, by the deepest slot

  pub parent_of_own : (path : PathName) (id : ℕ) (slot : Known) → slice_get slots id ≡ Some slot → slot.path ≡ path → IsParentIdOf paths slots path slot.parent
  parent_of_own path id slot is same = go (parent_of path) (slot.parent) (linked.parents id slot is ∙ ap (λ p. option_map Some (parent_of p)) same)
    where
      go : (o : Option PathName) (p : Option ℕ) → option_map (path_in slots) p ≡ option_map Some o → MatchOption o (p ≡ None) (λ dir. IsIdOf paths slots dir p)
      go None None h = refl
      go None (Some k) h = absurd (some_none (path_in slots k) h)
      go (Some dir) None h = absurd (some_none (Some dir) (sym h))
      go (Some dir) (Some k) h = some_same (path_in slots k) (Some dir) h

  by_parent : (path : PathName) (id : Option ℕ) → (length path.elements ≡ 0 → id ≡ None) → ((k : ℕ) → length path.elements ≡ suc k → IsIdOf paths slots (cut k path) id) → IsParentIdOf paths slots path id
  by_parent path id root below = go (length path.elements) refl
    where
      go : (n : ℕ) → length path.elements ≡ n → IsParentIdOf paths slots path id
      go zero is = subst (λ o. MatchOption o (id ≡ None) (λ dir. IsIdOf paths slots dir id)) (sym (parent_none path is)) (root is)
      go (suc k) is = subst (λ o. MatchOption o (id ≡ None) (λ dir. IsIdOf paths slots dir id)) (sym (parent_is path k is)) (below k is)

  pub parent_of_none : (path : PathName) → IsDeepest paths slots path None → IsParentIdOf paths slots path None
  parent_of_none path deep = by_parent path None (λ _. refl) (λ k is. deep.none refl k (omega (arith, is)))

  pub parent_above : (path : PathName) (n id : ℕ) → IsDeepest paths slots path (Some (n, id)) → length path.elements - n ≡ 1 → IsParentIdOf paths slots path (Some id)
  parent_above path n id deep next =
      let some = deep.some n id refl in
      by_parent path (Some id) (λ none. absurd (omega (arith, none, next))) (λ k is. some.1 ∙ ap (λ m. Some (cut m path)) (let e : n ≡ k = omega (arith, is, next) in e))

  pub parent_unnamed : (path : PathName) (n id : ℕ) → IsDeepest paths slots path (Some (n, id)) → (length path.elements - n ≡ 0 → ⊥) → (length path.elements - n ≡ 1 → ⊥) → IsParentIdOf paths slots path None
  parent_unnamed path n id deep other next =
      let some = deep.some n id refl in
      by_parent path None (λ _. refl) (λ k is. some.2 k (omega (arith, is, other, next)) (omega (arith, is)))
