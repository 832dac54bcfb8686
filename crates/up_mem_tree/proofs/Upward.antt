-- From a slot up to its directory's.
use Rattle.std.proofs.Common.{◌≡◌, ℕ, suc, ◌+◌, ◌-◌, ◌<◌, ◌≤◌, false, length, Option, Some, None, refl, sym, ap, subst, ◌∙◌, inl, inr, arith}
use Rattle.std.specs.Prelude.{MatchOption, slice_get}
use Rattle.std.specs.Option.{option_map}
use Rattle.std.proofs.lemmas.Bool.{cases_lt, false≢true}
use Rattle.up_names.specs.PathNames.{PathName, cut, parent_of}
use Rattle.up_mem_tree.specs.Kept.{Stands, paths_of, slots_of}
use Rattle.up_mem_tree.specs.Slots.{IsDeepest, IsIdOf, IsParentIdOf, known, path_in}
use Rattle.up_mem_tree.specs.declared.kept.Kept.{Kept}
use Rattle.up_mem_tree.specs.declared.slots.Slot.{Slot}
use Rattle.up_log_tree.specs.Orders.{has_path as has}
use Rattle.up_log_tree.specs.Rights.{facts_of}
use Rattle.up_log_tree.specs.Trees.{tree_at}
use Rattle.up_log_tree.proofs.Paths.{cut_cut, length_cut, parent_is, some_none, some_same}
use Rattle.up_mem_tree.proofs.SlotLemmas.{known-parent, known_at, path_of_slot}
use Rattle.up_mem_tree.proofs.Texts.{no_access}
use Rattle.up_mem_tree.proofs.Walks.{below_unnamed, parent_of_own, path_there}

module _ (kept : Kept) (stands : Stands kept) where
  pub parent_read : (path : PathName) (id : ℕ) (slot : Slot) → path_in (slots_of kept) id ≡ Some path → Some slot ≡ slice_get kept.slots.items id → IsParentIdOf (paths_of kept) (slots_of kept) path slot.parent
  parent_read path id slot at read =
      let there : slice_get (slots_of kept) id ≡ Some (known slot) = known_at kept.slots.items id ∙ ap (option_map known) (sym read) in
      let same : (known slot).path ≡ path = some_same (known slot).path path (sym (path_there (slots_of kept) id (known slot) there) ∙ at) in
      subst (IsParentIdOf (paths_of kept) (slots_of kept) path) (known-parent slot) (parent_of_own kept.owner (paths_of kept) (slots_of kept) stands.linked path id (known slot) there same)

  pub parent_missing : (path : PathName) (id : ℕ) → path_in (slots_of kept) id ≡ Some path → None ≡ slice_get kept.slots.items id → IsParentIdOf (paths_of kept) (slots_of kept) path None
  parent_missing path id at read = absurd (some_none path (sym at ∙ path_of_slot kept.slots.items id ∙ ap (option_map (λ (slot : Slot). slot.path)) (sym read)))

  -- ---- one element up

  module _ (path : PathName) (m id : ℕ) (positive : 0 < m) (within : m ≤ length path.elements) (at : path_in (slots_of kept) id ≡ Some (cut m path)) (above : Option ℕ) (is : IsParentIdOf (paths_of kept) (slots_of kept) (cut m path) above) where
    one : m ≡ (m - 1) + 1
    one = omega (arith, positive)

    is_above : parent_of (cut m path) ≡ Some (cut (m - 1) path)
    is_above = parent_is (cut m path) (m - 1) (length_cut m path within ∙ (let e : m ≡ suc (m - 1) = omega (arith, positive) in e)) ∙ ap Some (cut_cut (m - 1) m path (omega arith))

    at_above : IsIdOf (paths_of kept) (slots_of kept) (cut (m - 1) path) above
    at_above = subst (λ (parent : Option PathName). MatchOption parent (above ≡ None) (λ dir. IsIdOf (paths_of kept) (slots_of kept) dir above)) is_above is

    pub never : above ≡ None → ⊥
    never none =
        false≢true (sym (below_unnamed kept.owner (paths_of kept) (slots_of kept) stands.linked path (m - 1) m (omega arith) within (subst (IsIdOf (paths_of kept) (slots_of kept) (cut (m - 1) path)) none at_above))
        ∙ stands.linked.only id (cut m path) at)

    pub up_to : (next : ℕ) → above ≡ Some next → path_in (slots_of kept) next ≡ Some (cut (m - 1) path)
    up_to next some = subst (IsIdOf (paths_of kept) (slots_of kept) (cut (m - 1) path)) some at_above

  -- ---- no text below the deepest slot

  pub none_unnamed : (n : ℕ) (dir : PathName) → has (paths_of kept) dir ≡ false → (facts_of kept.owner (tree_at kept.log.items n)).access dir ≡ None
  none_unnamed n dir none = no_access kept.owner kept.log.items stands.log.fitting n dir none

  -- ---- and none so far, one element up

  pub none_higher : (path : PathName) (n m : ℕ) → 0 < m → (facts_of kept.owner (tree_at kept.log.items n)).access (cut m path) ≡ None
      → ((k : ℕ) → m < k → k ≤ length path.elements → (facts_of kept.owner (tree_at kept.log.items n)).access (cut k path) ≡ None)
      → (k : ℕ) → m - 1 < k → k ≤ length path.elements → (facts_of kept.owner (tree_at kept.log.items n)).access (cut k path) ≡ None
  none_higher path n m positive here none k lt le = elim (cases_lt m k) [
    | inl higher ↦ none k higher le
    | inr not_higher ↦ ap (λ j. (facts_of kept.owner (tree_at kept.log.items n)).access (cut j path)) (let e : k ≡ m = omega (arith, lt, not_higher, positive) in e) ∙ here
  ]

  -- ---- the loop from the deepest slot up

  pub no_text_below : (path : PathName) (n depth id : ℕ) → IsDeepest (paths_of kept) (slots_of kept) path (Some (depth, id))
      → (m : ℕ) → depth < m → m ≤ length path.elements → (facts_of kept.owner (tree_at kept.log.items n)).access (cut m path) ≡ None
  no_text_below path n depth id deep m lt le = none_unnamed n (cut m path) ((deep.some depth id refl).2 m lt le)

  pub no_text_at_all : (path : PathName) (n : ℕ) → IsDeepest (paths_of kept) (slots_of kept) path None
      → (m : ℕ) → m ≤ length path.elements → (facts_of kept.owner (tree_at kept.log.items n)).access (cut m path) ≡ None
  no_text_at_all path n deep m le = none_unnamed n (cut m path) (deep.none refl m le)

  -- and of none at the root
  pub none_from_root : (path : PathName) (n m : ℕ) → m ≡ 0 → (facts_of kept.owner (tree_at kept.log.items n)).access (cut m path) ≡ None
      → ((k : ℕ) → m < k → k ≤ length path.elements → (facts_of kept.owner (tree_at kept.log.items n)).access (cut k path) ≡ None)
      → (k : ℕ) → k ≤ length path.elements → (facts_of kept.owner (tree_at kept.log.items n)).access (cut k path) ≡ None
  none_from_root path n m root here none k le = elim (cases_lt m k) [
    | inl higher ↦ none k higher le
    | inr not_higher ↦ ap (λ j. (facts_of kept.owner (tree_at kept.log.items n)).access (cut j path)) (let e : k ≡ m = omega (arith, root, not_higher) in e) ∙ here
  ]
