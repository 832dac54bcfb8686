-- What the slot of a path tells of it.
use Rattle.std.proofs.Common.{◌≡◌, ℕ, ◌≤◌, true, false, [], map, length, refl, sym, ap, ◌∙◌, Option, Some, None}
use Rattle.std.specs.Prelude.{slice_get, unwrap_or}
use Rattle.std.specs.Option.{option_map}
use Rattle.std.proofs.lemmas.Option.{slice_get-map}
use Rattle.up_names.specs.PathNames.{PathName}
use Rattle.up_mem_tree.specs.Histories.{are_rising, found}
use Rattle.up_mem_tree.specs.Kept.{IsOwnSlot, Stands, paths_of, slots_of}
use Rattle.up_log_tree.specs.Orders.{has_path as has}
use Rattle.up_log_tree.specs.Changes.{last_change, record_at}
use Rattle.up_log_tree.specs.Rights.{facts_of}
use Rattle.up_mem_tree.specs.Nodes.{put_by}
use Rattle.up_mem_tree.specs.Slots.{known, path_in}
use Rattle.up_log_tree.specs.Trees.{children, node_at, tree_at, tree_of}
use Rattle.up_mem_tree.specs.declared.kept.Kept.{Kept}
use Rattle.up_mem_tree.specs.declared.slots.Slot.{Slot}
use Rattle.up_mem_tree.proofs.Lasts.{left_now}
use Rattle.up_mem_tree.proofs.Named.{childless, unnamed_none}
use Rattle.up_log_tree.proofs.Paths.{some_none, some_same}
use Rattle.up_mem_tree.proofs.SlotLemmas.{known-path, known_at, path_of_slot}
use Rattle.up_mem_tree.proofs.Texts.{no_access, no_group}
use Rattle.up_mem_tree.proofs.Walks.{path_there}

module _ (kept : Kept) (stands : Stands kept) where
  -- the slot with the number of the path
  pub own_there : (path : PathName) (id : ℕ) (slot : Slot) → path_in (slots_of kept) id ≡ Some path → slice_get kept.slots.items id ≡ Some slot → IsOwnSlot kept path (Some slot)
  own_there path id slot at is =
      let there : slice_get (slots_of kept) id ≡ Some (known slot) = known_at kept.slots.items id ∙ ap (option_map known) is in (
        sym (known-path slot) ∙ some_same (known slot).path path (sym (path_there (slots_of kept) id (known slot) there) ∙ at),
        stands.slots id (known slot) there,
      )

  pub own_read : (path : PathName) (id : ℕ) (found : Option Slot) → path_in (slots_of kept) id ≡ Some path → found ≡ slice_get kept.slots.items id → IsOwnSlot kept path found
  own_read path id None at is =
      absurd (some_none path (sym at ∙ path_of_slot kept.slots.items id ∙ ap (option_map (λ (slot : Slot). slot.path)) (sym is)))
  own_read path id (Some slot) at is = own_there path id slot at (sym is)

  -- ---- what stands there

  known-last : (slot : Slot) → (known slot).last ≡ slot.last
  unfolding known
  known-last slot = refl

  known-children : (slot : Slot) → (known slot).children ≡ slot.children.items
  unfolding known
  known-children slot = refl

  known-access : (slot : Slot) → (known slot).access ≡ slot.access.items
  unfolding known
  known-access slot = refl

  known-group : (slot : Slot) → (known slot).group ≡ slot.group.items
  unfolding known
  known-group slot = refl

  pub node_told : (path : PathName) (slot : Slot) → IsOwnSlot kept path (Some slot) → put_by (record_at kept.log.items slot.last) ≡ node_at (tree_of kept.log.items) path
  node_told path slot (same, told) =
      ap (λ n. put_by (record_at kept.log.items n)) (sym (known-last slot) ∙ told.last ∙ ap (λ p. unwrap_or (last_change kept.log.items p) 0) (known-path slot ∙ same))
      ∙ left_now kept.log.items path

  pub no_node : (path : PathName) → IsOwnSlot kept path None → None ≡ node_at (tree_of kept.log.items) path
  no_node path none = sym (unnamed_none kept.log.items path none)

  -- ---- children

  pub children_told : (dir : PathName) (slot : Slot) → IsOwnSlot kept dir (Some slot) → map (path_in (slots_of kept)) slot.children.items ≡ map Some (children (tree_of kept.log.items) dir)
  children_told dir slot (same, told) = ap (map (path_in (slots_of kept))) (sym (known-children slot)) ∙ told.children ∙ ap (λ p. map Some (children (tree_of kept.log.items) p)) (known-path slot ∙ same)

  child_told : (dir : PathName) (slot : Slot) (i : ℕ) → IsOwnSlot kept dir (Some slot) → option_map (path_in (slots_of kept)) (slice_get slot.children.items i) ≡ option_map Some (slice_get (children (tree_of kept.log.items) dir) i)
  child_told dir slot i own = sym (slice_get-map (path_in (slots_of kept)) slot.children.items i) ∙ ap (λ l. slice_get l i) (children_told dir slot own) ∙ slice_get-map Some (children (tree_of kept.log.items) dir) i

  pub child_is : (dir : PathName) (slot : Slot) (i id : ℕ) → IsOwnSlot kept dir (Some slot) → Some id ≡ slice_get slot.children.items i → path_in (slots_of kept) id ≡ slice_get (children (tree_of kept.log.items) dir) i
  child_is dir slot i id own is = go (slice_get (children (tree_of kept.log.items) dir) i) (ap (option_map (path_in (slots_of kept))) is ∙ child_told dir slot i own)
    where
      go : (o : Option PathName) → Some (path_in (slots_of kept) id) ≡ option_map Some o → path_in (slots_of kept) id ≡ o
      go None h = absurd (some_none (path_in (slots_of kept) id) h)
      go (Some path) h = some_same (path_in (slots_of kept) id) (Some path) h

  pub child_none : (dir : PathName) (slot : Slot) (i : ℕ) → IsOwnSlot kept dir (Some slot) → None ≡ slice_get slot.children.items i → None ≡ slice_get (children (tree_of kept.log.items) dir) i
  child_none dir slot i own is = go (slice_get (children (tree_of kept.log.items) dir) i) (ap (option_map (path_in (slots_of kept))) is ∙ child_told dir slot i own)
    where
      go : (o : Option PathName) → None ≡ option_map Some o → None ≡ o
      go None h = refl
      go (Some path) h = absurd (some_none (Some path) (sym h))

  pub unnamed_childless : (dir : PathName) → has (paths_of kept) dir ≡ false → children (tree_of kept.log.items) dir ≡ []
  unnamed_childless dir none = childless kept.owner kept.log.items stands.log.fitting dir none

  pub no_child_there : (dir : PathName) (i : ℕ) → IsOwnSlot kept dir None → None ≡ slice_get (children (tree_of kept.log.items) dir) i
  no_child_there dir i none = sym (ap (λ l. slice_get l i) (unnamed_childless dir none))

  -- ---- texts

  pub access_rising : (dir : PathName) (slot : Slot) → IsOwnSlot kept dir (Some slot) → are_rising (length kept.log.items) slot.access.items ≡ true
  access_rising dir slot (same, told) = ap (are_rising (length kept.log.items)) (sym (known-access slot)) ∙ told.access.rising

  pub access_told : (dir : PathName) (slot : Slot) (n : ℕ) → IsOwnSlot kept dir (Some slot) → n ≤ length kept.log.items → found n slot.access.items ≡ (facts_of kept.owner (tree_at kept.log.items n)).access dir
  access_told dir slot n (same, told) le = ap (found n) (sym (known-access slot)) ∙ told.access.texts n le ∙ ap (facts_of kept.owner (tree_at kept.log.items n)).access (known-path slot ∙ same)

  pub access_none : (dir : PathName) (n : ℕ) → IsOwnSlot kept dir None → None ≡ (facts_of kept.owner (tree_at kept.log.items n)).access dir
  access_none dir n none = sym (no_access kept.owner kept.log.items stands.log.fitting n dir none)

  pub group_rising : (path : PathName) (slot : Slot) → IsOwnSlot kept path (Some slot) → are_rising (length kept.log.items) slot.group.items ≡ true
  group_rising path slot (same, told) = ap (are_rising (length kept.log.items)) (sym (known-group slot)) ∙ told.group.rising

  pub group_told : (path : PathName) (slot : Slot) (n : ℕ) → IsOwnSlot kept path (Some slot) → n ≤ length kept.log.items → found n slot.group.items ≡ (facts_of kept.owner (tree_at kept.log.items n)).group path
  group_told path slot n (same, told) le = ap (found n) (sym (known-group slot)) ∙ told.group.texts n le ∙ ap (facts_of kept.owner (tree_at kept.log.items n)).group (known-path slot ∙ same)

  pub group_none : (path : PathName) (n : ℕ) → IsOwnSlot kept path None → None ≡ (facts_of kept.owner (tree_at kept.log.items n)).group path
  group_none path n none = sym (no_group kept.owner kept.log.items stands.log.fitting n path none)
