-- Where a record may put or delete, as the slots tell it.
use Rattle.std.proofs.Common.{◌≡◌, ◌≢◌, ℕ, zero, suc, Bool, false, ◌&&◌, List, length, Option, Some, None, is_some, refl, sym, ap, subst, ◌∙◌}
use Rattle.std.specs.Prelude.{◌==◌, ⊤, MatchOption, option_map}
use Rattle.std.specs.Str.{bytes_eq}
use Rattle.std.proofs.lemmas.Bool.{and_left}
use Rattle.std.proofs.lemmas.List.{length-map}
use Rattle.up_names.specs.PathNames.{PathName, cut, parent_of}
use Rattle.up_mem_tree.specs.Kept.{IsOwnSlot, Stands, paths_of, slots_of}
use Rattle.up_mem_tree.specs.Nodes.{node_of}
use Rattle.up_mem_tree.specs.Slots.{IsIdOf, path_in}
use Rattle.up_mem_tree.specs.declared.nodes.NodeRef.{NodeRef}
use Rattle.up_mem_tree.specs.declared.kept.Kept.{Kept}
use Rattle.up_mem_tree.specs.declared.slots.Slot.{Slot}
use Rattle.up_log_tree.specs.Fits.{delete_fits, has_place, is_directory_node}
use Rattle.up_log_tree.specs.Trees.{Tree, children, node_at, tree_of}
use Rattle.up_log_tree.specs.declared.node.Node.{Node}
use Rattle.up_log_tree.proofs.Paths.{parent_is, parent_none}
use Rattle.up_mem_tree.proofs.Readings.{children_told, no_node}

module _ (owner : List ℕ) (tree : Tree) (path : PathName) where
  abbrev place_by : Option PathName → Bool
  place_by parent = elim parent as (λ _. Bool) [ None ↦ bytes_eq path.owner owner | Some dir ↦ is_directory_node (node_at tree dir) ]

  is_place : (parent : Option PathName) → parent_of path ≡ parent → place_by parent ≡ has_place owner tree path
  unfolding has_place
  is_place parent is = ap place_by (sym is)

  -- of a root
  pub root_place : length path.elements ≡ 0 → bytes_eq path.owner owner ≡ has_place owner tree path
  root_place is = is_place None (parent_none path is)

  below : (n : ℕ) → length path.elements ≡ n → length path.elements ≢ 0 → (dir : PathName) × (parent_of path ≡ Some dir)
  below zero is other = absurd (other is)
  below (suc n) is other = (cut n path, parent_is path n is)

  pub has_parent : length path.elements ≢ 0 → (dir : PathName) × (parent_of path ≡ Some dir)
  has_parent other = below (length path.elements) refl other

module _ (kept : Kept) where
  -- the slot with the number of the parent
  pub own_of_parent : (parent : Option PathName) (id : Option ℕ) (found : Option Slot) → MatchOption parent (id ≡ None) (λ dir. IsIdOf (paths_of kept) (slots_of kept) dir id)
      → ((path : PathName) → IsIdOf (paths_of kept) (slots_of kept) path id → IsOwnSlot kept path found) → MatchOption parent ⊤ (λ dir. IsOwnSlot kept dir found)
  own_of_parent None id found is own = tt
  own_of_parent (Some dir) id found is own = own dir is

  at_parent : (path dir : PathName) (found : Option Slot) → parent_of path ≡ Some dir → MatchOption (parent_of path) ⊤ (λ d. IsOwnSlot kept d found) → IsOwnSlot kept dir found
  at_parent path dir found is own = subst (λ (parent : Option PathName). MatchOption parent ⊤ (λ d. IsOwnSlot kept d found)) is own

module _ (kept : Kept) (stands : Stands kept) (path : PathName) where
  pub in_directory : (slot : Slot) (found : Option Node) → ((dir : PathName) → IsOwnSlot kept dir (Some slot) → found ≡ node_at (tree_of kept.log.items) dir)
      → length path.elements ≢ 0 → MatchOption (parent_of path) ⊤ (λ dir. IsOwnSlot kept dir (Some slot)) → is_directory_node found ≡ has_place kept.owner (tree_of kept.log.items) path
  in_directory slot found told other own =
      let parent = has_parent kept.owner (tree_of kept.log.items) path other in
      ap is_directory_node (told parent.0 (at_parent kept path parent.0 (Some slot) parent.1 own))
      ∙ is_place kept.owner (tree_of kept.log.items) path (Some parent.0) parent.1

  pub in_none : length path.elements ≢ 0 → MatchOption (parent_of path) ⊤ (λ dir. IsOwnSlot kept dir None) → false ≡ has_place kept.owner (tree_of kept.log.items) path
  in_none other own =
      let parent = has_parent kept.owner (tree_of kept.log.items) path other in
      ap is_directory_node (no_node kept stands parent.0 (at_parent kept path parent.0 None parent.1 own))
      ∙ is_place kept.owner (tree_of kept.log.items) path (Some parent.0) parent.1

  -- ---- a deletion

  as_many : (slot : Slot) → IsOwnSlot kept path (Some slot) → length slot.children.items ≡ length (children (tree_of kept.log.items) path)
  as_many slot own =
      sym (length-map slot.children.items (path_in (slots_of kept))) ∙ ap length (children_told kept stands path slot own)
      ∙ length-map (children (tree_of kept.log.items) path) Some

  stands_alike : (o : Option NodeRef) → is_some o ≡ is_some (option_map node_of o)
  stands_alike None = refl
  stands_alike (Some found) = refl

  pub deletable : (slot : Slot) (found : Option NodeRef) → option_map node_of found ≡ node_at (tree_of kept.log.items) path → IsOwnSlot kept path (Some slot)
      → (is_some found && (length slot.children.items == 0)) ≡ delete_fits kept.log.items path
  unfolding delete_fits
  deletable slot found told own =
      ap (λ b. b && (length slot.children.items == 0)) (stands_alike found ∙ ap is_some told)
      ∙ ap (λ n. is_some (node_at (tree_of kept.log.items) path) && (n == 0)) (as_many slot own)

  pub not_deletable : IsOwnSlot kept path None → false ≡ delete_fits kept.log.items path
  unfolding delete_fits
  not_deletable own = sym (and_left (is_some (node_at (tree_of kept.log.items) path)) (length (children (tree_of kept.log.items) path) == 0) (ap is_some (sym (no_node kept stands path own))))
