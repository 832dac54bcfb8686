-- What a record changes in the directory of its path.
use Rattle.std.proofs.Common.{◌≡◌, ℕ, ◌+◌, ◌<◌, true, false, cond, List, [], ◌∷◌, ◌++◌, length, get_or, refl, sym, ap, subst, ◌∙◌, Option, Some, None, is_some}
use Rattle.std.specs.Prelude.{MatchOption, ⊤}
use Rattle.std.specs.List.{filter}
use Rattle.std.proofs.lemmas.Bool.{false≢true}
use Rattle.std.proofs.lemmas.Option.{slice_get-get_or}
use Rattle.up_names.specs.PathNames.{PathName, parent_of}
use Rattle.up_access.specs.declared.Rule.{Rule}
use Rattle.up_mem_tree.specs.declared.history.Change.{Change}
use Rattle.up_mem_tree.specs.declared.kept.Kept.{Kept}
use Rattle.up_mem_tree.specs.declared.slots.Slot.{Slot}
use Rattle.up_mem_tree.specs.declared.steps.ParentStep.{ParentStep}
use Rattle.up_mem_tree.specs.Kept.{HasAbove, IsAboveIn, Stands, paths_of, slots_of}
use Rattle.up_log_tree.specs.Orders.{are_rising, has_path as has, with_path}
use Rattle.up_mem_tree.specs.Slots.{AreSiblings, IsIdOf, IsParentIdOf, Known, known, path_in}
use Rattle.up_entry.specs.declared.records.Rec.{Rec}
use Rattle.up_log_tree.specs.Fits.{HasPlace}
use Rattle.up_mem_tree.specs.Slots.{named_paths}
use Rattle.up_mem_tree.specs.Steps.{IsAboveOf, IsAboveTo, IsEditTo, access_change}
use Rattle.up_log_tree.specs.Trees.{children, is_parent, node_at, tree_of}
use Rattle.up_log_tree.specs.declared.node.Node.{Node}
use Rattle.up_mem_tree.proofs.Named.{place_named, stands_named}
use Rattle.up_log_tree.proofs.Paths.{parent_passes, some_none, some_same}
use Rattle.up_mem_tree.proofs.Readings.{children_told, own_there}
use Rattle.up_log_tree.proofs.Rising.{filter-with}
use Rattle.up_mem_tree.proofs.SlotLemmas.{known-named, known_read, slot_within}
use Rattle.up_log_tree.proofs.Trees.{children_within, rising_children}
use Rattle.up_mem_tree.proofs.Walks.{named_siblings, path_there}

module _ (kept : Kept) (stands : Stands kept) (dir : PathName) (id : ℕ) (slot : Slot) (at : path_in (slots_of kept) id ≡ Some dir) (read : slot ≡ get_or kept.slots.items id slot) where
  pub in_range : id < length kept.slots.items
  in_range = slot_within kept.slots.items id dir at

  pub named_in : AreSiblings (slots_of kept) dir slot.named.items (filter (is_parent dir) (paths_of kept))
  named_in =
      let there = known_read kept.slots.items id slot in_range read in
      let same : (known slot).path ≡ dir = some_same (known slot).path dir (sym (path_there (slots_of kept) id (known slot) there) ∙ at) in
      subst (λ ids. AreSiblings (slots_of kept) dir ids (filter (is_parent dir) (paths_of kept))) (known-named slot)
      (subst (λ d. AreSiblings (slots_of kept) d (known slot).named (filter (is_parent d) (paths_of kept))) same (named_siblings kept.owner (paths_of kept) (slots_of kept) stands.linked id (known slot) there))

  pub children_in : AreSiblings (slots_of kept) dir slot.children.items (children (tree_of kept.log.items) dir)
  children_in = record {
    same = children_told kept stands dir slot (own_there kept stands dir id slot at (slice_get-get_or kept.slots.items id slot in_range ∙ ap Some (sym read)));
    rising = rising_children kept.log.items dir;
    within = children_within (tree_of kept.log.items) dir;
  }

pub with_filtered : (dir path : PathName) (paths : List PathName) → parent_of path ≡ Some dir → are_rising paths ≡ true → with_path path (filter (is_parent dir) paths) ≡ filter (is_parent dir) (with_path path paths)
with_filtered dir path paths up rising =
    sym (filter-with (is_parent dir) path paths rising ∙ ap (λ b. cond b (with_path path (filter (is_parent dir) paths)) (filter (is_parent dir) paths)) (parent_passes dir path up))

abbrev no_step : Option ParentStep
no_step = None

module _ (kept : Kept) (path : PathName) where
  range_by : (o : Option PathName) (id : ℕ) → MatchOption o (Some id ≡ None) (λ dir. IsIdOf (paths_of kept) (slots_of kept) dir (Some id)) → id < length kept.slots.items
  range_by None id is = absurd (some_none id is)
  range_by (Some dir) id is = slot_within kept.slots.items id dir is

  pub parent_in_range : (id : ℕ) → IsParentIdOf (paths_of kept) (slots_of kept) path (Some id) → id < length kept.slots.items
  parent_in_range id is = range_by (parent_of path) id is

  none_by : (P : Type 0) (o : Option PathName) → MatchOption o P (λ dir. has (paths_of kept) dir ≡ false) → MatchOption o ⊤ (λ dir. has (paths_of kept) dir ≡ true) → MatchOption o (no_step ≡ None) (λ dir. ⊥)
  none_by P None is has_above = refl
  none_by P (Some dir) is has_above = false≢true (sym is ∙ has_above)

  -- without a slot above, the path is a root
  pub none_above : IsParentIdOf (paths_of kept) (slots_of kept) path None → HasAbove (paths_of kept) path → (own : ℕ) (after : List PathName → List PathName) (access : Option (Change (List Rule))) → IsAboveIn kept path own after access None
  none_above is has_above own after access = none_by _ (parent_of path) is has_above

  module _ (own : ℕ) (after : List PathName → List PathName) (access : Option (Change (List Rule))) (step : ParentStep) where
    some_by : (o : Option PathName) (id : ℕ) → MatchOption o (Some id ≡ None) (λ dir. path_in (slots_of kept) id ≡ Some dir)
        → ((dir : PathName) → o ≡ Some dir → path_in (slots_of kept) id ≡ Some dir → IsAboveTo (paths_of kept) (slots_of kept) path own dir (children (tree_of kept.log.items) dir) (after (children (tree_of kept.log.items) dir)) access step)
        → MatchOption o (Some step ≡ None) (λ dir. IsAboveTo (paths_of kept) (slots_of kept) path own dir (children (tree_of kept.log.items) dir) (after (children (tree_of kept.log.items) dir)) access step)
    some_by None id is parts = absurd (some_none id is)
    some_by (Some dir) id is parts = parts dir refl is

    pub some_above : (id : ℕ) → IsParentIdOf (paths_of kept) (slots_of kept) path (Some id)
        → ((dir : PathName) → parent_of path ≡ Some dir → path_in (slots_of kept) id ≡ Some dir → IsAboveTo (paths_of kept) (slots_of kept) path own dir (children (tree_of kept.log.items) dir) (after (children (tree_of kept.log.items) dir)) access step)
        → IsAboveIn kept path own after access (Some step)
    some_above id is parts = some_by (parent_of path) id is parts

-- ---- what stands above a path

weaken : (P : Type 0) (Q : PathName → Type 0) (o : Option PathName) → MatchOption o P Q → MatchOption o ⊤ Q
weaken P Q None h = tt
weaken P Q (Some dir) h = h

pub put_has_above : (owner : List ℕ) (records : List Rec) (path : PathName) → HasPlace owner (tree_of records) path → HasAbove (named_paths records) path
put_has_above owner records path place = weaken (path.owner ≡ owner) (λ dir. has (named_paths records) dir ≡ true) (parent_of path) (place_named owner records path place)

pub named_has_above : (kept : Kept) → Stands kept → (path : PathName) → has (paths_of kept) path ≡ true → HasAbove (paths_of kept) path
named_has_above kept stands path named = weaken (path.owner ≡ kept.owner) (λ dir. has (paths_of kept) dir ≡ true) (parent_of path) (stands.linked.closed path named)

pub item_named : (records : List Rec) (path : PathName) → is_some (node_at (tree_of records) path) ≡ true → has (named_paths records) path ≡ true
item_named records path there = go (node_at (tree_of records) path) refl there
  where
    go : (o : Option Node) → node_at (tree_of records) path ≡ o → is_some o ≡ true → has (named_paths records) path ≡ true
    go None is some = absurd (false≢true some)
    go (Some node) is some = stands_named records path node is

-- ---- the whole of what changes above

module _ (owner : List ℕ) (records : List Rec) (rec : Rec) (path : PathName) (node : Option Node) (paths : List PathName) (slots : List Known) (own : ℕ) (after : List PathName → List PathName) (access : Option (Change (List Rule)))
    (texts : access ≡ access_change owner path node (length records + 1)) where
  above_some : (dir : PathName) → after (children (tree_of records) dir) ≡ children (tree_of (records ++ rec ∷ [])) dir → (above : Option ParentStep)
      → MatchOption above ⊥ (IsAboveTo paths slots path own dir (children (tree_of records) dir) (after (children (tree_of records) dir)) access)
      → MatchOption above ⊥ (IsAboveOf owner records rec path node paths slots own dir)
  above_some dir grown None h = h
  above_some dir grown (Some step) h = record {
    at = h.at;
    named = h.named;
    children = subst (λ l. IsEditTo step.children own path (children (tree_of records) dir) l) grown h.children;
    texts = h.texts ∙ texts;
  }

  above_by : (o : Option PathName) → ((dir : PathName) → o ≡ Some dir → after (children (tree_of records) dir) ≡ children (tree_of (records ++ rec ∷ [])) dir) → (above : Option ParentStep)
      → MatchOption o (above ≡ None) (λ dir. MatchOption above ⊥ (IsAboveTo paths slots path own dir (children (tree_of records) dir) (after (children (tree_of records) dir)) access))
      → MatchOption o (above ≡ None) (λ dir. MatchOption above ⊥ (IsAboveOf owner records rec path node paths slots own dir))
  above_by None grown above h = h
  above_by (Some dir) grown above h = above_some dir (grown dir refl) above h

  pub above_of : ((dir : PathName) → parent_of path ≡ Some dir → after (children (tree_of records) dir) ≡ children (tree_of (records ++ rec ∷ [])) dir) → (above : Option ParentStep)
      → MatchOption (parent_of path) (above ≡ None) (λ dir. MatchOption above ⊥ (IsAboveTo paths slots path own dir (children (tree_of records) dir) (after (children (tree_of records) dir)) access))
      → MatchOption (parent_of path) (above ≡ None) (λ dir. MatchOption above ⊥ (IsAboveOf owner records rec path node paths slots own dir))
  above_of grown above h = above_by (parent_of path) grown above h

-- for what is kept
pub above_in : (kept : Kept) (rec : Rec) (path : PathName) (node : Option Node) (id own : ℕ) → id ≡ own → (after : List PathName → List PathName) (access : Option (Change (List Rule)))
    → access ≡ access_change kept.owner path node (length kept.log.items + 1)
    → ((dir : PathName) → parent_of path ≡ Some dir → after (children (tree_of kept.log.items) dir) ≡ children (tree_of (kept.log.items ++ rec ∷ [])) dir)
    → (above : Option ParentStep) → IsAboveIn kept path id after access above
    → MatchOption (parent_of path) (above ≡ None) (λ dir. MatchOption above ⊥ (IsAboveOf kept.owner kept.log.items rec path node (paths_of kept) (slots_of kept) own dir))
above_in kept rec path node id own same after access texts grown above is =
    above_of kept.owner kept.log.items rec path node (paths_of kept) (slots_of kept) own after access texts grown above (subst (λ n. IsAboveIn kept path n after access above) same is)
