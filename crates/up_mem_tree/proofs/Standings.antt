-- What stands nearest to a path, on the way from it up to the root.
use Rattle.std.proofs.Common.{◌≡◌, ℕ, zero, suc, ◌-◌, ◌<◌, ◌≤◌, Bool, cond, length, Option, Some, None, is_some, refl, sym, ap, ◌∙◌, inl, inr, arith}
use Rattle.std.specs.Prelude.{find}
use Rattle.std.specs.Option.{option_and_then}
use Rattle.std.proofs.lemmas.Bool.{cases_lt}
use Rattle.up_names.specs.PathNames.{PathName, cut}
use Rattle.up_policy.specs.Governors.{prefixes_to}
use Rattle.up_log_tree.specs.Trees.{Tree, node_at, standing_prefix, tree_of}
use Rattle.up_log_tree.specs.declared.node.Node.{Node}
use Rattle.up_mem_tree.specs.Kept.{paths_of, slots_of}
use Rattle.up_mem_tree.specs.Slots.{IsDeepest}
use Rattle.up_mem_tree.specs.declared.kept.Kept.{Kept}
use Rattle.up_mem_tree.proofs.Named.{unnamed_none}

module _ (tree : Tree) (path : PathName) where
  -- nothing stands at a prefix longer than that
  abbrev pub NoneAbove : ℕ → Type 0
  NoneAbove m = (k : ℕ) → m < k → k ≤ length path.elements → node_at tree (cut k path) ≡ None

  abbrev stands : PathName → Bool
  stands prefix = is_some (node_at tree prefix)

  none_to : (len : ℕ) → ((k : ℕ) → k ≤ len → node_at tree (cut k path) ≡ None) → find stands (prefixes_to len path) ≡ None
  none_to zero none = ap (λ o. cond (is_some o) (Some (cut 0 path)) None) (none 0 (omega arith))
  none_to (suc len) none =
      ap (λ o. cond (is_some o) (Some (cut (suc len) path)) (find stands (prefixes_to len path))) (none (suc len) (omega arith)) ∙ none_to len (λ k le. none k (omega (arith, le)))

  found_to : (len m : ℕ) (node : Node) → m ≤ len → node_at tree (cut m path) ≡ Some node → ((k : ℕ) → m < k → k ≤ len → node_at tree (cut k path) ≡ None) → find stands (prefixes_to len path) ≡ Some (cut m path)
  found_to zero m node le here none =
      let e : m ≡ 0 = omega (arith, le) in
      ap (λ o. cond (is_some o) (Some (cut 0 path)) None) (ap (λ k. node_at tree (cut k path)) (sym e) ∙ here) ∙ ap (λ k. Some (cut k path)) (sym e)
  found_to (suc len) m node le here none = elim (cases_lt m (suc len)) [
    | inl lt ↦ ap (λ o. cond (is_some o) (Some (cut (suc len) path)) (find stands (prefixes_to len path))) (none (suc len) lt (omega arith))
        ∙ found_to len m node (omega (arith, lt)) here (λ k above within. none k above (omega (arith, within)))
    | inr ge ↦
        let e : m ≡ suc len = omega (arith, le, ge) in
        ap (λ o. cond (is_some o) (Some (cut (suc len) path)) (find stands (prefixes_to len path))) (ap (λ k. node_at tree (cut k path)) (sym e) ∙ here)
        ∙ ap (λ k. Some (cut k path)) (sym e)
  ]

  pub node_found : (m : ℕ) (node : Node) → m ≤ length path.elements → Some node ≡ node_at tree (cut m path) → NoneAbove m → Some node ≡ option_and_then (node_at tree) (standing_prefix tree path)
  unfolding standing_prefix
  node_found m node le here none =
      here ∙ ap (option_and_then (node_at tree)) (sym (found_to (length path.elements) m node le (sym here) none))

  pub none_found : ((k : ℕ) → k ≤ length path.elements → node_at tree (cut k path) ≡ None) → None ≡ option_and_then (node_at tree) (standing_prefix tree path)
  unfolding standing_prefix
  none_found none = ap (option_and_then (node_at tree)) (sym (none_to (length path.elements) none))

  -- one element up
  pub none_higher : (m : ℕ) → 0 < m → None ≡ node_at tree (cut m path) → NoneAbove m → NoneAbove (m - 1)
  none_higher m positive here none k lt le = elim (cases_lt m k) [
    | inl higher ↦ none k higher le
    | inr not_higher ↦ ap (λ j. node_at tree (cut j path)) (let e : k ≡ m = omega (arith, lt, not_higher, positive) in e) ∙ sym here
  ]

  -- at the root, whatever stands there
  pub from_root : (found : Option Node) → found ≡ node_at tree (cut 0 path) → NoneAbove 0 → found ≡ option_and_then (node_at tree) (standing_prefix tree path)
  from_root None here none = none_found (λ k le. elim (cases_lt 0 k) [
    | inl higher ↦ none k higher le
    | inr not_higher ↦ ap (λ j. node_at tree (cut j path)) (let e : k ≡ 0 = omega (arith, not_higher) in e) ∙ sym here
  ])
  from_root (Some node) here none = node_found 0 node (omega arith) here none

module _ (kept : Kept) (path : PathName) where
  -- nothing stands below the deepest slot
  pub none_deeper : (depth id : ℕ) → IsDeepest (paths_of kept) (slots_of kept) path (Some (depth, id)) → NoneAbove (tree_of kept.log.items) path depth
  none_deeper depth id deep m lt le = unnamed_none kept.log.items (cut m path) ((deep.some depth id refl).2 m lt le)

  pub none_at_all : IsDeepest (paths_of kept) (slots_of kept) path None → (m : ℕ) → m ≤ length path.elements → node_at (tree_of kept.log.items) (cut m path) ≡ None
  none_at_all deep m le = unnamed_none kept.log.items (cut m path) (deep.none refl m le)
