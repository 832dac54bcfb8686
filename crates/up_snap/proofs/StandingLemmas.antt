-- What is found at a path is what is shown there.
use Rattle.std.proofs.Common.{◌≡◌, ℕ, ◌-◌, ◌<◌, ◌≤◌, true, false, List, length, sym, ap, ◌∙◌, arith, Some, None}
use Rattle.std.specs.Prelude.{if◌then◌else◌}
use Rattle.std.specs.Option.{option_and_then, option_map}
use Rattle.up_names.specs.PathNames.{PathName, is_under}
use Rattle.up_entry.specs.declared.records.Rec.{Rec}
use Rattle.up_log_tree.specs.Fits.{IsLog, snapshot_user}
use Rattle.up_log_tree.specs.Trees.{node_at, tree_at}
use Rattle.up_answers.specs.SnapshotTrees.{made_up, snapshots_to}
use Rattle.up_snap.specs.Shown.{first_to, is_short, kept_node, old_path, renamed, shown_node, shown_root}
use Rattle.up_mem_tree.specs.Nodes.{node_of}
use Rattle.up_mem_tree.specs.declared.nodes.NodeRef.{NodeRef}
use Rattle.up_snap.specs.declared.shown.Shown.{Shown}
use Rattle.up_snap.proofs.ShownLemmas.{calendar, first_is, told}

module _ (owner : List ℕ) (records : List Rec) (path : PathName) where
  -- not below the root
  pub made_shown : (shown : Shown) (root : PathName) → root ≡ shown_root path.owner shown.time → is_under path root ≡ false → Some (made_up owner shown.time shown.position path) ≡ shown_node owner records path shown
  unfolding shown_node
  made_shown shown root is apart =
      sym (ap (λ b. if b then kept_node owner records path (shown.position - 1) else Some (made_up owner shown.time shown.position path)) (ap (is_under path) (sym is) ∙ apart))

  -- below it
  kept_shown : (shown : Shown) (root : PathName) → root ≡ shown_root path.owner shown.time → is_under path root ≡ true → is_short path ≡ true →
      shown_node owner records path shown ≡ option_map (renamed path) (node_at (tree_at records (shown.position - 1)) (old_path owner path))
  unfolding shown_node
  kept_shown shown root is below short =
      ap (λ b. if b then kept_node owner records path (shown.position - 1) else Some (made_up owner shown.time shown.position path)) (ap (is_under path) (sym is) ∙ below)
      ∙ ap (λ b. if b then option_map (renamed path) (node_at (tree_at records (shown.position - 1)) (old_path owner path)) else None) short

  pub some_shown : (shown : Shown) (root old : PathName) (node : NodeRef) → root ≡ shown_root path.owner shown.time → is_under path root ≡ true → is_short path ≡ true → old ≡ old_path owner path →
      Some (node_of node) ≡ node_at (tree_at records (shown.position - 1)) old → Some (renamed path (node_of node)) ≡ shown_node owner records path shown
  some_shown shown root old node is below short same found =
      ap (option_map (renamed path)) (found ∙ ap (node_at (tree_at records (shown.position - 1))) same) ∙ sym (kept_shown shown root is below short)

  pub none_shown : (shown : Shown) (root old : PathName) → root ≡ shown_root path.owner shown.time → is_under path root ≡ true → is_short path ≡ true → old ≡ old_path owner path →
      None ≡ node_at (tree_at records (shown.position - 1)) old → None ≡ shown_node owner records path shown
  none_shown shown root old is below short same none =
      ap (option_map (renamed path)) (none ∙ ap (node_at (tree_at records (shown.position - 1))) same) ∙ sym (kept_shown shown root is below short)

  module _ (snap_user : List ℕ) (is : IsLog owner records) where
    -- the first snapshot has a moment and a position
    pub first_moment : (s : Shown) → Some s ≡ first_to snap_user records path (length records) → s.time < 253402207200
    first_moment s h = let first = first_is snap_user records path (length records) s (sym h) in calendar owner records is path first.place s.time first.takes

    pub first_position : (s : Shown) → Some s ≡ first_to snap_user records path (length records) → 1 ≤ s.position
    first_position s h = let first = first_is snap_user records path (length records) s (sym h) in omega (arith, first.position)

    pub told_some : (s : Shown) → snap_user ≡ snapshot_user owner → Some s ≡ first_to snap_user records path (length records) →
        shown_node owner records path s ≡ node_at (snapshots_to owner records (length records)) path
    told_some s same h =
        sym (told owner records is path (length records)
        ∙ ap (λ o. option_and_then (shown_node owner records path) (first_to o records path (length records))) (sym same)
        ∙ ap (option_and_then (shown_node owner records path)) (sym h))

    pub told_none : snap_user ≡ snapshot_user owner → None ≡ first_to snap_user records path (length records) → None ≡ node_at (snapshots_to owner records (length records)) path
    told_none same h =
        sym (told owner records is path (length records)
        ∙ ap (λ o. option_and_then (shown_node owner records path) (first_to o records path (length records))) (sym same)
        ∙ ap (option_and_then (shown_node owner records path)) (sym h))
