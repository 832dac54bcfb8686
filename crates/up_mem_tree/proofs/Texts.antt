-- The texts of Access and Group files, by the paths that records name.
use Rattle.std.proofs.Common.{◌≡◌, ℕ, Bool, true, false, List, take, refl, sym, ap, subst, ◌∙◌, Option, Some, None}
use Rattle.std.specs.Prelude.{MatchOption, if◌then◌else◌}
use Rattle.std.specs.Option.{option_map}
use Rattle.std.proofs.lemmas.Bool.{false≢true}
use Rattle.up_names.specs.PathNames.{PathName}
use Rattle.up_entry.specs.declared.records.Rec.{Rec}
use Rattle.up_log_tree.specs.Fits.{AreFitting}
use Rattle.up_log_tree.specs.Orders.{has_path as has}
use Rattle.up_log_tree.specs.Rights.{access_path, facts_of, group_node, is_group_file, items_of, rules_of}
use Rattle.up_mem_tree.specs.Slots.{named_paths}
use Rattle.up_log_tree.specs.Trees.{Tree, node_at, tree_at}
use Rattle.up_log_tree.specs.declared.node.Node.{Node}
use Rattle.up_mem_tree.proofs.Named.{closed_named, named_later, unnamed_none}
use Rattle.up_log_tree.proofs.Paths.{parent_extended}

pub access-is : (owner : List ℕ) (tree : Tree) (dir : PathName) → (facts_of owner tree).access dir ≡ option_map (rules_of owner) (node_at tree (access_path dir))
unfolding facts_of
access-is owner tree dir = refl

pub group-is : (owner : List ℕ) (tree : Tree) (path : PathName) → (facts_of owner tree).group path ≡ option_map (items_of owner) (group_node tree path)
unfolding facts_of
group-is owner tree path = refl

no_node : (owner : List ℕ) (tree : Tree) (path : PathName) → node_at tree path ≡ None → option_map (items_of owner) (group_node tree path) ≡ None
no_node owner tree path none = ap (λ o. option_map (items_of owner) (elim o as (λ _. Option Node) [ None ↦ None | Some node ↦ if is_group_file path node then Some node else None ])) none

module _ (owner : List ℕ) (records : List Rec) (fitting : AreFitting owner records) where
  front_none : (n : ℕ) (q : PathName) → has (named_paths records) q ≡ false → node_at (tree_at records n) q ≡ None
  front_none n q none = unnamed_none (take n records) q (go (has (named_paths (take n records)) q) refl)
    where
      go : (b : Bool) → has (named_paths (take n records)) q ≡ b → has (named_paths (take n records)) q ≡ false
      go true is = absurd (false≢true (sym none ∙ named_later records n q is))
      go false is = is

  access_path_unnamed : (dir : PathName) → has (named_paths records) dir ≡ false → has (named_paths records) (access_path dir) ≡ false
  access_path_unnamed dir none = go (has (named_paths records) (access_path dir)) refl
    where
      go : (b : Bool) → has (named_paths records) (access_path dir) ≡ b → has (named_paths records) (access_path dir) ≡ false
      go true is = absurd (false≢true (sym none ∙ subst (λ o. MatchOption o ((access_path dir).owner ≡ owner) (λ d. has (named_paths records) d ≡ true)) (parent_extended dir _) (closed_named owner records fitting (access_path dir) is)))
      go false is = is

  -- a path that no record names has no text
  pub no_access : (n : ℕ) (dir : PathName) → has (named_paths records) dir ≡ false → (facts_of owner (tree_at records n)).access dir ≡ None
  no_access n dir none = access-is owner (tree_at records n) dir ∙ ap (option_map (rules_of owner)) (front_none n (access_path dir) (access_path_unnamed dir none))

  pub no_group : (n : ℕ) (path : PathName) → has (named_paths records) path ≡ false → (facts_of owner (tree_at records n)).group path ≡ None
  no_group n path none = group-is owner (tree_at records n) path ∙ no_node owner (tree_at records n) path (front_none n path none)
