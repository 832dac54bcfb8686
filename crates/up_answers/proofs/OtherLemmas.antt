-- Paths of other owners.
use Rattle.std.proofs.Common.{◌≡◌, ℕ, zero, suc, Bool, true, false, not, ◌&&◌, List, length, refl, sym, ap, subst, ◌∙◌, arith, Option, Some, None, bytes_eq}
use Rattle.std.specs.Prelude.{if◌then◌else◌, codes, MatchOption}
use Rattle.std.specs.Option.{option_map, option_or}
use Rattle.std.proofs.lemmas.Bool.{false≢true, false_from_ne_true}
use Rattle.up_names.specs.PathNames.{PathName, cut, extended}
use Rattle.up_names.specs.UserNames.{base_of}
use Rattle.up_rights.specs.declared.Right.{Right}
use Rattle.up_policy.specs.Governors.{first_text, prefixes_to, governor}
use Rattle.up_policy.specs.Loadings.{Loading}
use Rattle.up_policy.specs.Trees.{owns_snapshots}
use Rattle.up_policy.specs.Verdicts.{only_looks, is_control, without_text, text_decides, right_test}
use Rattle.up_log_tree.specs.declared.node.Node.{Node}
use Rattle.up_log_tree.specs.Trees.{Tree, node_at, tree_of}
use Rattle.up_log_tree.specs.Fits.{HasDirectory}
use Rattle.up_log_tree.specs.Rights.{access_node, rules_of, facts_of, group_paths}
use Rattle.up_log_tree.specs.Logs.{Log}
use Rattle.up_log_tree.proofs.Paths.{length_cut, parent_is, parent_none}
use Rattle.up_log_tree.proofs.Rooted.{IsRooted, rooted}
use Rattle.up_list.specs.Looks.{rights, has_some, look_now}
use Rattle.up_answers.specs.Views.{view, sight}
use Rattle.up_answers.specs.Laws.{IsWhole, OtherPathsAreHidden}
use Rattle.up_answers.proofs.RightLemmas.{held_is, stranger_test, from_any}

-- ---- all paths of a tree are its owner's

pub owned_by : (owner : List ℕ) (tree : Tree) → IsRooted owner tree → (n : ℕ) (path : PathName) (node : Node) → length path.elements ≡ n → node_at tree path ≡ Some node → path.owner ≡ owner
owned_by owner tree r zero path node size there =
    subst (λ o. MatchOption o (path.owner ≡ owner) (HasDirectory tree)) (parent_none path size) (r.placed path node there)
owned_by owner tree r (suc n) path node size there =
    let dir : HasDirectory tree (cut n path) = subst (λ o. MatchOption o (path.owner ≡ owner) (HasDirectory tree)) (parent_is path n size) (r.placed path node there) in
    owned_by owner tree r n (cut n path) dir.0 (length_cut n path (omega (arith, size))) dir.1

module _ (log : Log) (is : IsWhole log) (path : PathName) (other : path.owner ≡ log.owner → ⊥) where
  no_access : (n : ℕ) → access_node (tree_of log.records) (cut n path) ≡ None
  no_access n = go (node_at (tree_of log.records) (extended (cut n path) (codes "Access"))) refl
    where
      go : (o : Option Node) → node_at (tree_of log.records) (extended (cut n path) (codes "Access")) ≡ o → o ≡ None
      go None e = refl
      go (Some node) e =
          absurd (other (owned_by log.owner (tree_of log.records) (rooted log.owner log.records is.fitting) (length (extended (cut n path) (codes "Access")).elements) (extended (cut n path) (codes "Access")) node refl e))

  no_text : (n : ℕ) → first_text (facts_of log.owner (tree_of log.records)).access (prefixes_to n path) ≡ None
  unfolding facts_of
  no_text zero = ap (λ o. option_or (option_map (rules_of log.owner) o) None) (no_access 0)
  no_text (suc n) = ap (λ o. option_or (option_map (rules_of log.owner) o) (first_text (facts_of log.owner (tree_of log.records)).access (prefixes_to n path))) (no_access (suc n)) ∙ no_text n

  no_right : (loaded : Loading) (user : List ℕ) → (user ≡ log.owner → ⊥) → (r : Right) → right_test (facts_of log.owner (tree_of log.records)) (group_paths (tree_of log.records)) loaded user r path ≡ false
  unfolding right_test without_text governor facts_of text_decides
  no_right loaded user stranger r =
      let facts = facts_of log.owner (tree_of log.records) in
      ap (λ o. elim (if owns_snapshots log.owner then Some (only_looks r && bytes_eq user (base_of log.owner)) else if bytes_eq user log.owner && only_looks r then Some true else if is_control path && not (only_looks r) then Some (bytes_eq user log.owner) else None) as (λ _. Bool) [ Some answer ↦ answer | None ↦ text_decides facts (group_paths (tree_of log.records)) loaded user r (if owns_snapshots log.owner then None else o) ]) (no_text (length path.elements))
      ∙ go (owns_snapshots log.owner) is.plain (bytes_eq user log.owner) (stranger_test user log.owner stranger) (is_control path && not (only_looks r))
    where
      go : (s : Bool) → s ≡ false → (o : Bool) → o ≡ false → (c : Bool) →
          elim (if s then Some (only_looks r && bytes_eq user (base_of log.owner)) else if o && only_looks r then Some true else if c then Some o else None) as (λ _. Bool) [ Some answer ↦ answer | None ↦ text_decides (facts_of log.owner (tree_of log.records)) (group_paths (tree_of log.records)) loaded user r (if s then None else None) ] ≡ false
      go true e o f c = absurd (false≢true (sym e))
      go false e true f c = absurd (false≢true (sym f))
      go false e false f true = refl
      go false e false f false = stranger_test user log.owner stranger

pub other_paths_are_hidden : OtherPathsAreHidden
unfolding view rights
other_paths_are_hidden log loaded user path is stranger other = ap (λ b. if b then Some (sight (look_now log loaded user) path) else None) none
  where
    none : has_some (look_now log loaded user) path ≡ false
    none = false_from_ne_true (has_some (look_now log loaded user) path) (λ some.
        let held = from_any (rights (look_now log loaded user) path) some in
        false≢true (sym (no_right log is path other loaded user stranger held.0) ∙ (sym (held_is (facts_of log.owner (tree_of log.records)) (group_paths (tree_of log.records)) loaded user path held.0) ∙ held.1)))
