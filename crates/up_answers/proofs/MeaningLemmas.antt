-- What the values mean: rights, and snapshot trees.
use Rattle.std.proofs.Common.{◌≡◌, ℕ, Bool, true, false, not, ◌&&◌, List, refl, sym, ap, subst, ◌∙◌, Option, Some, None, bytes_eq}
use Rattle.std.specs.Prelude.{if◌then◌else◌, ⊤, T, Contains, IsSome, IsTrue, is_some}
use Rattle.std.specs.FinMap.Entries.{find, is_sorted, is_some-find}
use Rattle.std.specs.Ordering.{eq_by_cmp}
use Rattle.std.specs.Map.{keys_of}
use Rattle.std.specs.Option.{option_and_then, option_map}
use Rattle.std.proofs.lemmas.Bool.{false≢true, false_from_ne_true}
use Rattle.up_names.specs.PathNames.{PathName}
use Rattle.up_names.specs.PathOrder.{path_cmp}
use Rattle.up_names.specs.PathOrderLaws.{path_cmp_eq}
use Rattle.up_names.specs.UserNames.{base_of}
use Rattle.up_rights.specs.declared.Right.{Right}
use Rattle.up_rights.specs.RightSets.{has_right}
use Rattle.up_entry.specs.declared.entries.Entry.{Entry}
use Rattle.up_policy.specs.Trees.{owns_snapshots}
use Rattle.up_policy.specs.Governors.{governor}
use Rattle.up_policy.specs.Verdicts.{only_looks, is_control, without_text, text_decides, right_test}
use Rattle.up_policy.specs.Laws.{ListsGroups}
use Rattle.up_policy.proofs.VerdictLemmas.{test_is_right, at_any}
use Rattle.up_wire.specs.declared.replies.Reply.{Reply}
use Rattle.up_wire.specs.declared.replies.Reply.TheVariants as reply
use Rattle.up_log_tree.specs.declared.node.Node.{Node}
use Rattle.up_log_tree.specs.Trees.{Tree, node_at, tree_of, made_of}
use Rattle.up_list.specs.Checks.{first_link, check, lacking, at_link}
use Rattle.up_list.specs.Looks.{Look, rights, has_some, shown}
use Rattle.up_log_tree.specs.Rights.{group_node, is_group_file, items_of, facts_of, group_paths}
use Rattle.up_answers.specs.Laws.{RightsAreMeant, SnapshotsArePrivate}
use Rattle.up_log_tree.proofs.Paths.{path_same}
use Rattle.up_log_tree.proofs.Trees.{find-made, tree_sorted}
use Rattle.up_answers.proofs.RightLemmas.{held_is, decided, from_any, stranger_test}

-- ---- rights

group_is : (tree : Tree) (q : PathName) → option_and_then {U = ⊤} (λ n. if is_group_file q n then Some tt else None) (node_at tree q) ≡ option_map {U = ⊤} (λ (n : Node). tt) (group_node tree q)
group_is tree q = go (node_at tree q)
  where
    by : (b : Bool) (n : Node) → ◌≡◌ {A = Option ⊤} (if b then Some tt else None) (option_map {U = ⊤} (λ (n : Node). tt) (if b then Some n else None))
    by true n = refl
    by false n = refl

    go : (o : Option Node) → option_and_then {U = ⊤} (λ n. if is_group_file q n then Some tt else None) o ≡ option_map {U = ⊤} (λ (n : Node). tt) (elim o as (λ _. Option Node) [ None ↦ None | Some node ↦ if is_group_file q node then Some node else None ])
    go None = refl
    go (Some n) = by (is_group_file q n) n

key_there : {X : Type 0} (es : List (PathName × X)) (q : PathName) → is_some (find path_cmp q es) ≡ true → Contains (keys_of es) q
key_there es q h =
    let found = at_any (eq_by_cmp path_cmp q) (keys_of es) (sym (is_some-find path_cmp q es) ∙ h) in
    subst (Contains (keys_of es)) (sym (path_same q found.0 (path_cmp_eq q found.0 ∙ found.2))) found.1

-- the path of each Group file is listed
pub groups_listed : (owner : List ℕ) (tree : Tree) → T (is_sorted path_cmp tree) → ListsGroups (facts_of owner tree) (group_paths tree)
unfolding facts_of group_paths
groups_listed owner tree sorted path some =
    let make : PathName → Node → Option ⊤ = λ p n. if is_group_file p n then Some tt else None in
    key_there (made_of make tree) path (ap is_some (find-made make path tree sorted ∙ group_is tree path) ∙ go (group_node tree path) some)
  where
    go : (o : Option Node) → IsSome (option_map (items_of owner) o) → is_some (option_map {U = ⊤} (λ (n : Node). tt) o) ≡ true
    go None h = absurd (false≢true h)
    go (Some n) h = refl

pub rights_are_meant : RightsAreMeant
unfolding rights
rights_are_meant log loaded user right path =
    let facts = facts_of log.owner (tree_of log.records) in
    let listed = group_paths (tree_of log.records) in
    let meant = test_is_right facts listed loaded user right path (groups_listed log.owner (tree_of log.records) (tree_sorted log.records)) in
    let same = held_is facts listed loaded user path right in
    (λ h. meant.0 (subst IsTrue same h), λ h. subst IsTrue (sym same) (meant.1 h))

-- ---- snapshot trees

module _ (look : Look) (snapshots : owns_snapshots look.owner ≡ true) (other : look.user ≡ base_of look.owner → ⊥) where
  nobody_else : (r : Right) (path : PathName) → has_right (rights look path) r ≡ false
  unfolding rights right_test without_text facts_of
  nobody_else r path =
      held_is (facts_of look.owner look.tree) (group_paths look.tree) look.loaded look.user path r
      ∙ go (owns_snapshots look.owner) snapshots (only_looks r) (bytes_eq look.user (base_of look.owner)) (stranger_test look.user (base_of look.owner) other)
    where
      go : (s : Bool) → s ≡ true → (l b : Bool) → b ≡ false →
          decided s (l && b) (bytes_eq look.user look.owner && l) (is_control path && not l) (bytes_eq look.user look.owner) (text_decides (facts_of look.owner look.tree) (group_paths look.tree) look.loaded look.user r (governor (facts_of look.owner look.tree) path)) ≡ false
      go true e true b h = h
      go true e false b h = refl
      go false e l b h = absurd (false≢true e)

  none_held : (path : PathName) → has_some look path ≡ false
  none_held path = false_from_ne_true (has_some look path) (λ some. let held = from_any (rights look path) some in false≢true (sym (nobody_else held.0 path) ∙ held.1))

pub snapshots_are_private : SnapshotsArePrivate
unfolding check lacking
snapshots_are_private look tested path needed snapshots other = go (first_link look.tree tested)
  where
    private : (n : Option Right) → lacking (rights look path) n ≡ Some reply.Private
    private None = ap (λ b. if b then None else Some reply.Private) (none_held look snapshots other path)
    private (Some r) = ap (λ b. if not b then Some reply.Private else if not (has_right (rights look path) r) then Some (reply.Permission r) else None) (none_held look snapshots other path)

    go : (o : Option Entry) → elim o as (λ _. Option Reply) [ Some link ↦ Some (at_link look link) | None ↦ lacking (rights look path) needed ] ≡ Some reply.Private
    go None = private needed
    go (Some link) = ap (λ b. Some (if b then reply.FollowLink (shown look link) else reply.Private)) (none_held look snapshots other link.name)
