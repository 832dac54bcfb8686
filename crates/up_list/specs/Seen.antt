-- What contracts see of a view of a tree.
use Rattle.std.specs.Prelude.{◌≡◌, ℕ, ⊤, Bool, true, false, List, Contains, Option, Some, None, is_some, IsSome}
use Rattle.std.specs.Prelude.{if◌then◌else◌, [], slice_index_or}
use Rattle.std.specs.FinMap.Entries.{find, is_some-find}
use Rattle.std.specs.Map.{keys_of}
use Rattle.std.specs.Option.{option_and_then, option_map}
use Rattle.std.specs.Ordering.{eq_by_cmp}
use Rattle.std.specs.Str.{bytes_eq}
use Rattle.std.proofs.Common.{refl, sym, ap, subst, ◌∙◌}
use Rattle.std.proofs.lemmas.Bool.{false≢true}
use Rattle.up_names.specs.Texts.{UserName}
use Rattle.up_names.specs.PathNames.{PathName}
use Rattle.up_names.specs.PathOrder.{path_cmp}
use Rattle.up_names.specs.PathOrderLaws.{path_cmp_eq}
use Rattle.up_entry.specs.declared.entries.Entry.{Entry}
use Rattle.up_entry.specs.declared.records.Rec.{Rec}
use Rattle.up_policy.proofs.VerdictLemmas.{at_any}
use Rattle.up_policy.specs.Loadings.{Loading}
use Rattle.up_log_tree.specs.declared.node.Node.{Node}
use Rattle.up_log_tree.specs.Rights.{facts_of, group_node, group_paths, is_group_file, items_of}
use Rattle.up_log_tree.specs.Trees.{Tree, made_of, node_at, standing_prefix, tree_of}
use Rattle.up_log_tree.proofs.Paths.{path_same}
use Rattle.up_log_tree.proofs.Trees.{find-made, tree_sorted}
use Rattle.up_list.specs.Looks.{Look}

-- a tree's owner, and the records after which it is seen
pub record Seen : Type 0 where
  pub owner : UserName
  pub records : List Rec

-- the tree after these records, as a user meets it
abbrev pub look_of : Seen → Loading → UserName → Look
look_of seen loaded user = record { owner = seen.owner; tree = tree_of seen.records; loaded = loaded; user = user }

-- what stands at the longest prefix of a path at which something stands
abbrev pub standing_node : Tree → PathName → Option Node
standing_node tree path = option_and_then (node_at tree) (standing_prefix tree path)

-- the element of an item's path at a place, from 0, is this name
abbrev pub has_name : ℕ → List ℕ → Entry → Bool
has_name at name entry = bytes_eq (slice_index_or entry.name.elements at []) name

-- a lemma: whether a Group file stands at a path is told by its node
group_is : (tree : Tree) (q : PathName) → option_and_then {U = ⊤} (λ n. if is_group_file q n then Some tt else None)
    (node_at tree q) ≡ option_map {U = ⊤} (λ (n : Node). tt) (group_node tree q)
group_is tree q = go (node_at tree q)
  where
    by : (b : Bool) (n : Node)
        → ◌≡◌ {A = Option ⊤} (if b then Some tt else None) (option_map {U = ⊤} (λ (n : Node). tt) (if b then Some n else None))
    by true n = refl
    by false n = refl

    go : (o : Option Node) → option_and_then {U = ⊤} (λ n. if is_group_file q n then Some tt else None) o ≡ option_map {U = ⊤}
        (λ (n : Node). tt) (elim o as (λ _. Option Node) [ None ↦ None | Some node ↦ if is_group_file q node then Some node else None ])
    go None = refl
    go (Some n) = by (is_group_file q n) n

-- a lemma: what is found in a map has its key among the keys
key_there : {X : Type 0} (es : List (PathName × X)) (q : PathName) → is_some (find path_cmp q es) ≡ true → Contains (keys_of es) q
key_there es q h =
    let found = at_any (eq_by_cmp path_cmp q) (keys_of es) (sym (is_some-find path_cmp q es) ∙ h) in
    subst (Contains (keys_of es)) (sym (path_same q found.0 (path_cmp_eq q found.0 ∙ found.2))) found.1

-- the path of each Group file is listed
pub group_listed : (seen : Seen) (path : PathName) → IsSome ((facts_of seen.owner (tree_of seen.records)).group path)
    → Contains (group_paths (tree_of seen.records)) path
unfolding facts_of group_paths
group_listed seen path some =
    let make : PathName → Node → Option ⊤ = λ p n. if is_group_file p n then Some tt else None in
    key_there (made_of make (tree_of seen.records)) path
    (ap is_some (find-made make path (tree_of seen.records) (tree_sorted seen.records) ∙ group_is (tree_of seen.records) path)
    ∙ go (group_node (tree_of seen.records) path) some)
  where
    go : (o : Option Node) → IsSome (option_map (items_of seen.owner) o) → is_some (option_map {U = ⊤} (λ (n : Node). tt) o) ≡ true
    go None h = absurd (false≢true h)
    go (Some n) h = refl
