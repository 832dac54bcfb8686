-- The places that are looked at are in trees whose Group files are listed.
use Rattle.std.proofs.Common.{◌≡◌, ◌&&◌, ℕ, zero, suc, ℤ, pos, negsuc, Bool, true, false, not, List, [], ◌∷◌, length, map, take, refl, sym, ap, subst, ◌∙◌, inl, inr, Option, Some, None, bytes_eq, nat_lt}
use Rattle.std.specs.Prelude.{Contains, IsSome, T, if◌then◌else◌, is_some, ⊤}
use Rattle.std.specs.FinMap.Entries.{find, is_sorted, is_some-find}
use Rattle.std.specs.Map.{keys_of}
use Rattle.std.specs.Option.{option_and_then, option_map}
use Rattle.std.specs.Ordering.{eq_by_cmp}
use Rattle.std.proofs.lemmas.Bool.{false≢true}
use Rattle.std.proofs.lemmas.List.Elements.{Contains-append_cases}
use Rattle.up_answers.specs.Events.{Change, change_at}
use Rattle.up_answers.specs.Needs.{Place, event_places, event_places_to, items_where, owner_places, places, places_for, watch_places, where_ordinary}
use Rattle.up_entry.specs.ControlFiles.{is_ordinary}
use Rattle.up_list.specs.Asking.{owner_asked}
use Rattle.up_list.specs.Globs.{is_candidate, literal_path}
use Rattle.up_list.specs.declared.asking.ReadRequest.{ReadRequest}
use Rattle.up_list.specs.declared.asking.ReadRequest.TheVariants.{Lookup, WhichAccess, GroupText, Delete, Put, Glob, Watch}
use Rattle.up_names.specs.PathNames.{PathName, control_of, is_under}
use Rattle.up_names.specs.PathOrder.{path_cmp}
use Rattle.up_names.specs.PathOrderLaws.{path_cmp_eq}
use Rattle.up_names.specs.Texts.{UserName}
use Rattle.up_policy.proofs.PathLists.{Contains-cons, no_member}
use Rattle.up_policy.proofs.VerdictLemmas.{at_any}
use Rattle.up_policy.specs.Laws.{ListsGroups}
use Rattle.up_log_tree.proofs.Paths.{path_same}
use Rattle.up_log_tree.proofs.Trees.{find-made, tree_sorted}
use Rattle.up_log_tree.specs.Logs.{Log}
use Rattle.up_log_tree.specs.Rights.{facts_of, group_node, group_paths, is_group_file, items_of}
use Rattle.up_log_tree.specs.Trees.{Tree, made_of, node_at, tree_at, tree_of}
use Rattle.up_log_tree.specs.declared.node.Node.{Node}

-- ---- the path of each Group file of a sorted tree is listed

group_is : (tree : Tree) (q : PathName) → option_and_then {U = ⊤} (λ n. if is_group_file q n then Some tt else None) (node_at tree q) ≡ option_map {U = ⊤} (λ (n : Node). tt) (group_node tree q)
group_is tree q = go (node_at tree q)
  where
    by : (b : Bool) (n : Node) → ◌≡◌ {A = Option ⊤} (if b then Some tt else None) (option_map {U = ⊤} (λ (n : Node). tt) (if b then Some n else None))
    by true n = refl
    by false n = refl

    go : (o : Option Node) → option_and_then {U = ⊤} (λ n. if is_group_file q n then Some tt else None) o ≡ option_map {U = ⊤} (λ (n : Node). tt) (elim o as (λ _. Option Node) [ None ↦ None | Some node ↦ if is_group_file q node then Some node else None ])
    go None = refl
    go (Some n) = by (is_group_file q n) n

key_there : {X : Type 0} (es : List (PathName × X)) (q : PathName) → is_some (find path_cmp q es) ≡ true → Contains (keys_of es) q
key_there es q h =
    let found = at_any (eq_by_cmp path_cmp q) (keys_of es) (sym (is_some-find path_cmp q es) ∙ h) in
    subst (Contains (keys_of es)) (sym (path_same q found.0 (path_cmp_eq q found.0 ∙ found.2))) found.1

groups_listed : (owner : List ℕ) (tree : Tree) → T (is_sorted path_cmp tree) → ListsGroups (facts_of owner tree) (group_paths tree)
unfolding facts_of group_paths
groups_listed owner tree sorted path some =
    let make : PathName → Node → Option ⊤ = λ p n. if is_group_file p n then Some tt else None in
    key_there (made_of make tree) path (ap is_some (find-made make path tree sorted ∙ group_is tree path) ∙ go (group_node tree path) some)
  where
    go : (o : Option Node) → IsSome (option_map (items_of owner) o) → is_some (option_map {U = ⊤} (λ (n : Node). tt) o) ≡ true
    go None h = absurd (false≢true h)
    go (Some n) h = refl

-- ---- each place is in the tree of some first records

abbrev IsTree : Place → Type 0
IsTree place = T (is_sorted path_cmp place.0)

one_tree : (tree : Tree) (path : PathName) → T (is_sorted path_cmp tree) → (place : Place) → Contains ((tree, path) ∷ []) place → IsTree place
one_tree tree path sorted place h = elim (Contains-cons (tree, path) place [] h) [
  | inl same ↦ subst IsTree same sorted
  | inr none ↦ absurd (no_member place none)
]

all_in : (tree : Tree) → T (is_sorted path_cmp tree) → (paths : List PathName) (place : Place) → Contains (map (λ (path : PathName). (tree, path)) paths) place → IsTree place
all_in tree sorted [] place h = absurd (no_member place h)
all_in tree sorted (path ∷ paths) place h = elim (Contains-cons (tree, path) place (map (λ (path : PathName). (tree, path)) paths) h) [
  | inl same ↦ subst IsTree same sorted
  | inr there ↦ all_in tree sorted paths place there
]

module _ (log : Log) where
  now_sorted : T (is_sorted path_cmp (tree_of log.records))
  now_sorted = tree_sorted log.records

  event_trees : (sequence : ℕ) (path : PathName) (n : ℕ) (place : Place) → Contains (event_places log sequence path n) place → IsTree place
  event_trees sequence path n place h = by (change_at log.records n) h
    where
      two : (change : Change) (b : Bool) → Contains (if b then (tree_of log.records, change.entry.name) ∷ (tree_at log.records (suc n), change.entry.name) ∷ [] else []) place → IsTree place
      two change false h = absurd (no_member place h)
      two change true h = elim (Contains-cons (tree_of log.records, change.entry.name) place ((tree_at log.records (suc n), change.entry.name) ∷ []) h) [
        | inl same ↦ subst IsTree same now_sorted
        | inr there ↦ one_tree (tree_at log.records (suc n)) change.entry.name (tree_sorted (take (suc n) log.records)) place there
      ]

      by : (found : Option Change) → Contains (elim found as (λ _. List Place) [
        | None ↦ []
        | Some change ↦ if nat_lt sequence (suc n) && is_under change.entry.name path then (tree_of log.records, change.entry.name) ∷ (tree_at log.records (suc n), change.entry.name) ∷ [] else []
      ]) place → IsTree place
      by None h = absurd (no_member place h)
      by (Some change) h = two change (nat_lt sequence (suc n) && is_under change.entry.name path) h

  events_trees : (sequence : ℕ) (path : PathName) (n : ℕ) (place : Place) → Contains (event_places_to log sequence path n) place → IsTree place
  events_trees sequence path zero place h = absurd (no_member place h)
  events_trees sequence path (suc n) place h = elim (Contains-append_cases (event_places_to log sequence path n) (event_places log sequence path n) place h) [
    | inl before ↦ events_trees sequence path n place before
    | inr here ↦ event_trees sequence path n place here
  ]

  watch_trees : (path : PathName) (sequence : ℤ) (place : Place) → Contains (watch_places log path sequence) place → IsTree place
  watch_trees path (pos sequence) place h = events_trees sequence path (length log.records) place h
  watch_trees path (negsuc zero) place h = all_in (tree_of log.records) now_sorted _ place h
  watch_trees path (negsuc (suc n)) place h = absurd (no_member place h)

  then_in : (path : PathName) (rest : List Place) → ((place : Place) → Contains rest place → IsTree place) → (place : Place) → Contains ((tree_of log.records, path) ∷ rest) place → IsTree place
  then_in path rest f place h = elim (Contains-cons (tree_of log.records, path) place rest h) [
    | inl same ↦ subst IsTree same now_sorted
    | inr there ↦ f place there
  ]

  places_trees : (asked : ReadRequest) (place : Place) → Contains (places log asked) place → IsTree place
  unfolding places
  places_trees (GroupText path) place h = absurd (no_member place h)
  places_trees (Lookup path) place h = one_tree (tree_of log.records) path now_sorted place h
  places_trees (WhichAccess path) place h = one_tree (tree_of log.records) path now_sorted place h
  places_trees (Delete path) place h = one_tree (tree_of log.records) path now_sorted place h
  places_trees (Put put) place h = one_tree (tree_of log.records) put.entry.name now_sorted place h
  places_trees (Glob pattern) place h = then_in (literal_path pattern) (items_where (is_candidate pattern) (tree_of log.records)) (all_in (tree_of log.records) now_sorted _) place h
  places_trees (Watch path sequence) place h = then_in path (watch_places log path sequence) (watch_trees path sequence) place h

  ordinary_trees : (path : PathName) (place : Place) → Contains (where_ordinary log path) place → IsTree place
  ordinary_trees path place h = by (is_ordinary (control_of path)) h
    where
      by : (b : Bool) → Contains (if b then (tree_of log.records, path) ∷ [] else []) place → IsTree place
      by true h = one_tree (tree_of log.records) path now_sorted place h
      by false h = absurd (no_member place h)

  owner_trees : (asked : ReadRequest) (place : Place) → Contains (owner_places log asked) place → IsTree place
  unfolding owner_places
  owner_trees (Delete path) place h = ordinary_trees path place h
  owner_trees (Put put) place h = ordinary_trees put.entry.name place h
  owner_trees (Lookup path) place h = absurd (no_member place h)
  owner_trees (WhichAccess path) place h = absurd (no_member place h)
  owner_trees (GroupText path) place h = absurd (no_member place h)
  owner_trees (Glob pattern) place h = absurd (no_member place h)
  owner_trees (Watch path sequence) place h = absurd (no_member place h)

  pub places_listed : (user : UserName) (asked : ReadRequest) (place : Place) → Contains (places_for log user asked) place → ListsGroups (facts_of log.owner place.0) (group_paths place.0)
  places_listed user asked place h = groups_listed log.owner place.0 (by (bytes_eq (owner_asked asked) log.owner) (bytes_eq user log.owner) h)
    where
      by : (here owner : Bool) → Contains (if not here then [] else if owner then owner_places log asked else places log asked) place → IsTree place
      by false owner h = absurd (no_member place h)
      by true true h = owner_trees asked place h
      by true false h = places_trees asked place h
