-- The paths of a tree as the keys of a map, record by record; and the rules that govern by the directory of their text.
use Rattle.std.proofs.Common.{◌≡◌, ℕ, suc, ◌+◌, ◌≤◌, Bool, true, false, not, cond, List, [], ◌∷◌, ◌++◌, length, map, take, refl, sym, ap, ◌∙◌, arith, Option, Some, None, is_some, filter, slice_get, unwrap_or}
use Rattle.std.specs.Prelude.{find, if◌then◌else◌}
use Rattle.std.specs.FinMap.Entries.{by_order, put, where_key}
use Rattle.std.specs.Map.{keys_of}
use Rattle.std.specs.Option.{option_map, option_or}
use Rattle.std.specs.Ordering.{eq_by_cmp}
use Rattle.std.specs.declared.cmp.Ordering.{Ordering}
use Rattle.std.specs.declared.cmp.Ordering.TheVariants.{Less, Equal, Greater}
use Rattle.std.proofs.lemmas.List.{take_all}
use Rattle.up_names.specs.PathNames.{PathName}
use Rattle.up_names.specs.PathOrder.{path_cmp, path_eq}
use Rattle.up_names.specs.PathOrderLaws.{path_cmp_eq}
use Rattle.up_entry.specs.declared.entries.Entry.{Entry}
use Rattle.up_entry.specs.declared.records.Rec.{Rec}
use Rattle.up_entry.specs.declared.records.Rec.TheVariants.{Put, Delete, Snap}
use Rattle.up_access.specs.declared.Rule.{Rule}
use Rattle.up_policy.specs.Governors.{first_text, governor, prefixes}
use Rattle.up_policy.specs.Trees.{owns_snapshots}
use Rattle.up_log_tree.specs.Changes.{record_at}
use Rattle.up_log_tree.specs.declared.node.Node.{Node}
use Rattle.up_log_tree.specs.Rights.{access_node, facts_of, governing_prefix, rules_of}
use Rattle.up_log_tree.specs.Trees.{Tree, after_record, tree_at, tree_of}
use Rattle.up_log_tree.proofs.Fronts.{take_next}
use Rattle.up_log_tree.proofs.Paths.{some_none, some_same}
use Rattle.up_log_tree.proofs.Trees.{tree_of-push}
use Rattle.up_share.specs.Known.{paths_in, rules_in}
use Rattle.up_share.specs.Orders.{Keys, with_key}
use Rattle.up_share.specs.Readers.{governing_rules}

-- ---- record by record

put_path : (key : PathName) (node : Node) (tree : Tree) → put path_cmp key tt (paths_in tree) ≡ paths_in (put path_cmp key node tree)
put_path key node [] = refl
put_path key node (item ∷ items) = go (path_cmp key item.0) (put_path key node items)
  where
    go : (order : Ordering) → put path_cmp key tt (paths_in items) ≡ paths_in (put path_cmp key node items) → by_order order ((key, tt) ∷ (item.0, tt) ∷ paths_in items) ((item.0, tt) ∷ paths_in items) ((item.0, tt) ∷ put path_cmp key tt (paths_in items)) ≡ paths_in (by_order order ((key, node) ∷ item ∷ items) ((item.0, node) ∷ items) (item ∷ put path_cmp key node items))
    go Less rest = refl
    go Equal rest = refl
    go Greater rest = ap (λ rest. (item.0, tt) ∷ rest) rest

without_path : (path : PathName) (tree : Tree) → where_key path_cmp (λ other. not (eq_by_cmp path_cmp path other)) (paths_in tree) ≡ paths_in (filter (λ item. not (path_eq path item.0)) tree)
without_path path [] = refl
without_path path (item ∷ items) =
    ap (λ b. if not b then (item.0, tt) ∷ where_key path_cmp (λ other. not (eq_by_cmp path_cmp path other)) (paths_in items) else where_key path_cmp (λ other. not (eq_by_cmp path_cmp path other)) (paths_in items)) (sym (path_cmp_eq path item.0))
    ∙ go (path_eq path item.0) (without_path path items)
  where
    go : (b : Bool) → where_key path_cmp (λ other. not (eq_by_cmp path_cmp path other)) (paths_in items) ≡ paths_in (filter (λ item. not (path_eq path item.0)) items) → (if not b then (item.0, tt) ∷ where_key path_cmp (λ other. not (eq_by_cmp path_cmp path other)) (paths_in items) else where_key path_cmp (λ other. not (eq_by_cmp path_cmp path other)) (paths_in items))
        ≡ paths_in (if not b then item ∷ filter (λ item. not (path_eq path item.0)) items else filter (λ item. not (path_eq path item.0)) items)
    go true rest = rest
    go false rest = ap (λ rest. (item.0, tt) ∷ rest) rest

pub entered_put : (entry : Entry) (text : List ℕ) (old now : Keys PathName) → now ≡ with_key path_cmp old entry.name → (tree : Tree) → old ≡ paths_in tree → now ≡ paths_in (after_record tree (Put entry text))
unfolding after_record
entered_put entry text old now is tree h = is ∙ (ap (λ keys. put path_cmp entry.name tt keys) h ∙ put_path entry.name (record { entry = entry; text = text }) tree)

pub entered_delete : (path : PathName) (old now : Keys PathName) → now ≡ where_key path_cmp (λ other. not (eq_by_cmp path_cmp path other)) old → (tree : Tree) → old ≡ paths_in tree → now ≡ paths_in (after_record tree (Delete path))
unfolding after_record
entered_delete path old now is tree h = is ∙ (ap (where_key path_cmp (λ other. not (eq_by_cmp path_cmp path other))) h ∙ without_path path tree)

pub entered_snap : (time : ℕ) (old now : Keys PathName) → now ≡ old → (tree : Tree) → old ≡ paths_in tree → now ≡ paths_in (after_record tree (Snap time))
unfolding after_record
entered_snap time old now is tree h = is ∙ h

pub entered_none : (records : List Rec) (now : Keys PathName) → now ≡ [] → now ≡ paths_in (tree_of (take 0 records))
unfolding tree_of
entered_none records now is = is

pub entered_next : (records : List Rec) (n : ℕ) (rec : Rec) (old now : Keys PathName) → Some rec ≡ record_at records (n + 1) → old ≡ paths_in (tree_of (take n records)) → ((tree : Tree) → old ≡ paths_in tree → now ≡ paths_in (after_record tree rec)) → now ≡ paths_in (tree_of (take (n + 1) records))
entered_next records n rec old now at so_far entered =
    let next : n + 1 ≡ suc n = omega arith in
    let here : slice_get records n ≡ Some rec = ap (record_at records) (sym next) ∙ sym at in
    entered (tree_of (take n records)) so_far
    ∙ ap paths_in (sym (tree_of-push (take n records) rec) ∙ (ap tree_of (sym (take_next n records rec here)) ∙ ap (λ m. tree_of (take m records)) (sym next)))

pub entered_all : (records : List Rec) (n : ℕ) (now : Keys PathName) → length records ≤ n → now ≡ paths_in (tree_of (take n records)) → now ≡ paths_in (tree_of records)
entered_all records n now end is = is ∙ ap (λ r. paths_in (tree_of r)) (take_all n records end)

-- the tree after all records is the tree
pub tree_whole : (records : List Rec) (n : ℕ) → n ≡ length records → tree_at records n ≡ tree_of records
tree_whole records n is = ap tree_of (take_all n records (omega (arith, is)))

pub keys_again : (tree : Tree) → keys_of (paths_in tree) ≡ keys_of tree
keys_again [] = refl
keys_again (item ∷ items) = ap (λ rest. item.0 ∷ rest) (keys_again items)

-- ---- the rules that govern

module _ (owner : List ℕ) (tree : Tree) where
  abbrev text_in : PathName → Option (List Rule)
  text_in dir = option_map (rules_of owner) (access_node tree dir)

  abbrev has_text : PathName → Bool
  has_text dir = is_some (access_node tree dir)

  first_is : (dirs : List PathName) (dir : PathName) → find has_text dirs ≡ Some dir → first_text text_in dirs ≡ text_in dir
  first_is [] dir h = absurd (some_none dir (sym h))
  first_is (d ∷ ds) dir h = go (access_node tree d) refl (first_is ds dir)
    where
      go : (o : Option Node) → access_node tree d ≡ o → (find has_text ds ≡ Some dir → first_text text_in ds ≡ text_in dir) → first_text text_in (d ∷ ds) ≡ text_in dir
      go None is rest = ap (λ o. option_or (option_map (rules_of owner) o) (first_text text_in ds)) is ∙ rest (sym (ap (λ o. if is_some o then Some d else find has_text ds) is) ∙ h)
      go (Some node) is rest =
          ap (λ o. option_or (option_map (rules_of owner) o) (first_text text_in ds)) is
          ∙ (sym (ap (option_map (rules_of owner)) is) ∙ ap text_in (some_same d dir (sym (ap (λ o. if is_some o then Some d else find has_text ds) is) ∙ h)))

  first_none : (dirs : List PathName) → find has_text dirs ≡ None → first_text text_in dirs ≡ None
  first_none [] h = refl
  first_none (d ∷ ds) h = go (access_node tree d) refl (first_none ds)
    where
      go : (o : Option Node) → access_node tree d ≡ o → (find has_text ds ≡ None → first_text text_in ds ≡ None) → first_text text_in (d ∷ ds) ≡ None
      go None is rest = ap (λ o. option_or (option_map (rules_of owner) o) (first_text text_in ds)) is ∙ rest (sym (ap (λ o. if is_some o then Some d else find has_text ds) is) ∙ h)
      go (Some node) is rest = absurd (some_none d (sym (ap (λ o. if is_some o then Some d else find has_text ds) is) ∙ h))

  governed : (path : PathName) → owns_snapshots owner ≡ false → governor (facts_of owner tree) path ≡ first_text text_in (prefixes path)
  unfolding governor facts_of
  governed path plain = ap (λ b. if b then None else first_text text_in (prefixes path)) plain

  rules_there : (dir : PathName) → (facts_of owner tree).access dir ≡ text_in dir
  unfolding facts_of
  rules_there dir = refl

  prefix_is : (path : PathName) → governing_prefix tree path ≡ find has_text (prefixes path)
  unfolding governing_prefix
  prefix_is path = refl

  pub governed_by : (path dir : PathName) → owns_snapshots owner ≡ false → governing_prefix tree path ≡ Some dir → governing_rules (facts_of owner tree) path ≡ rules_in owner tree dir
  governed_by path dir plain is =
      ap (λ found. unwrap_or found []) (governed path plain ∙ (first_is (prefixes path) dir (sym (prefix_is path) ∙ is) ∙ sym (rules_there dir)))

  pub ungoverned : (path : PathName) → owns_snapshots owner ≡ false → governing_prefix tree path ≡ None → governing_rules (facts_of owner tree) path ≡ []
  ungoverned path plain is = ap (λ found. unwrap_or found []) (governed path plain ∙ first_none (prefixes path) (sym (prefix_is path) ∙ is))
