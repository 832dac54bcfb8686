-- What a record that puts or deletes changes: what stands at its path, and what follows from that.
use Rattle.std.proofs.Common.{◌≡◌, ℕ, zero, suc, ◌+◌, ◌-◌, ◌≤◌, Bool, true, false, not, cond, ◌&&◌, ◌||◌, List, [], ◌∷◌, ◌++◌, length, refl, sym, ap, subst, ◌∙◌, arith, Option, Some, None, is_some}
use Rattle.std.specs.Prelude.{codes, if◌then◌else◌, slice_get, unwrap_or}
use Rattle.std.specs.List.{filter}
use Rattle.std.specs.Option.{option_map}
use Rattle.std.proofs.lemmas.List.{length-append, take-append-le, take_all}
use Rattle.std.proofs.lemmas.Slice.Eq.{bytes_eq-Decides}
use Rattle.up_names.specs.PathNames.{PathName, control_of, ends_in_access, extended, is_in_group, parent_of}
use Rattle.up_names.specs.PathOrder.{path_eq}
use Rattle.up_names.specs.declared.paths.Control.TheVariants as control
use Rattle.up_names.proofs.PathComparisons.{ends_in}
use Rattle.up_entry.specs.declared.entries.Entry.{Entry}
use Rattle.up_entry.specs.declared.records.Rec.{Rec}
use Rattle.up_entry.specs.declared.records.Rec.TheVariants.{Put, Delete}
use Rattle.up_log_tree.specs.Changes.{last_change, path_of_change}
use Rattle.up_log_tree.specs.Orders.{has_path as has, with_path}
use Rattle.up_log_tree.specs.Rights.{access_path, facts_of, group_node, is_group, is_group_file, items_of, rules_of}
use Rattle.up_mem_tree.specs.Slots.{named_paths}
use Rattle.up_mem_tree.specs.Steps.{group_file}
use Rattle.up_log_tree.specs.Trees.{last_element, Tree, after_record, children, is_file, is_parent, kind_of, node_at, tree_at, tree_of}
use Rattle.up_log_tree.specs.declared.node.Node.{Node}
use Rattle.up_mem_tree.proofs.Named.{last_change-push, named_paths-push}
use Rattle.up_log_tree.proofs.Paths.{extended_last, parent_none, path_apart, path_eq_itself, path_eq_turned, path_same, some_none}
use Rattle.up_log_tree.proofs.Rising.{has-filter, has-with, one_list, rising-filter, rising-with}
use Rattle.up_mem_tree.proofs.Texts.{access-is, group-is}
use Rattle.up_log_tree.proofs.Trees.{has_child, node_at-delete, node_at-put, rising_children, tree_of-push}

-- ---- Access and Group paths

abbrev access_name : List ℕ
access_name = codes "Access"

last_there : (es : List (List ℕ)) (e : List ℕ) → slice_get (es ++ e ∷ []) (length (es ++ e ∷ []) - 1) ≡ Some e
last_there es e = ap (slice_get (es ++ e ∷ [])) (let l = length-append es (e ∷ []) in let k : length (es ++ e ∷ []) - 1 ≡ length es = omega (arith, l) in k) ∙ go es
  where
    go : (es : List (List ℕ)) → slice_get (es ++ e ∷ []) (length es) ≡ Some e
    go [] = refl
    go (x ∷ es) = go es

-- the Access path of a directory is one
pub access_control : (dir : PathName) → control_of (access_path dir) ≡ control.Access
access_control dir =
    ap (λ b. if b then control.Access else (if is_in_group (access_path dir) then control.Group else control.Ordinary))
    (ends_in (dir.elements ++ access_name ∷ []) access_name access_name (last_there dir.elements access_name) ∙ (bytes_eq-Decides access_name access_name).1 refl)

control_by : (a g : Bool) → (if a then control.Access else (if g then control.Group else control.Ordinary)) ≡ control.Access → a ≡ true
control_by true g h = refl
control_by false true h = absurd (cc)
control_by false false h = absurd (cc)

last_some : (es : List (List ℕ)) (n : ℕ) → length es ≡ suc n → (last : List ℕ) × (slice_get es (length es - 1) ≡ Some last)
last_some [] n is = absurd (omega (arith, is))
last_some (e ∷ []) n is = (e, refl)
last_some (e ∷ f ∷ es) n is =
    let rest = last_some (f ∷ es) (length es) refl in
    (rest.0, ap (slice_get (e ∷ f ∷ es)) (let k : suc (suc (length es)) - 1 ≡ suc (length es) = omega arith in k) ∙ ap (slice_get (f ∷ es)) (let k : length es ≡ suc (length es) - 1 = omega arith in k) ∙ rest.1)

-- an Access path in a directory is that directory's
pub access_path_is : (path dir : PathName) → control_of path ≡ control.Access → parent_of path ≡ Some dir → path ≡ access_path dir
access_path_is path dir is parent =
    extended_last path dir parent ∙ ap (extended dir) (go (length path.elements) refl)
  where
    ends : ends_in_access path ≡ true
    ends = control_by (ends_in_access path) (is_in_group path) is

    go : (n : ℕ) → length path.elements ≡ n → last_element path ≡ access_name
    go zero none = absurd (some_none dir (sym parent ∙ parent_none path none))
    go (suc n) len =
        let last = last_some path.elements n len in
        ap (λ o. unwrap_or o []) last.1 ∙ (bytes_eq-Decides last.0 access_name).0 (sym (ends_in path.elements last.0 access_name last.1) ∙ ends)

-- ---- one record more

module _ (owner : List ℕ) (records : List Rec) (rec : Rec) (path : PathName) (after : Option Node) (names : path_of_change rec ≡ Some path)
    (stands : (tree : Tree) (q : PathName) → node_at (after_record tree rec) q ≡ cond (path_eq q path) after (node_at tree q)) where
  pub node_more : (q : PathName) → node_at (tree_of (records ++ rec ∷ [])) q ≡ cond (path_eq q path) after (node_at (tree_of records) q)
  node_more q = ap (λ t. node_at t q) (tree_of-push records rec) ∙ stands (tree_of records) q

  pub last_more : (q : PathName) → last_change (records ++ rec ∷ []) q ≡ cond (path_eq q path) (Some (length records + 1)) (last_change records q)
  last_more q = last_change-push records rec q ∙ ap (λ o. cond (elim o as (λ _. Bool) [ None ↦ false | Some p ↦ path_eq q p ]) (Some (length records + 1)) (last_change records q)) names

  pub named_more : named_paths (records ++ rec ∷ []) ≡ with_path path (named_paths records)
  named_more = named_paths-push records rec ∙ ap (λ o. elim o as (λ _. List PathName) [ None ↦ named_paths records | Some p ↦ with_path p (named_paths records) ]) names

  -- ---- children

  children_has : (dir q : PathName) → has (children (tree_of (records ++ rec ∷ [])) dir) q ≡ (is_parent dir q && is_some (cond (path_eq q path) after (node_at (tree_of records) q)))
  children_has dir q = has_child (tree_of (records ++ rec ∷ [])) dir q ∙ ap (λ o. is_parent dir q && is_some o) (node_more q)

  pub children_other : (dir : PathName) → is_parent dir path ≡ false → children (tree_of (records ++ rec ∷ [])) dir ≡ children (tree_of records) dir
  children_other dir other = one_list (children (tree_of (records ++ rec ∷ [])) dir) (children (tree_of records) dir) (rising_children (records ++ rec ∷ []) dir) (rising_children records dir)
      (λ q. children_has dir q ∙ go q (path_eq q path) refl ∙ sym (has_child (tree_of records) dir q))
    where
      go : (q : PathName) (b : Bool) → path_eq q path ≡ b → (is_parent dir q && is_some (cond b after (node_at (tree_of records) q))) ≡ (is_parent dir q && is_some (node_at (tree_of records) q))
      go q true is = let no : is_parent dir q ≡ false = ap (is_parent dir) (path_same q path is) ∙ other in ap (λ b. b && is_some after) no ∙ sym (ap (λ b. b && is_some (node_at (tree_of records) q)) no)
      go q false is = refl

  -- a new child
  pub children_with : (dir : PathName) → is_parent dir path ≡ true → is_some after ≡ true → children (tree_of (records ++ rec ∷ [])) dir ≡ with_path path (children (tree_of records) dir)
  children_with dir parent some = one_list (children (tree_of (records ++ rec ∷ [])) dir) (with_path path (children (tree_of records) dir)) (rising_children (records ++ rec ∷ []) dir) (rising-with path (children (tree_of records) dir) (rising_children records dir))
      (λ q. children_has dir q ∙ go q (path_eq q path) refl ∙ ap (λ b. path_eq q path || b) (sym (has_child (tree_of records) dir q)) ∙ sym (has-with path (children (tree_of records) dir) q))
    where
      go : (q : PathName) (b : Bool) → path_eq q path ≡ b → (is_parent dir q && is_some (cond b after (node_at (tree_of records) q))) ≡ (path_eq q path || (is_parent dir q && is_some (node_at (tree_of records) q)))
      go q true is = ap (λ b. b && is_some after) (ap (is_parent dir) (path_same q path is) ∙ parent) ∙ some ∙ sym (ap (λ b. b || (is_parent dir q && is_some (node_at (tree_of records) q))) is)
      go q false is = sym (ap (λ b. b || (is_parent dir q && is_some (node_at (tree_of records) q))) is)

  -- a child less
  pub children_without : (dir : PathName) → is_some after ≡ false → children (tree_of (records ++ rec ∷ [])) dir ≡ filter (λ q. not (path_eq path q)) (children (tree_of records) dir)
  children_without dir none = one_list (children (tree_of (records ++ rec ∷ [])) dir) (filter (λ q. not (path_eq path q)) (children (tree_of records) dir)) (rising_children (records ++ rec ∷ []) dir)
      (rising-filter (λ q. not (path_eq path q)) (children (tree_of records) dir) (rising_children records dir))
      (λ q. children_has dir q ∙ go q (path_eq q path) refl ∙ ap (λ b. not (path_eq path q) && b) (sym (has_child (tree_of records) dir q)) ∙ sym (has-filter (λ q. not (path_eq path q)) (children (tree_of records) dir) q))
    where
      and_false : (b : Bool) → (b && false) ≡ false
      and_false true = refl
      and_false false = refl

      go : (q : PathName) (b : Bool) → path_eq q path ≡ b → (is_parent dir q && is_some (cond b after (node_at (tree_of records) q))) ≡ (not (path_eq path q) && (is_parent dir q && is_some (node_at (tree_of records) q)))
      go q true is = ap (λ b. is_parent dir q && b) none ∙ and_false (is_parent dir q) ∙ sym (ap (λ b. not b && (is_parent dir q && is_some (node_at (tree_of records) q))) (path_eq_turned path q ∙ is))
      go q false is = sym (ap (λ b. not b && (is_parent dir q && is_some (node_at (tree_of records) q))) (path_eq_turned path q ∙ is))

  -- ---- texts

  pub tree_early : (n : ℕ) → n ≤ length records → tree_at (records ++ rec ∷ []) n ≡ tree_at records n
  tree_early n le = ap tree_of (take-append-le n records (rec ∷ []) le)

  pub tree_last : tree_at (records ++ rec ∷ []) (length records + 1) ≡ tree_of (records ++ rec ∷ [])
  tree_last = ap tree_of (take_all (length records + 1) (records ++ rec ∷ []) (let l = length-append records (rec ∷ []) in omega (arith, l)))

  tree_before : tree_at records (length records) ≡ tree_of records
  tree_before = ap tree_of (take_all (length records) records (omega arith))

  pub access_here : (dir : PathName) → access_path dir ≡ path → (facts_of owner (tree_at (records ++ rec ∷ []) (length records + 1))).access dir ≡ option_map (rules_of owner) after
  access_here dir is =
      ap (λ t. (facts_of owner t).access dir) tree_last ∙ access-is owner (tree_of (records ++ rec ∷ [])) dir
      ∙ ap (option_map (rules_of owner)) (node_more (access_path dir) ∙ ap (λ b. cond b after (node_at (tree_of records) (access_path dir))) (subst (λ p. path_eq (access_path dir) p ≡ true) is (path_eq_itself (access_path dir))))

  pub access_other : (dir : PathName) → (access_path dir ≡ path → ⊥) → (facts_of owner (tree_at (records ++ rec ∷ []) (length records + 1))).access dir ≡ (facts_of owner (tree_at records (length records))).access dir
  access_other dir other =
      ap (λ t. (facts_of owner t).access dir) tree_last ∙ access-is owner (tree_of (records ++ rec ∷ [])) dir
      ∙ ap (option_map (rules_of owner)) (node_more (access_path dir) ∙ ap (λ b. cond b after (node_at (tree_of records) (access_path dir))) (path_apart (access_path dir) path other))
      ∙ sym (ap (λ t. (facts_of owner t).access dir) tree_before ∙ access-is owner (tree_of records) dir)

  group_of_node : (tree : Tree) (q : PathName) → group_node tree q ≡ group_file q (node_at tree q)
  group_of_node tree q = go (node_at tree q)
    where
      go : (o : Option Node) → elim o as (λ _. Option Node) [ None ↦ None | Some node ↦ if is_group_file q node then Some node else None ] ≡ group_file q o
      go None = refl
      go (Some node) = refl

  pub group_here : (facts_of owner (tree_at (records ++ rec ∷ []) (length records + 1))).group path ≡ option_map (items_of owner) (group_file path after)
  group_here =
      ap (λ t. (facts_of owner t).group path) tree_last ∙ group-is owner (tree_of (records ++ rec ∷ [])) path ∙ ap (option_map (items_of owner)) (group_of_node (tree_of (records ++ rec ∷ [])) path)
      ∙ ap (λ o. option_map (items_of owner) (group_file path o)) (node_more path ∙ ap (λ b. cond b after (node_at (tree_of records) path)) (path_eq_itself path))

  pub group_other : (q : PathName) → (q ≡ path → ⊥) → (facts_of owner (tree_at (records ++ rec ∷ []) (length records + 1))).group q ≡ (facts_of owner (tree_at records (length records))).group q
  group_other q other =
      ap (λ t. (facts_of owner t).group q) tree_last ∙ group-is owner (tree_of (records ++ rec ∷ [])) q ∙ ap (option_map (items_of owner)) (group_of_node (tree_of (records ++ rec ∷ [])) q)
      ∙ ap (λ o. option_map (items_of owner) (group_file q o)) (node_more q ∙ ap (λ b. cond b after (node_at (tree_of records) q)) (path_apart q path other))
      ∙ sym (ap (λ t. (facts_of owner t).group q) tree_before ∙ group-is owner (tree_of records) q ∙ ap (option_map (items_of owner)) (group_of_node (tree_of records) q))

-- a path that is no Group path has no Group text
pub group_never : (owner : List ℕ) (tree : Tree) (q : PathName) → is_group q ≡ false → (facts_of owner tree).group q ≡ None
group_never owner tree q none = group-is owner tree q ∙ ap (option_map (items_of owner)) (go (node_at tree q))
  where
    go : (o : Option Node) → elim o as (λ _. Option Node) [ None ↦ None | Some node ↦ if is_group_file q node then Some node else None ] ≡ None
    go None = refl
    go (Some node) = ap (λ b. if b && is_file (kind_of node) then Some node else None) none

-- ---- the two kinds of such records

pub put_stands : (entry : Entry) (text : List ℕ) (tree : Tree) (q : PathName) → node_at (after_record tree (Put entry text)) q ≡ cond (path_eq q entry.name) (Some (record { entry = entry; text = text })) (node_at tree q)
put_stands entry text tree q = node_at-put tree entry text q

pub delete_stands : (gone : PathName) (tree : Tree) (q : PathName) → node_at (after_record tree (Delete gone)) q ≡ cond (path_eq q gone) None (node_at tree q)
delete_stands gone tree q = node_at-delete tree gone q ∙ ap (λ b. cond b None (node_at tree q)) (path_eq_turned gone q)
