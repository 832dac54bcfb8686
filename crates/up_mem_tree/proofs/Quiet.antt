-- Records that change no Group file leave all Group texts as they are.
use Rattle.std.proofs.Common.{◌≡◌, ℕ, zero, suc, ◌+◌, ◌<◌, ◌≤◌, Bool, true, false, ◌&&◌, cond, List, [], ◌∷◌, ◌++◌, length, take, T, refl, sym, ap, subst, ◌∙◌, inl, inr, arith, Option, Some, None}
use Rattle.std.specs.Prelude.{⊤, if◌then◌else◌, slice_get}
use Rattle.std.specs.FinMap.Entries.{is_sorted}
use Rattle.std.specs.Map.{keys_of}
use Rattle.std.specs.Option.{option_and_then, option_map}
use Rattle.std.proofs.lemmas.Bool.{cases_lt}
use Rattle.std.proofs.lemmas.List.{length-take-le}
use Rattle.up_names.specs.PathNames.{PathName}
use Rattle.up_names.specs.PathOrder.{path_cmp, path_eq}
use Rattle.up_entry.specs.declared.records.Rec.{Rec}
use Rattle.up_entry.specs.declared.records.Rec.TheVariants.{Put, Delete, Snap}
use Rattle.up_log_tree.specs.declared.node.Node.{Node}
use Rattle.up_log_tree.specs.Changes.{changes_some, path_of_change}
use Rattle.up_log_tree.specs.Rights.{facts_of, group_node, group_paths, is_group, is_group_file, items_of}
use Rattle.up_log_tree.specs.Trees.{Tree, after_record, is_file, kind_of, node_at, tree_at, tree_of}
use Rattle.up_log_tree.proofs.Fronts.{take_next}
use Rattle.up_log_tree.proofs.Paths.{path_eq_turned, path_same, some_none, some_same}
use Rattle.up_log_tree.proofs.Trees.{after_sorted, made_same, node_at-delete, node_at-put, tree_of-push, tree_sorted}
use Rattle.up_mem_tree.specs.Groups.{HaveSameGroups, StayTexts, last_group_change}
use Rattle.up_mem_tree.proofs.Grouped.{last_group-push}

-- ---- one record

-- the path of a Group file is one of the list
listed_as : (tree : Tree) (q : PathName) → option_and_then {U = ⊤} (λ n. if is_group_file q n then Some tt else None) (node_at tree q) ≡ option_map {U = ⊤} (λ (n : Node). tt) (group_node tree q)
listed_as tree q = go (node_at tree q)
  where
    by : (b : Bool) (n : Node) → ◌≡◌ {A = Option ⊤} (if b then Some tt else None) (option_map {U = ⊤} (λ (n : Node). tt) (if b then Some n else None))
    by true n = refl
    by false n = refl

    go : (o : Option Node) → option_and_then {U = ⊤} (λ n. if is_group_file q n then Some tt else None) o ≡ option_map {U = ⊤} (λ (n : Node). tt) (elim o as (λ _. Option Node) [ None ↦ None | Some node ↦ if is_group_file q node then Some node else None ])
    go None = refl
    go (Some n) = by (is_group_file q n) n

no_group : (tree : Tree) (path : PathName) → is_group path ≡ false → group_node tree path ≡ None
no_group tree path h = go (node_at tree path)
  where
    go : (o : Option Node) → (elim o as (λ _. Option Node) [ None ↦ None | Some node ↦ if is_group_file path node then Some node else None ]) ≡ None
    go None = refl
    go (Some node) = ap (λ b. if b && is_file (kind_of node) then Some node else None) h

-- what stands elsewhere stays
elsewhere : (before : Tree) (rec : Rec) (path : PathName) → path_of_change rec ≡ Some path → (q : PathName) → path_eq path q ≡ false → node_at (after_record before rec) q ≡ node_at before q
elsewhere before (Put entry text) path is q apart =
    node_at-put before entry text q
    ∙ ap (λ b. cond b (Some (record { entry = entry; text = text })) (node_at before q)) (path_eq_turned q entry.name ∙ (ap (λ p. path_eq p q) (some_same entry.name path is) ∙ apart))
elsewhere before (Delete name) path is q apart = node_at-delete before name q ∙ ap (λ b. cond b None (node_at before q)) (ap (λ p. path_eq p q) (some_same name path is) ∙ apart)
elsewhere before (Snap time) path is q apart = absurd (some_none path (sym is))

-- a record that changes no path
snapped : (tree : Tree) (rec : Rec) → path_of_change rec ≡ None → tree ≡ after_record tree rec
unfolding after_record
snapped tree (Put entry text) h = absurd (some_none entry.name h)
snapped tree (Delete path) h = absurd (some_none path h)
snapped tree (Snap time) h = refl

module _ (owner : List ℕ) (before : Tree) (rec : Rec) (sorted : T (is_sorted path_cmp before)) where
  abbrev behind : Tree
  behind = after_record before rec

  module _ (path : PathName) (changes : path_of_change rec ≡ Some path) (other : is_group path ≡ false) where
    same_group : (q : PathName) → group_node before q ≡ group_node behind q
    same_group q = go (path_eq path q) refl
      where
        go : (b : Bool) → path_eq path q ≡ b → group_node before q ≡ group_node behind q
        go true same = let none : is_group q ≡ false = ap is_group (sym (path_same path q same)) ∙ other in no_group before q none ∙ sym (no_group behind q none)
        go false apart = ap (λ o. elim o as (λ _. Option Node) [ None ↦ None | Some node ↦ if is_group_file q node then Some node else None ]) (sym (elsewhere before rec path changes q apart))

    same_texts : (facts_of owner before).group ≡ (facts_of owner behind).group
    unfolding facts_of
    same_texts i q = option_map (items_of owner) (same_group q i)

    same_paths : group_paths before ≡ group_paths behind
    unfolding group_paths
    same_paths =
        ap (λ es. keys_of es) (made_same {Y = ⊤} (λ path node. if is_group_file path node then Some tt else None) (λ path node. if is_group_file path node then Some tt else None) before behind sorted (after_sorted before rec sorted)
        (λ q. listed_as before q ∙ (ap (option_map {U = ⊤} (λ (n : Node). tt)) (same_group q) ∙ sym (listed_as behind q))))

  groups_after : changes_some is_group rec ≡ false → HaveSameGroups owner before behind
  groups_after quiet = go (path_of_change rec) refl quiet
    where
      go : (o : Option PathName) → path_of_change rec ≡ o → (elim o as (λ _. Bool) [ None ↦ false | Some path ↦ is_group path ]) ≡ false → HaveSameGroups owner before behind
      go None none q = subst (HaveSameGroups owner before) (snapped before rec none) (record { texts = refl; paths = refl })
      go (Some path) some q = record { texts = same_texts path some q; paths = same_paths path some q }

-- ---- several

module _ (owner : List ℕ) (records : List Rec) where
  there : (n : ℕ) → n < length records → (o : Option Rec) → slice_get records n ≡ o → (rec : Rec) × (slice_get records n ≡ Some rec)
  there n within (Some rec) is = (rec, is)
  there n within None is = absurd (past records n within is)
    where
      past : (rs : List Rec) (n : ℕ) → n < length rs → slice_get rs n ≡ None → ⊥
      past [] n low h = omega (arith, low)
      past (r ∷ rs) zero low h = some_none r h
      past (r ∷ rs) (suc n) low h = past rs n (omega (arith, low)) h

  module _ (m : ℕ) where
    same_at : (n : ℕ) → m ≡ n → HaveSameGroups owner (tree_at records m) (tree_at records n)
    same_at n is = subst (λ k. HaveSameGroups owner (tree_at records m) (tree_at records k)) is (record { texts = refl; paths = refl })

    groups_next : (n : ℕ) (rec : Rec) → slice_get records n ≡ Some rec → n < length records → m ≤ n → last_group_change (take (suc n) records) ≤ m →
        (last_group_change (take n records) ≤ m → HaveSameGroups owner (tree_at records m) (tree_at records n)) → HaveSameGroups owner (tree_at records m) (tree_at records (suc n))
    groups_next n rec is within order low so_far = go (changes_some is_group rec) refl
      where
        taken : take (suc n) records ≡ take n records ++ rec ∷ []
        taken = take_next n records rec is

        value : last_group_change (take (suc n) records) ≡ cond (changes_some is_group rec) (length (take n records) + 1) (last_group_change (take n records))
        value = ap last_group_change taken ∙ last_group-push (take n records) rec

        size : length (take n records) ≡ n
        size = length-take-le n records (omega (arith, within))

        next : after_record (tree_at records n) rec ≡ tree_at records (suc n)
        next = sym (tree_of-push (take n records) rec) ∙ ap tree_of (sym taken)

        go : (b : Bool) → changes_some is_group rec ≡ b → HaveSameGroups owner (tree_at records m) (tree_at records (suc n))
        go true changed =
            let late : last_group_change (take (suc n) records) ≡ length (take n records) + 1 = value ∙ ap (λ b. cond b (length (take n records) + 1) (last_group_change (take n records))) changed in
            absurd (omega (arith, late, size, low, order))
        go false quiet =
            let same : last_group_change (take (suc n) records) ≡ last_group_change (take n records) = value ∙ ap (λ b. cond b (length (take n records) + 1) (last_group_change (take n records))) quiet in
            let first : HaveSameGroups owner (tree_at records m) (tree_at records n) = so_far (omega (arith, same, low)) in
            let last : HaveSameGroups owner (tree_at records n) (tree_at records (suc n)) = subst (HaveSameGroups owner (tree_at records n)) next (groups_after owner (tree_at records n) rec (tree_sorted (take n records)) quiet) in
            record { texts = first.texts ∙ last.texts; paths = first.paths ∙ last.paths }

    groups_stay : (n : ℕ) → m ≤ n → n ≤ length records → last_group_change (take n records) ≤ m → HaveSameGroups owner (tree_at records m) (tree_at records n)
    groups_stay zero order within low = same_at zero (omega (arith, order))
    groups_stay (suc n) order within low = elim (cases_lt m (suc n)) [
      | inl lt ↦
          let rec = there n (omega (arith, within)) (slice_get records n) refl in
          groups_next n rec.0 rec.1 (omega (arith, within)) (omega (arith, lt)) low (λ low. groups_stay n (omega (arith, lt)) (omega (arith, within)) low)
      | inr ge ↦ same_at (suc n) (omega (arith, order, ge))
    ]

-- the texts stay, where the last change of a Group file was no later, and the Access file says the same
pub texts_stay : (owner : List ℕ) (records : List Rec) (dir : PathName) (m n last : ℕ) → m ≤ n → n ≤ length records → last ≡ last_group_change (take n records) → last ≤ m →
    (facts_of owner (tree_at records m)).access dir ≡ (facts_of owner (tree_at records n)).access dir → StayTexts owner records dir m n
texts_stay owner records dir m n last order within is low access = record {
  access = access;
  groups = groups_stay owner records m n order within (omega (arith, is, low));
}
