-- What the slots have after a record that puts or deletes.
use Rattle.std.proofs.Common.{◌≡◌, ℕ, suc, ◌+◌, ◌≤◌, Bool, true, false, cond, List, [], ◌∷◌, ◌++◌, length, map, refl, sym, ap, subst, ◌∙◌, inl, inr, arith, Option, Some, None}
use Rattle.std.specs.Prelude.{slice_get, unwrap_or}
use Rattle.std.specs.Option.{option_map}
use Rattle.std.proofs.lemmas.List.{length-append}
use Rattle.up_names.specs.PathNames.{PathName, control_of, parent_of}
use Rattle.up_names.specs.PathOrder.{path_eq}
use Rattle.up_names.specs.declared.items.Item.{Item}
use Rattle.up_names.specs.declared.paths.Control.{Control}
use Rattle.up_names.specs.declared.paths.Control.TheVariants as control
use Rattle.up_access.specs.declared.Rule.{Rule}
use Rattle.up_entry.specs.declared.records.Rec.{Rec}
use Rattle.up_mem_tree.specs.declared.edits.Edit.{Edit}
use Rattle.up_mem_tree.specs.declared.edits.Edit.TheVariants.{Same}
use Rattle.up_mem_tree.specs.declared.history.Change.{Change}
use Rattle.up_log_tree.specs.Changes.{last_change, path_of_change}
use Rattle.up_mem_tree.specs.Edits.{changed_at, changes_in, entered_own, entered_parent}
use Rattle.up_mem_tree.specs.Histories.{Tells}
use Rattle.up_log_tree.specs.Rights.{access_path, facts_of, is_group, items_of, rules_of}
use Rattle.up_mem_tree.specs.Slots.{AreLinked, IsSlotOf, Known, path_in}
use Rattle.up_mem_tree.specs.Steps.{IsEditTo, access_change, group_change, group_file}
use Rattle.up_log_tree.specs.Trees.{last_element, Tree, after_record, children, node_at, tree_at, tree_of}
use Rattle.up_log_tree.specs.declared.node.Node.{Node}
use Rattle.up_mem_tree.proofs.Links.{KeepsLinks, WasAt, edit_paths, linked_changed, path-changed, paths_kept, was_at}
use Rattle.up_log_tree.proofs.Paths.{extended_last, length-extended, parent_extended, parent_fails, path_apart, path_eq_itself, some_none, some_same}
use Rattle.up_mem_tree.proofs.RecordChanges.{access_control, access_here, access_other, access_path_is, children_other, group_here, group_never, group_other, last_more, tree_early}
use Rattle.up_mem_tree.proofs.Told.{tells_more, tells_same}
use Rattle.up_mem_tree.proofs.Walks.{path_there}

-- ---- what the changes keep

pub own_keeps : (position : ℕ) (group : Option (Change (List Item))) → KeepsLinks (entered_own position group)
unfolding entered_own
own_keeps position group = record { path = λ slot. refl; parent = λ slot. refl; named = λ slot. refl }

pub above_keeps : (edit : Edit) (access : Option (Change (List Rule))) → KeepsLinks (entered_parent Same edit access)
unfolding entered_parent
above_keeps edit access = record { path = λ slot. refl; parent = λ slot. refl; named = λ slot. refl }

-- a path is no parent of itself
pub no_own_parent : (path : PathName) → parent_of path ≡ Some path → ⊥
no_own_parent path is =
    let longer : length path.elements ≡ suc (length path.elements) = ap (λ (p : PathName). length p.elements) (extended_last path path is) ∙ length-extended path (last_element path) in
    absurd (omega (arith, longer))

module _ (owner : List ℕ) (records : List Rec) (rec : Rec) (path : PathName) (after : Option Node) (names : path_of_change rec ≡ Some path)
    (stands : (tree : Tree) (q : PathName) → node_at (after_record tree rec) q ≡ cond (path_eq q path) after (node_at tree q)) where
  now : ℕ
  now = length records + 1

  long : length (records ++ rec ∷ []) ≡ length records + 1
  long = length-append records (rec ∷ [])

  early_access : (dir : PathName) (n : ℕ) → n ≤ length records → (facts_of owner (tree_at (records ++ rec ∷ []) n)).access dir ≡ (facts_of owner (tree_at records n)).access dir
  early_access dir n le = ap (λ t. (facts_of owner t).access dir) (tree_early owner records rec path after names stands n le)

  early_group : (q : PathName) (n : ℕ) → n ≤ length records → (facts_of owner (tree_at (records ++ rec ∷ []) n)).group q ≡ (facts_of owner (tree_at records n)).group q
  early_group q n le = ap (λ t. (facts_of owner t).group q) (tree_early owner records rec path after names stands n le)

  -- ---- texts

  same_access : (dir : PathName) (changes : List (Change (List Rule))) → (access_path dir ≡ path → ⊥) → Tells changes (length records) (λ n. (facts_of owner (tree_at records n)).access dir)
      → Tells changes (length (records ++ rec ∷ [])) (λ n. (facts_of owner (tree_at (records ++ rec ∷ []) n)).access dir)
  same_access dir changes other tells = subst (λ l. Tells changes l (λ n. (facts_of owner (tree_at (records ++ rec ∷ []) n)).access dir)) (sym long)
      (tells_same changes (length records) (λ n. (facts_of owner (tree_at records n)).access dir) (λ n. (facts_of owner (tree_at (records ++ rec ∷ []) n)).access dir) tells (early_access dir) (access_other owner records rec path after names stands dir other))

  more_access : (dir : PathName) (changes : List (Change (List Rule))) → access_path dir ≡ path → Tells changes (length records) (λ n. (facts_of owner (tree_at records n)).access dir)
      → Tells (changes ++ record { position = length records + 1; text = option_map (rules_of owner) after } ∷ []) (length (records ++ rec ∷ [])) (λ n. (facts_of owner (tree_at (records ++ rec ∷ []) n)).access dir)
  more_access dir changes is tells = subst (λ l. Tells (changes ++ record { position = length records + 1; text = option_map (rules_of owner) after } ∷ []) l (λ n. (facts_of owner (tree_at (records ++ rec ∷ []) n)).access dir)) (sym long)
      (tells_more changes (length records) (λ n. (facts_of owner (tree_at records n)).access dir) (λ n. (facts_of owner (tree_at (records ++ rec ∷ []) n)).access dir) (option_map (rules_of owner) after) tells (early_access dir) (access_here owner records rec path after names stands dir is))

  same_group : (q : PathName) (changes : List (Change (List Item))) → (facts_of owner (tree_at (records ++ rec ∷ []) (length records + 1))).group q ≡ (facts_of owner (tree_at records (length records))).group q
      → Tells changes (length records) (λ n. (facts_of owner (tree_at records n)).group q) → Tells changes (length (records ++ rec ∷ [])) (λ n. (facts_of owner (tree_at (records ++ rec ∷ []) n)).group q)
  same_group q changes same tells = subst (λ l. Tells changes l (λ n. (facts_of owner (tree_at (records ++ rec ∷ []) n)).group q)) (sym long)
      (tells_same changes (length records) (λ n. (facts_of owner (tree_at records n)).group q) (λ n. (facts_of owner (tree_at (records ++ rec ∷ []) n)).group q) tells (early_group q) same)

  more_group : (changes : List (Change (List Item))) → Tells changes (length records) (λ n. (facts_of owner (tree_at records n)).group path)
      → Tells (changes ++ record { position = length records + 1; text = option_map (items_of owner) (group_file path after) } ∷ []) (length (records ++ rec ∷ [])) (λ n. (facts_of owner (tree_at (records ++ rec ∷ []) n)).group path)
  more_group changes tells = subst (λ l. Tells (changes ++ record { position = length records + 1; text = option_map (items_of owner) (group_file path after) } ∷ []) l (λ n. (facts_of owner (tree_at (records ++ rec ∷ []) n)).group path)) (sym long)
      (tells_more changes (length records) (λ n. (facts_of owner (tree_at records n)).group path) (λ n. (facts_of owner (tree_at (records ++ rec ∷ []) n)).group path) (option_map (items_of owner) (group_file path after)) tells (early_group path) (group_here owner records rec path after names stands))

  -- the change of the Access file, in the directory of the path
  above_access : (dir : PathName) (changes : List (Change (List Rule))) → parent_of path ≡ Some dir → Tells changes (length records) (λ n. (facts_of owner (tree_at records n)).access dir)
      → Tells (changes_in changes (access_change owner path after (length records + 1))) (length (records ++ rec ∷ [])) (λ n. (facts_of owner (tree_at (records ++ rec ∷ []) n)).access dir)
  above_access dir changes parent tells = go (control_of path) refl
    where
      go : (c : Control) → control_of path ≡ c → Tells (changes_in changes (elim c as (λ _. Option (Change (List Rule))) [
        | control.Access ↦ Some (record { position = length records + 1; text = option_map (rules_of owner) after })
        | control.Group ↦ None
        | control.Ordinary ↦ None
      ])) (length (records ++ rec ∷ [])) (λ n. (facts_of owner (tree_at (records ++ rec ∷ []) n)).access dir)
      go control.Access is = more_access dir changes (sym (access_path_is path dir is parent)) tells
      go control.Group is = same_access dir changes (λ same. let e : control.Group ≡ control.Access = sym is ∙ ap control_of (sym same) ∙ access_control dir in absurd (cc)) tells
      go control.Ordinary is = same_access dir changes (λ same. let e : control.Ordinary ≡ control.Access = sym is ∙ ap control_of (sym same) ∙ access_control dir in absurd (cc)) tells

  own_group : (changes : List (Change (List Item))) → Tells changes (length records) (λ n. (facts_of owner (tree_at records n)).group path)
      → Tells (changes_in changes (group_change owner path after (length records + 1))) (length (records ++ rec ∷ [])) (λ n. (facts_of owner (tree_at (records ++ rec ∷ []) n)).group path)
  own_group changes tells = go (control_of path) refl
    where
      never : is_group path ≡ false → (facts_of owner (tree_at (records ++ rec ∷ []) (length records + 1))).group path ≡ (facts_of owner (tree_at records (length records))).group path
      never none = group_never owner (tree_at (records ++ rec ∷ []) (length records + 1)) path none ∙ sym (group_never owner (tree_at records (length records)) path none)

      not_group : (c : Control) → control_of path ≡ c → is_group path ≡ elim c as (λ _. Bool) [ control.Group ↦ true | control.Access ↦ false | control.Ordinary ↦ false ]
      not_group c is = ap (λ c. elim c as (λ _. Bool) [ control.Group ↦ true | control.Access ↦ false | control.Ordinary ↦ false ]) is

      go : (c : Control) → control_of path ≡ c → Tells (changes_in changes (elim c as (λ _. Option (Change (List Item))) [
        | control.Group ↦ Some (record { position = length records + 1; text = option_map (items_of owner) (group_file path after) })
        | control.Access ↦ None
        | control.Ordinary ↦ None
      ])) (length (records ++ rec ∷ [])) (λ n. (facts_of owner (tree_at (records ++ rec ∷ []) n)).group path)
      go control.Group is = more_group changes tells
      go control.Access is = same_group path changes (never (not_group control.Access is)) tells
      go control.Ordinary is = same_group path changes (never (not_group control.Ordinary is)) tells

  -- ---- the slots

  -- one of another path, and of another directory
  pub other_slot : (P Q : ℕ → Option PathName) (slot : Known) → ((i : ℕ) (p : PathName) → P i ≡ Some p → Q i ≡ Some p) → (slot.path ≡ path → ⊥) → (parent_of path ≡ Some slot.path → ⊥)
      → IsSlotOf owner records P slot → IsSlotOf owner (records ++ rec ∷ []) Q slot
  other_slot P Q slot keeps other apart told = record {
    last = told.last ∙ sym (ap (λ o. unwrap_or o 0) (last_more owner records rec path after names stands slot.path ∙ ap (λ b. cond b (Some (length records + 1)) (last_change records slot.path)) (path_apart slot.path path other)));
    children = paths_kept P Q slot.children (children (tree_of records) slot.path) keeps told.children ∙ sym (ap (map Some) (children_other owner records rec path after names stands slot.path (parent_fails slot.path path apart)));
    access = same_access slot.path slot.access (λ same. apart (ap parent_of (sym same) ∙ parent_extended slot.path _)) told.access;
    group = same_group slot.path slot.group (group_other owner records rec path after names stands slot.path other) told.group;
  }

  -- that of the path
  pub own_slot : (P Q : ℕ → Option PathName) (slot : Known) → ((i : ℕ) (p : PathName) → P i ≡ Some p → Q i ≡ Some p) → slot.path ≡ path
      → IsSlotOf owner records P slot → IsSlotOf owner (records ++ rec ∷ []) Q (entered_own (length records + 1) (group_change owner path after (length records + 1)) slot)
  unfolding entered_own
  own_slot P Q slot keeps same told = record {
    last = sym (ap (λ o. unwrap_or o 0) (last_more owner records rec path after names stands slot.path ∙ ap (λ b. cond b (Some (length records + 1)) (last_change records slot.path)) (subst (λ p. path_eq p path ≡ true) (sym same) (path_eq_itself path))));
    children = paths_kept P Q slot.children (children (tree_of records) slot.path) keeps told.children
        ∙ sym (ap (map Some) (children_other owner records rec path after names stands slot.path (parent_fails slot.path path (λ own. no_own_parent path (own ∙ ap Some same)))));
    access = same_access slot.path slot.access (λ here. no_own_parent path (ap parent_of (sym here) ∙ parent_extended slot.path _ ∙ ap Some same)) told.access;
    group = subst (λ p. Tells (changes_in slot.group (group_change owner path after (length records + 1))) (length (records ++ rec ∷ [])) (λ n. (facts_of owner (tree_at (records ++ rec ∷ []) n)).group p)) (sym same)
        (own_group slot.group (subst (λ p. Tells slot.group (length records) (λ n. (facts_of owner (tree_at records n)).group p)) same told.group));
  }

  -- that of its directory
  pub above_slot : (P Q : ℕ → Option PathName) (slot : Known) (edit : Edit) (id : ℕ) → ((i : ℕ) (p : PathName) → P i ≡ Some p → Q i ≡ Some p) → Q id ≡ Some path → parent_of path ≡ Some slot.path
      → IsEditTo edit id path (children (tree_of records) slot.path) (children (tree_of (records ++ rec ∷ [])) slot.path)
      → IsSlotOf owner records P slot → IsSlotOf owner (records ++ rec ∷ []) Q (entered_parent Same edit (access_change owner path after (length records + 1)) slot)
  unfolding entered_parent
  above_slot P Q slot edit id keeps at parent edits told =
      let other : slot.path ≡ path → ⊥ = λ same. no_own_parent path (parent ∙ ap Some same) in
      record {
        last = told.last ∙ sym (ap (λ o. unwrap_or o 0) (last_more owner records rec path after names stands slot.path ∙ ap (λ b. cond b (Some (length records + 1)) (last_change records slot.path)) (path_apart slot.path path other)));
        children = edit_paths Q edit id path slot.children (children (tree_of records) slot.path) (children (tree_of (records ++ rec ∷ [])) slot.path) (paths_kept P Q slot.children (children (tree_of records) slot.path) keeps told.children) at edits;
        access = above_access slot.path slot.access parent told.access;
        group = same_group slot.path slot.group (group_other owner records rec path after names stands slot.path other) told.group;
      }

  -- ---- all slots, where each path has one already

  module _ (paths : List PathName) (mid : List Known) (linked : AreLinked owner paths mid) (told : (i : ℕ) (slot : Known) → slice_get mid i ≡ Some slot → IsSlotOf owner records (path_in mid) slot)
      (id : ℕ) (at : path_in mid id ≡ Some path) where
    abbrev own : Known → Known
    own = entered_own (length records + 1) (group_change owner path after (length records + 1))

    own_links : KeepsLinks own
    own_links = own_keeps (length records + 1) (group_change owner path after (length records + 1))

    there_is : (j : ℕ) (slot : Known) → slice_get mid j ≡ Some slot → slot.path ≡ path → id ≡ j
    there_is j slot is same = linked.alone id j path at (path_there mid j slot is ∙ ap Some same)

    -- of a root
    pub slots_root : parent_of path ≡ None → (j : ℕ) (slot : Known) → slice_get (changed_at id own mid) j ≡ Some slot → IsSlotOf owner (records ++ rec ∷ []) (path_in (changed_at id own mid)) slot
    slots_root root j slot is = go (was_at owner paths mid linked id own j slot is)
      where
        keeps : (i : ℕ) (p : PathName) → path_in mid i ≡ Some p → path_in (changed_at id own mid) i ≡ Some p
        keeps i p h = path-changed id own mid own_links.path i ∙ h

        go : WasAt owner paths mid linked id own j slot → IsSlotOf owner (records ++ rec ∷ []) (path_in (changed_at id own mid)) slot
        go was = elim was.is [
          | inl (here, eq) ↦ subst (IsSlotOf owner (records ++ rec ∷ []) (path_in (changed_at id own mid))) eq
              (own_slot (path_in mid) (path_in (changed_at id own mid)) was.was keeps (some_same was.was.path path (sym (path_there mid j was.was was.there) ∙ ap (path_in mid) (sym here) ∙ at)) (told j was.was was.there))
          | inr (apart, eq) ↦ subst (IsSlotOf owner (records ++ rec ∷ []) (path_in (changed_at id own mid))) eq
              (other_slot (path_in mid) (path_in (changed_at id own mid)) was.was keeps (λ same. apart (there_is j was.was was.there same)) (λ parent. some_none was.was.path (sym parent ∙ root)) (told j was.was was.there))
        ]

    module _ (dir : PathName) (parent : parent_of path ≡ Some dir) (pid : ℕ) (above : path_in mid pid ≡ Some dir) (edit : Edit)
        (edits : IsEditTo edit id path (children (tree_of records) dir) (children (tree_of (records ++ rec ∷ [])) dir)) where
      abbrev up : Known → Known
      up = entered_parent Same edit (access_change owner path after (length records + 1))

      up_links : KeepsLinks up
      up_links = above_keeps edit (access_change owner path after (length records + 1))

      apart_ids : pid ≡ id → ⊥
      apart_ids same = no_own_parent path (parent ∙ ap Some (some_same dir path (sym above ∙ ap (path_in mid) same ∙ at)))

      pub linked_up : AreLinked owner paths (changed_at pid up mid)
      linked_up = linked_changed owner paths mid linked pid up up_links

      pub linked_final : AreLinked owner paths (changed_at id own (changed_at pid up mid))
      linked_final = linked_changed owner paths (changed_at pid up mid) linked_up id own own_links

      -- of a path in a directory
      pub slots_below : (j : ℕ) (slot : Known) → slice_get (changed_at id own (changed_at pid up mid)) j ≡ Some slot → IsSlotOf owner (records ++ rec ∷ []) (path_in (changed_at id own (changed_at pid up mid))) slot
      slots_below j slot is = outer (was_at owner paths (changed_at pid up mid) linked_up id own j slot is)
        where
          final : List Known
          final = changed_at id own (changed_at pid up mid)

          keeps : (i : ℕ) (p : PathName) → path_in mid i ≡ Some p → path_in (changed_at id own (changed_at pid up mid)) i ≡ Some p
          keeps i p h = path-changed id own (changed_at pid up mid) own_links.path i ∙ path-changed pid up mid up_links.path i ∙ h

          fits : Known → Type 0
          fits s = IsSlotOf owner (records ++ rec ∷ []) (path_in (changed_at id own (changed_at pid up mid))) s

          here : (was : Known) → id ≡ j → WasAt owner paths mid linked pid up j was → IsSlotOf owner (records ++ rec ∷ []) (path_in (changed_at id own (changed_at pid up mid))) (own was)
          here was same inner = elim inner.is [
            | inl (p_here, eq) ↦ absurd (apart_ids (p_here ∙ sym same))
            | inr (apart, eq) ↦ subst (λ s. IsSlotOf owner (records ++ rec ∷ []) (path_in (changed_at id own (changed_at pid up mid))) (own s)) eq
                (own_slot (path_in mid) (path_in (changed_at id own (changed_at pid up mid))) inner.was keeps (some_same inner.was.path path (sym (path_there mid j inner.was inner.there) ∙ ap (path_in mid) (sym same) ∙ at)) (told j inner.was inner.there))
          ]

          there : (was : Known) → (id ≡ j → ⊥) → WasAt owner paths mid linked pid up j was → IsSlotOf owner (records ++ rec ∷ []) (path_in (changed_at id own (changed_at pid up mid))) was
          there was apart inner = elim inner.is [
            | inl (p_here, eq) ↦
                let same : inner.was.path ≡ dir = some_same inner.was.path dir (sym (path_there mid j inner.was inner.there) ∙ ap (path_in mid) (sym p_here) ∙ above) in
                subst (IsSlotOf owner (records ++ rec ∷ []) (path_in (changed_at id own (changed_at pid up mid)))) eq
                (above_slot (path_in mid) (path_in (changed_at id own (changed_at pid up mid))) inner.was edit id keeps (keeps id path at) (parent ∙ ap Some (sym same))
                (subst (λ d. IsEditTo edit id path (children (tree_of records) d) (children (tree_of (records ++ rec ∷ [])) d)) (sym same) edits) (told j inner.was inner.there))
            | inr (p_apart, eq) ↦ subst (IsSlotOf owner (records ++ rec ∷ []) (path_in (changed_at id own (changed_at pid up mid)))) eq
                (other_slot (path_in mid) (path_in (changed_at id own (changed_at pid up mid))) inner.was keeps (λ same. apart (there_is j inner.was inner.there same))
                (λ mine. p_apart (linked.alone pid j dir above (path_there mid j inner.was inner.there ∙ ap Some (some_same inner.was.path dir (sym mine ∙ parent))))) (told j inner.was inner.there))
          ]

          outer : WasAt owner paths (changed_at pid up mid) linked_up id own j slot → IsSlotOf owner (records ++ rec ∷ []) (path_in (changed_at id own (changed_at pid up mid))) slot
          outer was = elim was.is [
            | inl (same, eq) ↦ subst (IsSlotOf owner (records ++ rec ∷ []) (path_in (changed_at id own (changed_at pid up mid)))) eq (here was.was same (was_at owner paths mid linked pid up j was.was was.there))
            | inr (apart, eq) ↦ subst (IsSlotOf owner (records ++ rec ∷ []) (path_in (changed_at id own (changed_at pid up mid)))) eq (there was.was apart (was_at owner paths mid linked pid up j was.was was.there))
          ]
