-- The slots after a record's step are those of the longer log.
use Rattle.std.proofs.Common.{◌≡◌, ℕ, zero, suc, ◌+◌, ◌<◌, true, false, cond, List, [], ◌∷◌, ◌++◌, length, map, take, drop, refl, sym, ap, subst, ◌∙◌, inl, inr, arith, Option, Some, None}
use Rattle.std.specs.Prelude.{MatchOption, slice_get}
use Rattle.std.specs.List.{filter}
use Rattle.std.specs.Option.{option_map}
use Rattle.std.proofs.lemmas.List.{length-append, length-drop, length-take-le}
use Rattle.up_names.specs.PathNames.{PathName, parent_of}
use Rattle.up_names.specs.PathOrder.{path_eq}
use Rattle.up_access.specs.declared.Rule.{Rule}
use Rattle.up_entry.specs.declared.records.Rec.{Rec}
use Rattle.up_mem_tree.specs.declared.edits.Edit.{Edit}
use Rattle.up_mem_tree.specs.declared.edits.Edit.TheVariants.{Same, Added, Removed}
use Rattle.up_mem_tree.specs.declared.history.Change.{Change}
use Rattle.up_mem_tree.specs.declared.steps.Own.{Own}
use Rattle.up_mem_tree.specs.declared.steps.Own.TheVariants.{There, New}
use Rattle.up_mem_tree.specs.declared.steps.ParentStep.{ParentStep}
use Rattle.up_mem_tree.specs.declared.steps.Step.{Step}
use Rattle.up_log_tree.specs.Changes.{path_of_change}
use Rattle.up_mem_tree.specs.Edits.{changed_at, entered_own, entered_parent}
use Rattle.up_log_tree.specs.Fits.{AreFitting}
use Rattle.up_log_tree.specs.Orders.{has_path as has, with_path}
use Rattle.up_mem_tree.specs.Slots.{AreLinked, AreSlotsOf, Known, named_paths, path_in}
use Rattle.up_mem_tree.specs.Steps.{IsAboveOf, IsEditTo, IsOwnOf, IsStepOf, access_change, fresh_slot, group_change, own_id, stepped, stepped_above, stepped_own}
use Rattle.up_log_tree.specs.Trees.{Tree, after_record, children, is_parent, node_at, tree_of}
use Rattle.up_log_tree.specs.declared.node.Node.{Node}
use Rattle.up_mem_tree.proofs.Entered.{linked_final, own_keeps, slots_below, slots_root}
use Rattle.up_mem_tree.proofs.Grown.{IsAsBefore, at_end, linked_grown, told_grown}
use Rattle.up_mem_tree.proofs.Links.{WasAt, changed-front, changed-last, changed-twice, edit_paths, length-changed, linked_changed, path-changed, path-front, path-last, paths_kept, was_at}
use Rattle.up_mem_tree.proofs.Named.{closed_named}
use Rattle.up_log_tree.proofs.Paths.{parent_fails, some_none, some_same}
use Rattle.up_mem_tree.proofs.RecordChanges.{named_more}
use Rattle.up_log_tree.proofs.Rising.{filter-with, with_there}
use Rattle.up_mem_tree.proofs.Walks.{id_within, path_there}

-- ---- small facts

changed_alike : (i : ℕ) (f g : Known → Known) (slots : List Known) → ((slot : Known) → f slot ≡ g slot) → changed_at i f slots ≡ changed_at i g slots
changed_alike i f g [] same = refl
changed_alike zero f g (slot ∷ slots) same = ap (λ s. s ∷ slots) (same slot)
changed_alike (suc i) f g (slot ∷ slots) same = ap (λ l. slot ∷ l) (changed_alike i f g slots same)

in_two : (named children : Edit) (access : Option (Change (List Rule))) (slot : Known) → entered_parent named children access slot ≡ entered_parent Same children access (entered_parent named Same None slot)
unfolding entered_parent
in_two named children access slot = refl

-- an edit that leaves the paths is none
unedited : (edit : Edit) (id : ℕ) (path : PathName) (paths : List PathName) → IsEditTo edit id path paths paths → edit ≡ Same
unedited Same id path paths is = refl
unedited (Added place added) id path paths is =
    let longer : length paths ≡ length (take place paths) + (length (drop place paths) + 1) = ap length is.2 ∙ length-append (take place paths) (path ∷ drop place paths) ∙ (let e : length (take place paths) + suc (length (drop place paths)) ≡ length (take place paths) + (length (drop place paths) + 1) = omega arith in e) in
    absurd (omega (arith, longer, length-take-le place paths is.1, length-drop place paths, is.1))
unedited (Removed place) id path paths is =
    let shorter : length paths ≡ length (take place paths) + length (drop (suc place) paths) = ap length is.1 ∙ length-append (take place paths) (drop (suc place) paths) in
    absurd (omega (arith, shorter, length-take-le place paths (omega (arith, is.0)), length-drop (suc place) paths, is.0))

module _ (owner : List ℕ) (records : List Rec) (rec : Rec) (path : PathName) (after : Option Node) (names : path_of_change rec ≡ Some path)
    (stands : (tree : Tree) (q : PathName) → node_at (after_record tree rec) q ≡ cond (path_eq q path) after (node_at tree q))
    (fitting : AreFitting owner records) (longer : AreFitting owner (records ++ rec ∷ [])) (slots : List Known) (kept : AreSlotsOf owner records slots) where
  paths : List PathName
  paths = named_paths records

  abbrev own : Known → Known
  own = entered_own (length records + 1) (group_change owner path after (length records + 1))

  abbrev up : Edit → Known → Known
  up edit = entered_parent Same edit (access_change owner path after (length records + 1))

  more : with_path path (named_paths records) ≡ named_paths (records ++ rec ∷ [])
  more = sym (named_more owner records rec path after names stands)

  closed : (p : PathName) → has (with_path path (named_paths records)) p ≡ true → MatchOption (parent_of p) (p.owner ≡ owner) (λ dir. has (with_path path (named_paths records)) dir ≡ true)
  closed p named = subst (λ ps. MatchOption (parent_of p) (p.owner ≡ owner) (λ dir. has ps dir ≡ true)) (sym more) (closed_named owner (records ++ rec ∷ []) longer p (subst (λ ps. has ps p ≡ true) more named))

  -- ---- of a path that has a slot

  there_paths : (id : ℕ) → path_in slots id ≡ Some path → named_paths records ≡ named_paths (records ++ rec ∷ [])
  there_paths id at = sym (with_there path (named_paths records) kept.linked.rising (kept.linked.only id path at)) ∙ more

  root_there : (id : ℕ) → path_in slots id ≡ Some path → parent_of path ≡ None → AreSlotsOf owner (records ++ rec ∷ []) (changed_at id own slots)
  root_there id at root = record {
    linked = subst (λ ps. AreLinked owner ps (changed_at id own slots)) (there_paths id at) (linked_changed owner (named_paths records) slots kept.linked id own (own_keeps (length records + 1) (group_change owner path after (length records + 1))));
    told = slots_root owner records rec path after names stands (named_paths records) slots kept.linked kept.told id at root;
  }

  below_there : (id : ℕ) → path_in slots id ≡ Some path → (dir : PathName) → parent_of path ≡ Some dir → (pid : ℕ) → path_in slots pid ≡ Some dir → (edit : Edit)
      → IsEditTo edit id path (children (tree_of records) dir) (children (tree_of (records ++ rec ∷ [])) dir) → AreSlotsOf owner (records ++ rec ∷ []) (changed_at id own (changed_at pid (up edit) slots))
  below_there id at dir parent pid above edit edits = record {
    linked = subst (λ ps. AreLinked owner ps (changed_at id own (changed_at pid (up edit) slots))) (there_paths id at)
        (linked_final owner records rec path after names stands (named_paths records) slots kept.linked kept.told id at dir parent pid above edit edits);
    told = slots_below owner records rec path after names stands (named_paths records) slots kept.linked kept.told id at dir parent pid above edit edits;
  }

  -- ---- of a path that has none yet

  module _ (unnamed : has (named_paths records) path ≡ false) where
    not_up : (old : Known) → (parent_of path ≡ Some old.path → ⊥) → filter (is_parent old.path) (with_path path (named_paths records)) ≡ filter (is_parent old.path) (named_paths records)
    not_up old apart = filter-with (is_parent old.path) path (named_paths records) kept.linked.rising ∙ ap (λ b. cond b (with_path path (filter (is_parent old.path) (named_paths records))) (filter (is_parent old.path) (named_paths records))) (parent_fails old.path path apart)

    -- a root
    root_was : parent_of path ≡ None → (j : ℕ) (slot : Known) → slice_get slots j ≡ Some slot → (old : Known) × (slice_get slots j ≡ Some old) × IsAsBefore (path_in (slots ++ fresh_slot path None ∷ [])) (with_path path (named_paths records)) old slot
    root_was root j slot is = (
      slot,
      is,
      record {
        path = refl;
        last = refl;
        parent = refl;
        children = refl;
        access = refl;
        group = refl;
        named = paths_kept (path_in slots) (path_in (slots ++ fresh_slot path None ∷ [])) slot.named (filter (is_parent slot.path) (named_paths records)) (λ i p h. path-front slots (fresh_slot path None) i p h) (kept.linked.named j slot is)
            ∙ ap (map Some) (sym (not_up slot (λ up. some_none slot.path (sym up ∙ root))));
      },
    )

    root_new : parent_of path ≡ None → AreSlotsOf owner (records ++ rec ∷ []) (slots ++ own (fresh_slot path None) ∷ [])
    root_new root =
        let above : option_map (path_in slots) None ≡ option_map Some (parent_of path) = ap (option_map Some) (sym root) in
        let mid = slots ++ fresh_slot path None ∷ [] in
        let linked : AreLinked owner (with_path path (named_paths records)) mid = linked_grown owner (named_paths records) slots kept.linked path unnamed None above closed slots refl (λ j. refl) (root_was root) in
        let told = told_grown owner (named_paths records) slots kept.linked path unnamed None above closed slots refl (λ j. refl) (root_was root) records fitting refl kept.told in
        let at : path_in mid (length slots) ≡ Some path = at_end owner (named_paths records) slots kept.linked path unnamed None above closed slots refl (λ j. refl) (root_was root) in
        subst (AreSlotsOf owner (records ++ rec ∷ [])) (changed-last own slots (fresh_slot path None)) (record {
          linked = subst (λ ps. AreLinked owner ps (changed_at (length slots) own mid)) more (linked_changed owner (with_path path (named_paths records)) mid linked (length slots) own (own_keeps (length records + 1) (group_change owner path after (length records + 1))));
          told = slots_root owner records rec path after names stands (with_path path (named_paths records)) mid linked told (length slots) at root;
        })

    -- in a directory
    module _ (dir : PathName) (parent : parent_of path ≡ Some dir) (pid : ℕ) (at_dir : path_in slots pid ≡ Some dir) (named : Edit)
        (naming : IsEditTo named (length slots) path (filter (is_parent dir) (named_paths records)) (filter (is_parent dir) (with_path path (named_paths records)))) where
      abbrev naming_edit : Known → Known
      naming_edit = entered_parent named Same None

      mids : List Known
      mids = changed_at pid naming_edit slots

      naming_path : (slot : Known) → (naming_edit slot).path ≡ slot.path
      unfolding entered_parent
      naming_path slot = refl

      above : option_map (path_in slots) (Some pid) ≡ option_map Some (parent_of path)
      above = ap Some at_dir ∙ ap (option_map Some) (sym parent)

      same_paths : (j : ℕ) → path_in (changed_at pid naming_edit slots) j ≡ path_in slots j
      same_paths j = path-changed pid naming_edit slots naming_path j

      long : length (changed_at pid naming_edit slots) ≡ length slots
      long = length-changed pid naming_edit slots

      keeping : (i : ℕ) (p : PathName) → path_in slots i ≡ Some p → path_in (changed_at pid naming_edit slots ++ fresh_slot path (Some pid) ∷ []) i ≡ Some p
      keeping i p h = path-front (changed_at pid naming_edit slots) (fresh_slot path (Some pid)) i p (same_paths i ∙ h)

      ending : path_in (changed_at pid naming_edit slots ++ fresh_slot path (Some pid) ∷ []) (length slots) ≡ Some path
      ending = subst (λ n. path_in (changed_at pid naming_edit slots ++ fresh_slot path (Some pid) ∷ []) n ≡ Some path) long (path-last (changed_at pid naming_edit slots) (fresh_slot path (Some pid)))

      was_edited : (j : ℕ) (old : Known) → slice_get slots j ≡ Some old → pid ≡ j → IsAsBefore (path_in (changed_at pid naming_edit slots ++ fresh_slot path (Some pid) ∷ [])) (with_path path (named_paths records)) old (naming_edit old)
      unfolding entered_parent
      was_edited j old is same =
          let here : old.path ≡ dir = some_same old.path dir (sym (path_there slots j old is) ∙ ap (path_in slots) (sym same) ∙ at_dir) in
          record {
            path = refl;
            last = refl;
            parent = refl;
            children = refl;
            access = refl;
            group = refl;
            named = edit_paths (path_in (changed_at pid naming_edit slots ++ fresh_slot path (Some pid) ∷ [])) named (length slots) path old.named (filter (is_parent old.path) (named_paths records)) (filter (is_parent old.path) (with_path path (named_paths records)))
                (paths_kept (path_in slots) (path_in (changed_at pid naming_edit slots ++ fresh_slot path (Some pid) ∷ [])) old.named (filter (is_parent old.path) (named_paths records)) keeping (kept.linked.named j old is))
                ending (subst (λ d. IsEditTo named (length slots) path (filter (is_parent d) (named_paths records)) (filter (is_parent d) (with_path path (named_paths records)))) (sym here) naming);
          }

      was_same : (j : ℕ) (old : Known) → slice_get slots j ≡ Some old → (pid ≡ j → ⊥) → IsAsBefore (path_in (changed_at pid naming_edit slots ++ fresh_slot path (Some pid) ∷ [])) (with_path path (named_paths records)) old old
      was_same j old is apart = record {
        path = refl;
        last = refl;
        parent = refl;
        children = refl;
        access = refl;
        group = refl;
        named = paths_kept (path_in slots) (path_in (changed_at pid naming_edit slots ++ fresh_slot path (Some pid) ∷ [])) old.named (filter (is_parent old.path) (named_paths records)) keeping (kept.linked.named j old is)
            ∙ ap (map Some) (sym (not_up old (λ mine. apart (kept.linked.alone pid j dir at_dir (path_there slots j old is ∙ ap Some (some_same old.path dir (sym mine ∙ parent)))))));
      }

      below_was : (j : ℕ) (slot : Known) → slice_get (changed_at pid naming_edit slots) j ≡ Some slot
          → (old : Known) × (slice_get slots j ≡ Some old) × IsAsBefore (path_in (changed_at pid naming_edit slots ++ fresh_slot path (Some pid) ∷ [])) (with_path path (named_paths records)) old slot
      below_was j slot is = go (was_at owner (named_paths records) slots kept.linked pid naming_edit j slot is)
        where
          go : WasAt owner (named_paths records) slots kept.linked pid naming_edit j slot
              → (old : Known) × (slice_get slots j ≡ Some old) × IsAsBefore (path_in (changed_at pid naming_edit slots ++ fresh_slot path (Some pid) ∷ [])) (with_path path (named_paths records)) old slot
          go w = (
            w.was,
            w.there,
            elim w.is [
              | inl (same, eq) ↦ subst (IsAsBefore (path_in (changed_at pid naming_edit slots ++ fresh_slot path (Some pid) ∷ [])) (with_path path (named_paths records)) w.was) eq (was_edited j w.was w.there same)
              | inr (apart, eq) ↦ subst (IsAsBefore (path_in (changed_at pid naming_edit slots ++ fresh_slot path (Some pid) ∷ [])) (with_path path (named_paths records)) w.was) eq (was_same j w.was w.there apart)
            ],
          )

      below_new : (edit : Edit) → IsEditTo edit (length slots) path (children (tree_of records) dir) (children (tree_of (records ++ rec ∷ [])) dir)
          → AreSlotsOf owner (records ++ rec ∷ []) (changed_at pid (entered_parent named edit (access_change owner path after (length records + 1))) slots ++ own (fresh_slot path (Some pid)) ∷ [])
      below_new edit edits =
          let mid = changed_at pid naming_edit slots ++ fresh_slot path (Some pid) ∷ [] in
          let linked : AreLinked owner (with_path path (named_paths records)) mid = linked_grown owner (named_paths records) slots kept.linked path unnamed (Some pid) above closed (changed_at pid naming_edit slots) long same_paths below_was in
          let told = told_grown owner (named_paths records) slots kept.linked path unnamed (Some pid) above closed (changed_at pid naming_edit slots) long same_paths below_was records fitting refl kept.told in
          let within : pid < length (changed_at pid naming_edit slots) = (let lt : pid < length slots = id_within slots pid dir at_dir in omega (arith, lt, long)) in
          let shape : changed_at (length slots) own (changed_at pid (up edit) mid) ≡ changed_at pid (entered_parent named edit (access_change owner path after (length records + 1))) slots ++ own (fresh_slot path (Some pid)) ∷ [] =
          ap (changed_at (length slots) own) (changed-front pid (up edit) (changed_at pid naming_edit slots) (fresh_slot path (Some pid) ∷ []) within
          ∙ ap (λ l. l ++ fresh_slot path (Some pid) ∷ []) (changed-twice pid naming_edit (up edit) slots ∙ changed_alike pid (λ s. up edit (naming_edit s)) (entered_parent named edit (access_change owner path after (length records + 1))) slots (λ s. sym (in_two named edit (access_change owner path after (length records + 1)) s))))
          ∙ ap (λ n. changed_at n own (changed_at pid (entered_parent named edit (access_change owner path after (length records + 1))) slots ++ fresh_slot path (Some pid) ∷ [])) (sym (length-changed pid (entered_parent named edit (access_change owner path after (length records + 1))) slots))
          ∙ changed-last own (changed_at pid (entered_parent named edit (access_change owner path after (length records + 1))) slots) (fresh_slot path (Some pid)) in
          subst (AreSlotsOf owner (records ++ rec ∷ [])) shape (record {
            linked = subst (λ ps. AreLinked owner ps (changed_at (length slots) own (changed_at pid (up edit) mid))) more
                (linked_final owner records rec path after names stands (with_path path (named_paths records)) mid linked told (length slots) ending dir parent pid (keeping pid dir at_dir) edit edits);
            told = slots_below owner records rec path after names stands (with_path path (named_paths records)) mid linked told (length slots) ending dir parent pid (keeping pid dir at_dir) edit edits;
          })

  -- ---- whatever the step

  by_parts : (o : Own) (d : Option PathName) → parent_of path ≡ d → (p : Option ParentStep) → IsOwnOf (named_paths records) slots path (option_map (λ (parent : ParentStep). parent.id) p) o
      → MatchOption d (p ≡ None) (λ dir. MatchOption p ⊥ (IsAboveOf owner records rec path after (named_paths records) slots (own_id slots o) dir))
      → AreSlotsOf owner (records ++ rec ∷ []) (stepped_own o (length records + 1) (group_change owner path after (length records + 1)) (stepped_above p slots))
  unfolding stepped_own stepped_above
  by_parts (There id) None root None own_is over = root_there id own_is root
  by_parts (There id) None root (Some p) own_is over = absurd (some_none p over)
  by_parts (There id) (Some dir) up_is None own_is over = absurd over
  by_parts (There id) (Some dir) up_is (Some p) own_is over =
      let known_there : has (named_paths records) path ≡ true = kept.linked.only id path own_is in
      let same : p.named ≡ Same = unedited p.named id path (filter (is_parent dir) (named_paths records))
      (subst (λ ps. IsEditTo p.named id path (filter (is_parent dir) (named_paths records)) (filter (is_parent dir) ps)) (with_there path (named_paths records) kept.linked.rising known_there) over.named) in
      subst (λ access. AreSlotsOf owner (records ++ rec ∷ []) (changed_at id own (changed_at p.id (entered_parent p.named p.children access) slots))) (sym over.texts)
      (subst (λ edit. AreSlotsOf owner (records ++ rec ∷ []) (changed_at id own (changed_at p.id (entered_parent edit p.children (access_change owner path after (length records + 1))) slots))) (sym same)
      (below_there id own_is dir up_is p.id over.at p.children over.children))
  by_parts (New slot) None root None own_is over =
      subst (λ s. AreSlotsOf owner (records ++ rec ∷ []) (slots ++ own s ∷ [])) (sym own_is.1) (root_new own_is.0 root)
  by_parts (New slot) None root (Some p) own_is over = absurd (some_none p over)
  by_parts (New slot) (Some dir) up_is None own_is over = absurd over
  by_parts (New slot) (Some dir) up_is (Some p) own_is over =
      subst (λ s. AreSlotsOf owner (records ++ rec ∷ []) (changed_at p.id (entered_parent p.named p.children p.access) slots ++ own s ∷ [])) (sym own_is.1)
      (subst (λ access. AreSlotsOf owner (records ++ rec ∷ []) (changed_at p.id (entered_parent p.named p.children access) slots ++ own (fresh_slot path (Some p.id)) ∷ [])) (sym over.texts)
      (below_new own_is.0 dir up_is p.id over.at p.named over.named p.children over.children))

  pub stepped_slots : (step : Step) → IsStepOf owner records rec path after (named_paths records) slots step → AreSlotsOf owner (records ++ rec ∷ []) (stepped step slots)
  stepped_slots step is =
      subst (λ group. AreSlotsOf owner (records ++ rec ∷ []) (stepped_own step.own step.position group (stepped_above step.parent slots))) (sym is.group)
      (subst (λ position. AreSlotsOf owner (records ++ rec ∷ []) (stepped_own step.own position (group_change owner path after (length records + 1)) (stepped_above step.parent slots))) (sym is.position)
      (by_parts step.own (parent_of path) refl step.parent is.own is.above))
