-- A step of what is kept: room can be made for it, and what it makes is what the longer log gives.
use Rattle.std.proofs.Common.{◌≡◌, ℕ, List, [], ◌∷◌, ◌++◌, length, get_or, refl, sym, ap, subst, ◌∙◌, arith, cond, Option, Some, None}
use Rattle.std.specs.Prelude.{IfSome, MatchOption, slice_get, unwrap_or}
use Rattle.std.specs.List.{filter}
use Rattle.std.specs.Option.{option_and_then, option_map}
use Rattle.std.proofs.lemmas.Option.{get_or_from_slice_get}
use Rattle.up_names.specs.PathNames.{PathName, parent_of}
use Rattle.up_names.specs.PathOrder.{path_eq}
use Rattle.up_entry.specs.declared.records.Rec.{Rec}
use Rattle.up_entry.specs.declared.records.Rec.TheVariants.{Put, Delete, Snap}
use Rattle.up_mem_tree.specs.declared.edits.Edit.{Edit}
use Rattle.up_mem_tree.specs.declared.edits.Edit.TheVariants.{Same, Added, Removed}
use Rattle.up_mem_tree.specs.declared.kept.Kept.{Kept}
use Rattle.up_mem_tree.specs.declared.slots.Slot.{Slot}
use Rattle.up_mem_tree.specs.declared.steps.Own.{Own}
use Rattle.up_mem_tree.specs.declared.steps.Own.TheVariants.{There, New}
use Rattle.up_mem_tree.specs.declared.steps.ParentStep.{ParentStep}
use Rattle.up_mem_tree.specs.declared.steps.Step.{Step}
use Rattle.up_log_tree.specs.Changes.{last_change, path_of_change}
use Rattle.up_mem_tree.specs.Edits.{IsWithin}
use Rattle.up_log_tree.specs.Fits.{Fits, IsLog}
use Rattle.up_mem_tree.specs.Kept.{IsEnteredBy, IsSameKept, IsStepFor, IsStepIn, Stands, befores_of, paths_of, slots_of}
use Rattle.up_mem_tree.specs.Slots.{AreLinked, AreSlotsOf, IsSlotOf, Known, known_all, named_paths, path_in}
use Rattle.up_log_tree.specs.Snapshots.{snapshots_of}
use Rattle.up_mem_tree.specs.Steps.{HasOwnRoom, IsAboveOf, IsApart, IsEditTo, IsInRange, IsOwnOf, IsParentWithin, IsStepOf, last_before, own_id, stepped}
use Rattle.up_log_tree.specs.Trees.{Tree, after_record, children, is_parent, node_at, tree_of}
use Rattle.up_log_tree.specs.declared.node.Node.{Node}
use Rattle.up_mem_tree.proofs.Aboves.{children_in, named_in}
use Rattle.up_mem_tree.proofs.Entered.{no_own_parent}
use Rattle.up_log_tree.proofs.Paths.{some_none, some_same}
use Rattle.up_mem_tree.proofs.Pushed.{befores_more, fitting_more, last_told, log_more, snapshots_same}
use Rattle.up_mem_tree.proofs.RecordChanges.{delete_stands, put_stands}
use Rattle.up_mem_tree.proofs.Siblings.{same_length}
use Rattle.up_mem_tree.proofs.SlotLemmas.{path_of_slot, slot_within}
use Rattle.up_mem_tree.proofs.Stepped.{stepped_slots}

-- ---- what a step is of

pub record IsStepAt (kept : Kept) (rec : Rec) (step : Step) : Type 0 where
  pub path : PathName
  pub after : Option Node
  pub names : path_of_change rec ≡ Some path
  pub stands : (tree : Tree) (q : PathName) → node_at (after_record tree rec) q ≡ cond (path_eq q path) after (node_at tree q)
  pub step_in : IsStepIn kept rec path after step

pub step_at : (kept : Kept) (rec : Rec) (step : Step) → IsStepFor kept rec (Some step) → IsStepAt kept rec step
step_at kept (Put entry text) step is = record { path = entry.name; after = Some (record { entry = entry; text = text }); names = refl; stands = put_stands entry text; step_in = is }
step_at kept (Delete gone) step is = record { path = gone; after = None; names = refl; stands = delete_stands gone; step_in = is }
step_at kept (Snap time) step is = absurd (some_none step is)

-- ---- room can be made

edit_within : (edit : Edit) (id : ℕ) (path : PathName) (ids : List ℕ) (now after : List PathName) → length ids ≡ length now → IsEditTo edit id path now after → IsWithin ids edit
edit_within Same id path ids now after same is = tt
edit_within (Added place added) id path ids now after same is = omega (arith, same, is.1)
edit_within (Removed place) id path ids now after same is = omega (arith, same, is.0)

slot_at : (slots : List Slot) (id : ℕ) (path : PathName) → path_in (known_all slots) id ≡ Some path → (slot : Slot) × (slice_get slots id ≡ Some slot)
slot_at slots id path is = go (slice_get slots id) refl
  where
    go : (o : Option Slot) → slice_get slots id ≡ o → (slot : Slot) × (slice_get slots id ≡ Some slot)
    go None none = absurd (some_none path (sym is ∙ path_of_slot slots id ∙ ap (option_map (λ (slot : Slot). slot.path)) none))
    go (Some slot) there = (slot, there)

module _ (kept : Kept) (stands : Stands kept) (rec : Rec) (path : PathName) (after : Option Node) (step : Step) where
  one_within : (dir : PathName) (own : ℕ) (parent : ParentStep) → IsAboveOf kept.owner kept.log.items rec path after (paths_of kept) (slots_of kept) own dir parent → IsParentWithin kept.slots.items parent
  one_within dir own parent above =
      let there = slot_at kept.slots.items parent.id dir above.at in
      let read : there.0 ≡ get_or kept.slots.items parent.id there.0 = sym (get_or_from_slice_get kept.slots.items parent.id there.0 there.0 there.1) in
      let named = named_in kept stands dir parent.id there.0 above.at read in
      let below = children_in kept stands dir parent.id there.0 above.at read in (
        there.0,
        there.1,
        edit_within parent.named own path there.0.named.items (filter (is_parent dir) (paths_of kept)) _ (same_length (slots_of kept) dir there.0.named.items (filter (is_parent dir) (paths_of kept)) named) above.named,
        edit_within parent.children own path there.0.children.items (children (tree_of kept.log.items) dir) _ (same_length (slots_of kept) dir there.0.children.items (children (tree_of kept.log.items) dir) below) above.children,
      )

  within_by : (d : Option PathName) (own : ℕ) (parent : Option ParentStep) → MatchOption d (parent ≡ None) (λ dir. MatchOption parent ⊥ (IsAboveOf kept.owner kept.log.items rec path after (paths_of kept) (slots_of kept) own dir)) → IfSome parent (IsParentWithin kept.slots.items)
  within_by d own None is = tt
  within_by None own (Some parent) is = absurd (some_none parent is)
  within_by (Some dir) own (Some parent) is = one_within dir own parent is

  apart_by : (d : Option PathName) → parent_of path ≡ d → (o : Own) (parent : Option ParentStep) (id : Option ℕ) → IsOwnOf (paths_of kept) (slots_of kept) path id o
      → MatchOption d (parent ≡ None) (λ dir. MatchOption parent ⊥ (IsAboveOf kept.owner kept.log.items rec path after (paths_of kept) (slots_of kept) (own_id (slots_of kept) o) dir)) → IfSome parent (λ p. IsApart o p.id)
  apart_by d up o None id own is = tt
  apart_by None up o (Some parent) id own is = absurd (some_none parent is)
  apart_by (Some dir) up (There at) (Some parent) id own is = λ same.
      no_own_parent path (up ∙ ap Some (some_same dir path (sym is.at ∙ ap (path_in (slots_of kept)) same ∙ own)))
  apart_by (Some dir) up (New slot) (Some parent) id own is = tt

  range_by : (o : Own) (id : Option ℕ) → IsOwnOf (paths_of kept) (slots_of kept) path id o → IsInRange kept.slots.items o
  range_by (There at) id own = slot_within kept.slots.items at path own
  range_by (New slot) id own = tt

  module _ (is : IsStepOf kept.owner kept.log.items rec path after (paths_of kept) (slots_of kept) step) where
    pub within_of : IfSome step.parent (IsParentWithin kept.slots.items)
    within_of = within_by (parent_of path) (own_id (slots_of kept) step.own) step.parent is.above

    pub apart_of : IfSome step.parent (λ p. IsApart step.own p.id)
    apart_of = apart_by (parent_of path) refl step.own step.parent (option_map (λ (parent : ParentStep). parent.id) step.parent) is.own is.above

    pub range_of : IsInRange kept.slots.items step.own
    range_of = range_by step.own (option_map (λ (parent : ParentStep). parent.id) step.parent) is.own

module _ (kept : Kept) (stands : Stands kept) (rec : Rec) (step : Step) (is : IsStepFor kept rec (Some step)) where
  pub parent_within : IfSome step.parent (IsParentWithin kept.slots.items)
  parent_within = let at = step_at kept rec step is in within_of kept stands rec at.path at.after step at.step_in.0

  pub own_apart : IfSome step.parent (λ p. IsApart step.own p.id)
  own_apart = let at = step_at kept rec step is in apart_of kept stands rec at.path at.after step at.step_in.0

  pub own_in_range : IsInRange kept.slots.items step.own
  own_in_range = let at = step_at kept rec step is in range_of kept stands rec at.path at.after step at.step_in.0

  pub own_room : HasOwnRoom step.own step.group
  own_room = (step_at kept rec step is).step_in.1

  -- ---- what it makes

  module _ (fits : Fits kept.owner kept.log.items rec) where
    pub slots_after : AreSlotsOf kept.owner (kept.log.items ++ rec ∷ []) (stepped step (slots_of kept))
    slots_after =
        let at = step_at kept rec step is in
        stepped_slots kept.owner kept.log.items rec at.path at.after at.names at.stands stands.log.fitting (fitting_more kept.owner kept.log.items rec fits stands.log.fitting) (slots_of kept)
        (record { linked = stands.linked; told = stands.slots }) step at.step_in.0

    pub last_after : last_before step.own (slots_of kept) ≡ unwrap_or (option_and_then (last_change kept.log.items) (path_of_change rec)) 0
    last_after =
        let at = step_at kept rec step is in
        last_told kept.owner kept.log.items (slots_of kept) stands.slots at.path step.own (option_map (λ (parent : ParentStep). parent.id) step.parent) at.step_in.0.own
        ∙ sym (ap (λ o. unwrap_or (option_and_then (last_change kept.log.items) o) 0) at.names)

    pub snaps_after : kept.snaps.entries ≡ snapshots_of (kept.log.items ++ rec ∷ [])
    snaps_after = let at = step_at kept rec step is in stands.snaps ∙ sym (snapshots_same kept.log.items rec at.path at.names)

-- ---- what stays the same stands the same

pub step_in_same : (old new : Kept) → IsSameKept old new → (rec : Rec) (path : PathName) (after : Option Node) (step : Step) → IsStepIn old rec path after step → IsStepIn new rec path after step
step_in_same old new same rec path after step is = (
  subst (λ owner. IsStepOf owner new.log.items rec path after (named_paths new.log.items) (slots_of new) step) (sym same.owner)
      (subst (λ records. IsStepOf old.owner records rec path after (named_paths records) (slots_of new) step) (sym same.log)
      (subst (λ slots. IsStepOf old.owner old.log.items rec path after (named_paths old.log.items) slots step) (sym same.slots) is.0)),
  is.1,
)

pub step_same : (old new : Kept) → IsSameKept old new → (rec : Rec) (step : Option Step) → IsStepFor old rec step → IsStepFor new rec step
step_same old new same (Put entry text) None is = is
step_same old new same (Put entry text) (Some step) is = step_in_same old new same (Put entry text) entry.name (Some (record { entry = entry; text = text })) step is
step_same old new same (Delete gone) None is = is
step_same old new same (Delete gone) (Some step) is = step_in_same old new same (Delete gone) gone None step is
step_same old new same (Snap time) step is = is

pub same_stands : (old new : Kept) → IsSameKept old new → Stands old → Stands new
same_stands old new same stands = record {
  log = subst (λ owner. IsLog owner new.log.items) (sym same.owner) (subst (IsLog old.owner) (sym same.log) stands.log);
  linked = subst (λ owner. AreLinked owner (named_paths new.log.items) (slots_of new)) (sym same.owner)
      (subst (λ records. AreLinked old.owner (named_paths records) (slots_of new)) (sym same.log) (subst (AreLinked old.owner (named_paths old.log.items)) (sym same.slots) stands.linked));
  slots = subst (λ owner. (i : ℕ) (slot : Known) → slice_get (slots_of new) i ≡ Some slot → IsSlotOf owner new.log.items (path_in (slots_of new)) slot) (sym same.owner)
      (subst (λ records. (i : ℕ) (slot : Known) → slice_get (slots_of new) i ≡ Some slot → IsSlotOf old.owner records (path_in (slots_of new)) slot) (sym same.log)
      (subst (λ slots. (i : ℕ) (slot : Known) → slice_get slots i ≡ Some slot → IsSlotOf old.owner old.log.items (path_in slots) slot) (sym same.slots) stands.slots));
  before = same.before ∙ stands.before ∙ ap befores_of (sym same.log);
  snaps = same.snaps ∙ stands.snaps ∙ ap snapshots_of (sym same.log);
}

-- ---- what was entered stands

pub entered_stands : (old mid new : Kept) (rec : Rec) (before : ℕ) → Stands old → Fits old.owner old.log.items rec → IsEnteredBy old mid rec before → new.owner ≡ mid.owner → new.log.items ≡ mid.log.items ++ rec ∷ [] → new.before.items ≡ mid.before.items ++ before ∷ []
    → slots_of new ≡ slots_of mid → new.snaps.entries ≡ mid.snaps.entries → Stands new
entered_stands old mid new rec before stands fits entered is_owner is_log is_before is_slots is_snaps =
    let owner : new.owner ≡ old.owner = is_owner ∙ entered.owner in
    let log : new.log.items ≡ old.log.items ++ rec ∷ [] = is_log ∙ ap (λ log. log.items ++ rec ∷ []) entered.log in
    let are : AreSlotsOf new.owner new.log.items (slots_of new) =
    subst (λ o. AreSlotsOf o new.log.items (slots_of new)) (sym owner) (subst (λ l. AreSlotsOf old.owner l (slots_of new)) (sym log) (subst (AreSlotsOf old.owner (old.log.items ++ rec ∷ [])) (sym is_slots) entered.slots)) in
    record {
      log = subst (λ o. IsLog o new.log.items) (sym owner) (subst (IsLog old.owner) (sym log) (log_more old.owner old.log.items rec fits stands.log));
      linked = are.linked;
      slots = are.told;
      before = is_before ∙ ap (λ l. l.items ++ before ∷ []) entered.befores ∙ ap (λ l. l ++ before ∷ []) stands.before ∙ ap (λ b. befores_of old.log.items ++ b ∷ []) entered.last ∙ sym (befores_more old.log.items rec) ∙ ap befores_of (sym log);
      snaps = is_snaps ∙ entered.snaps ∙ ap snapshots_of (sym log);
    }
