-- Where the way up from a record's path begins, by its step: at the longest prefix that has a slot.
use Rattle.std.proofs.Common.{◌≡◌, ℕ, zero, suc, ◌-◌, ◌<◌, ◌≤◌, false, List, length, refl, sym, ap, subst, ◌∙◌, arith, Option, Some, None}
use Rattle.std.specs.Prelude.{IfSome, MatchOption}
use Rattle.std.specs.Option.{option_map}
use Rattle.up_names.specs.PathNames.{PathName, cut, parent_of}
use Rattle.up_entry.specs.declared.records.Rec.{Rec}
use Rattle.up_entry.specs.declared.records.Rec.TheVariants.{Put, Delete, Snap}
use Rattle.up_log_tree.specs.declared.node.Node.{Node}
use Rattle.up_log_tree.specs.Orders.{has_path}
use Rattle.up_log_tree.proofs.Paths.{cut_whole, parent_is, parent_none, some_none, some_same}
use Rattle.up_mem_tree.specs.declared.kept.Kept.{Kept}
use Rattle.up_mem_tree.specs.declared.steps.Own.{Own}
use Rattle.up_mem_tree.specs.declared.steps.Own.TheVariants.{There, New}
use Rattle.up_mem_tree.specs.declared.steps.ParentStep.{ParentStep}
use Rattle.up_mem_tree.specs.declared.steps.Step.{Step}
use Rattle.up_mem_tree.specs.Kept.{IsStepFor, paths_of, slots_of}
use Rattle.up_mem_tree.specs.Slots.{IsDeepest, Known, path_in}
use Rattle.up_mem_tree.specs.Starts.{IsStartOf, start_at, start_by, start_of}
use Rattle.up_mem_tree.specs.Steps.{IsAboveOf, IsOwnOf, own_id}
use Rattle.up_mem_tree.proofs.Within.{step_at}

found_at : (paths : List PathName) (slots : List Known) (path : PathName) (n id : ℕ) → n ≤ length path.elements → path_in slots id ≡ Some (cut n path)
    → ((m : ℕ) → n < m → m ≤ length path.elements → has_path paths (cut m path) ≡ false) → IsDeepest paths slots path (Some (n, id))
found_at paths slots path n id le at rest = record {
  none = λ is m within. absurd (some_none (n, id) is);
  some = λ k j is.
      let same : (n, id) ≡ (k, j) = some_same (n, id) (k, j) is in
      let ns : n ≡ k = ap (λ (p : ℕ × ℕ). p.0) same in
      let ids : id ≡ j = ap (λ (p : ℕ × ℕ). p.1) same in (
        omega (arith, le, ns),
        ap (path_in slots) (sym ids) ∙ at ∙ ap (λ m. Some (cut m path)) ns,
        λ m lt within. rest m (omega (arith, lt, ns)) within,
      );
}

module _ (paths : List PathName) (slots : List Known) (path : PathName) where
  -- the path has a slot
  there : (id : ℕ) → path_in slots id ≡ Some path → IsDeepest paths slots path (Some (length path.elements, id))
  there id at = found_at paths slots path (length path.elements) id (omega arith) (at ∙ ap Some (sym (cut_whole path))) (λ m lt within. absurd (omega (arith, lt, within)))

  module _ (new : has_path paths path ≡ false) where
    unnamed : (m : ℕ) → m ≡ length path.elements → has_path paths (cut m path) ≡ false
    unnamed m is = subst (λ p. has_path paths p ≡ false) (sym (ap (λ k. cut k path) is ∙ cut_whole path)) new

    -- its directory has one
    above_it : (dir : PathName) (id : ℕ) → parent_of path ≡ Some dir → path_in slots id ≡ Some dir → IsDeepest paths slots path (Some (length path.elements - 1, id))
    above_it dir id up at = go (length path.elements) refl
      where
        go : (n : ℕ) → length path.elements ≡ n → IsDeepest paths slots path (Some (length path.elements - 1, id))
        go zero none = absurd (some_none dir (sym up ∙ parent_none path none))
        go (suc n) len =
            let one : length path.elements - 1 ≡ n = omega (arith, len) in
            let same : dir ≡ cut n path = some_same dir (cut n path) (sym up ∙ parent_is path n len) in
            subst (λ k. IsDeepest paths slots path (Some (k, id))) (sym one)
            (found_at paths slots path n id (omega (arith, len)) (at ∙ ap Some same) (λ m lt within. unnamed m (omega (arith, lt, within, len))))

    -- it is a root
    root_alone : parent_of path ≡ None → IsDeepest paths slots path None
    root_alone up = record { none = λ is m le. unnamed m (omega (arith, le, short)); some = λ n id is. absurd (some_none (n, id) (sym is)) }
      where
        short : length path.elements ≡ 0
        short = go (length path.elements) refl
          where
            go : (n : ℕ) → length path.elements ≡ n → length path.elements ≡ 0
            go zero none = none
            go (suc n) len = absurd (some_none (cut n path) (sym (parent_is path n len) ∙ up))

  by_step : (own : Own) (d : Option PathName) → parent_of path ≡ d → (parent : Option ParentStep) → IsOwnOf paths slots path (option_map (λ (p : ParentStep). p.id) parent) own →
      MatchOption d (parent ≡ None) (λ dir. MatchOption parent ⊥ (λ (p : ParentStep). path_in slots p.id ≡ Some dir)) →
      IsDeepest paths slots path (start_by (length path.elements) own (option_map (λ (p : ParentStep). p.id) parent))
  by_step (There id) d up parent is above = there id is
  by_step (New slot) None up None is above = root_alone is.0 up
  by_step (New slot) None up (Some p) is above = absurd (some_none p above)
  by_step (New slot) (Some dir) up None is above = absurd above
  by_step (New slot) (Some dir) up (Some p) is above = above_it is.0 dir p.id up above

-- where the directory's slot is, of all that its step says
places_of_step : (owner : List ℕ) (records : List Rec) (rec : Rec) (path : PathName) (after : Option Node) (paths : List PathName) (slots : List Known) (own : ℕ) (d : Option PathName) (parent : Option ParentStep) →
    MatchOption d (parent ≡ None) (λ dir. MatchOption parent ⊥ (IsAboveOf owner records rec path after paths slots own dir)) →
    MatchOption d (parent ≡ None) (λ dir. MatchOption parent ⊥ (λ (p : ParentStep). path_in slots p.id ≡ Some dir))
places_of_step owner records rec path after paths slots own None parent is = is
places_of_step owner records rec path after paths slots own (Some dir) None is = is
places_of_step owner records rec path after paths slots own (Some dir) (Some parent) is = is.at

changed_start : (kept : Kept) (rec : Rec) (step : Step) → IsStepFor kept rec (Some step) → IsStartOf kept rec (start_of rec (Some step))
changed_start kept rec step is =
    let at = step_at kept rec step is in
    let of = at.step_in.0 in
    subst (λ o. IfSome o (λ path. IsDeepest (paths_of kept) (slots_of kept) path (elim o as (λ _. Option (ℕ × ℕ)) [ None ↦ None | Some path ↦ start_at (length path.elements) step ]))) (sym at.names)
    (by_step (paths_of kept) (slots_of kept) at.path step.own (parent_of at.path) refl step.parent of.own
    (places_of_step kept.owner kept.log.items rec at.path at.after (paths_of kept) (slots_of kept) (own_id (slots_of kept) step.own) (parent_of at.path) step.parent of.above))

pub started : (kept : Kept) (rec : Rec) (step : Option Step) (start : Option (ℕ × ℕ)) → IsStepFor kept rec step → start ≡ start_of rec step → IsStartOf kept rec start
started kept rec step start is same = subst (IsStartOf kept rec) (sym same) (go rec step is)
  where
    go : (rec : Rec) (step : Option Step) → IsStepFor kept rec step → IsStartOf kept rec (start_of rec step)
    go (Put entry text) None is = absurd is
    go (Put entry text) (Some step) is = changed_start kept (Put entry text) step is
    go (Delete path) None is = absurd is
    go (Delete path) (Some step) is = changed_start kept (Delete path) step is
    go (Snap time) step is = tt
