-- The paths in a directory that records change, and the positions of their last changes.
use Rattle.std.proofs.Common.{◌≡◌, ℕ, Bool, true, false, ◌&&◌, [], map, filter, sym, ap, ◌∙◌, refl, Option, Some, None}
use Rattle.std.specs.Prelude.{◌==◌, if◌then◌else◌, is_some, slice_get, unwrap_or, MatchOption}
use Rattle.std.specs.Option.{option_map}
use Rattle.std.proofs.lemmas.Bool.{eqb-true, false≢true}
use Rattle.std.proofs.lemmas.Option.{slice_get-map}
use Rattle.up_names.specs.PathNames.{PathName, parent_of}
use Rattle.up_mem_tree.specs.Kept.{IsOwnSlot, Stands, paths_of, slots_of}
use Rattle.up_mem_tree.specs.Slots.{known, path_in}
use Rattle.up_mem_tree.specs.declared.kept.Kept.{Kept}
use Rattle.up_mem_tree.specs.declared.slots.Slot.{Slot}
use Rattle.up_mem_tree.proofs.Befores.{not_zero}
use Rattle.up_mem_tree.proofs.Named.{has_named}
use Rattle.up_mem_tree.proofs.SlotLemmas.{known-named, known-path, known_at, path_of_slot}
use Rattle.up_mem_tree.proofs.Walks.{path_there}
use Rattle.up_log_tree.specs.Changes.{last_change}
use Rattle.up_log_tree.specs.Orders.{has_path as has}
use Rattle.up_log_tree.specs.Trees.{is_parent}
use Rattle.up_log_tree.proofs.Paths.{is_parent_of, some_none, some_same}
use Rattle.up_log_tree.proofs.Rising.{has-filter, one_list, rising-filter}

module _ (kept : Kept) (stands : Stands kept) where
  -- ---- the paths in a directory

  module _ (dir : PathName) (id : ℕ) (slot : Slot) (at : path_in (slots_of kept) id ≡ Some dir) (there : slice_get kept.slots.items id ≡ Some slot) where
    slot_there : slice_get (slots_of kept) id ≡ Some (known slot)
    slot_there = known_at kept.slots.items id ∙ ap (option_map known) there

    at_dir : (known slot).path ≡ dir
    at_dir = some_same (known slot).path dir (sym (path_there (slots_of kept) id (known slot) slot_there) ∙ at)

    all_named : map (path_in (slots_of kept)) slot.named.items ≡ map Some (filter (is_parent dir) (paths_of kept))
    all_named =
        ap (map (path_in (slots_of kept))) (sym (known-named slot)) ∙ stands.linked.named id (known slot) slot_there
        ∙ ap (λ p. map Some (filter (is_parent p) (paths_of kept))) at_dir

    told : (i : ℕ) → option_map (path_in (slots_of kept)) (slice_get slot.named.items i) ≡ option_map Some (slice_get (filter (is_parent dir) (paths_of kept)) i)
    told i =
        sym (slice_get-map (path_in (slots_of kept)) slot.named.items i) ∙ ap (λ l. slice_get l i) all_named
        ∙ slice_get-map Some (filter (is_parent dir) (paths_of kept)) i

    pub named_is : (i child : ℕ) → Some child ≡ slice_get slot.named.items i → path_in (slots_of kept) child ≡ slice_get (filter (is_parent dir) (paths_of kept)) i
    named_is i child is = go (slice_get (filter (is_parent dir) (paths_of kept)) i) (ap (option_map (path_in (slots_of kept))) is ∙ told i)
      where
        go : (o : Option PathName) → Some (path_in (slots_of kept) child) ≡ option_map Some o → path_in (slots_of kept) child ≡ o
        go None h = absurd (some_none (path_in (slots_of kept) child) h)
        go (Some path) h = some_same (path_in (slots_of kept) child) (Some path) h

    pub named_none : (i : ℕ) → None ≡ slice_get slot.named.items i → None ≡ slice_get (filter (is_parent dir) (paths_of kept)) i
    named_none i is = go (slice_get (filter (is_parent dir) (paths_of kept)) i) (ap (option_map (path_in (slots_of kept))) is ∙ told i)
      where
        go : (o : Option PathName) → None ≡ option_map Some o → None ≡ o
        go None h = refl
        go (Some path) h = absurd (some_none (Some path) (sym h))

  -- a directory without a slot has none
  none_in : (dir : PathName) → has (paths_of kept) dir ≡ false → filter (is_parent dir) (paths_of kept) ≡ []
  none_in dir none = one_list (filter (is_parent dir) (paths_of kept)) [] (rising-filter (is_parent dir) (paths_of kept) stands.linked.rising) refl each
    where
      closed : (q : PathName) → is_parent dir q ≡ true → has (paths_of kept) q ≡ true → ⊥
      closed q parent named = false≢true (sym none ∙ go (parent_of q) (is_parent_of dir q parent) (stands.linked.closed q named))
        where
          go : (o : Option PathName) → o ≡ Some dir → MatchOption o (q.owner ≡ kept.owner) (λ d. has (paths_of kept) d ≡ true) → has (paths_of kept) dir ≡ true
          go None is h = absurd (some_none dir (sym is))
          go (Some d) is h = ap (has (paths_of kept)) (sym (some_same d dir is)) ∙ h

      by : (q : PathName) (a b : Bool) → is_parent dir q ≡ a → has (paths_of kept) q ≡ b → (a && b) ≡ false
      by q false b is are = refl
      by q true false is are = refl
      by q true true is are = absurd (closed q is are)

      each : (q : PathName) → has (filter (is_parent dir) (paths_of kept)) q ≡ has [] q
      each q = has-filter (is_parent dir) (paths_of kept) q ∙ by q (is_parent dir q) (has (paths_of kept) q) refl refl

  pub nothing_in : (dir : PathName) (i : ℕ) → has (paths_of kept) dir ≡ false → None ≡ slice_get (filter (is_parent dir) (paths_of kept)) i
  nothing_in dir i none = sym (ap (λ l. slice_get l i) (none_in dir none))

  pub slot_missing : (dir : PathName) (id i : ℕ) → path_in (slots_of kept) id ≡ Some dir → None ≡ slice_get kept.slots.items id → None ≡ slice_get (filter (is_parent dir) (paths_of kept)) i
  slot_missing dir id i at is = absurd (some_none dir (sym at ∙ path_of_slot kept.slots.items id ∙ ap (option_map (λ (slot : Slot). slot.path)) (sym is)))

  -- ---- the last change of a path

  known-last : (slot : Slot) → (known slot).last ≡ slot.last
  unfolding known
  known-last slot = refl

  pub change_told : (path : PathName) (slot : Slot) → IsOwnSlot kept path (Some slot) → (if slot.last == 0 then None else Some slot.last) ≡ last_change kept.log.items path
  change_told path slot (same, told) = by (last_change kept.log.items path) refl
    where
      last : slot.last ≡ unwrap_or (last_change kept.log.items path) 0
      last = sym (known-last slot) ∙ told.last ∙ ap (λ p. unwrap_or (last_change kept.log.items p) 0) (known-path slot ∙ same)

      by_zero : (b : Bool) (p : ℕ) → (slot.last == 0) ≡ b → slot.last ≡ p → last_change kept.log.items path ≡ Some p → (if slot.last == 0 then None else Some slot.last) ≡ Some p
      by_zero true p zero is some = absurd (not_zero kept.log.items path (some ∙ ap Some (sym is ∙ eqb-true slot.last 0 zero)))
      by_zero false p more is some = ap (λ b. if b then None else Some slot.last) more ∙ ap Some is

      by : (o : Option ℕ) → last_change kept.log.items path ≡ o → (if slot.last == 0 then None else Some slot.last) ≡ o
      by None none = ap (λ n. if n == 0 then None else Some n) (last ∙ ap (λ o. unwrap_or o 0) none)
      by (Some p) some = by_zero (slot.last == 0) p refl (last ∙ ap (λ o. unwrap_or o 0) some) some

  pub no_change : (path : PathName) → IsOwnSlot kept path None → None ≡ last_change kept.log.items path
  no_change path none = go (last_change kept.log.items path) (sym (has_named kept.log.items path) ∙ none)
    where
      go : (o : Option ℕ) → is_some o ≡ false → None ≡ o
      go None h = refl
      go (Some p) h = absurd (false≢true (sym h))
