-- A slot for a path that has none yet.
use Rattle.std.proofs.Common.{◌≡◌, ℕ, ◌<◌, Bool, true, false, ◌&&◌, ◌||◌, List, [], ◌∷◌, ◌++◌, length, map, refl, sym, ap, subst, ◌∙◌, ◌⊎◌, inl, inr, arith, Option, Some, None, is_some}
use Rattle.std.specs.Prelude.{MatchOption, slice_get, unwrap_or}
use Rattle.std.specs.List.{filter}
use Rattle.std.specs.Option.{option_map}
use Rattle.std.proofs.lemmas.Bool.{false≢true}
use Rattle.up_names.specs.PathNames.{PathName, cut, parent_of}
use Rattle.up_names.specs.PathOrder.{path_eq}
use Rattle.up_entry.specs.declared.records.Rec.{Rec}
use Rattle.up_log_tree.specs.Changes.{last_change}
use Rattle.up_log_tree.specs.Fits.{AreFitting, root_of}
use Rattle.up_log_tree.specs.Orders.{has_path as has, with_path}
use Rattle.up_mem_tree.specs.Slots.{AreLinked, IsSlotOf, Known, named_paths, path_in}
use Rattle.up_mem_tree.specs.Steps.{fresh_slot}
use Rattle.up_mem_tree.specs.Histories.{Tells}
use Rattle.up_log_tree.specs.Rights.{facts_of}
use Rattle.up_log_tree.specs.Trees.{children, is_parent, tree_at, tree_of}
use Rattle.up_mem_tree.proofs.Entered.{no_own_parent}
use Rattle.up_mem_tree.proofs.Links.{get-front, path-front, path-last, paths_kept}
use Rattle.up_mem_tree.proofs.Named.{childless, has_named}
use Rattle.up_log_tree.proofs.Paths.{is_parent_of, parent_is, path_eq_itself, path_same, some_none, some_same}
use Rattle.up_log_tree.proofs.Rising.{has-filter, has-with, one_list, rising-filter, rising-with}
use Rattle.up_mem_tree.proofs.Texts.{no_access, no_group}
use Rattle.up_mem_tree.proofs.Told.{tells_none}
use Rattle.up_mem_tree.proofs.Walks.{id_within, none_without_slots, path_there, slot_there}

-- a slot that is as one was, but for what is named below it
pub record IsAsBefore (Q : ℕ → Option PathName) (paths : List PathName) (was slot : Known) : Type 0 where
  pub path : slot.path ≡ was.path
  pub last : slot.last ≡ was.last
  pub parent : slot.parent ≡ was.parent
  pub children : slot.children ≡ was.children
  pub access : slot.access ≡ was.access
  pub group : slot.group ≡ was.group
  pub named : map Q slot.named ≡ map Some (filter (is_parent was.path) paths)

module _ (owner : List ℕ) (paths : List PathName) (slots : List Known) (linked : AreLinked owner paths slots) (path : PathName) (unnamed : has paths path ≡ false) (parent : Option ℕ)
    (above : option_map (path_in slots) parent ≡ option_map Some (parent_of path))
    (closed : (p : PathName) → has (with_path path paths) p ≡ true → MatchOption (parent_of p) (p.owner ≡ owner) (λ dir. has (with_path path paths) dir ≡ true))
    (mids : List Known) (long : length mids ≡ length slots) (same_paths : (j : ℕ) → path_in mids j ≡ path_in slots j)
    (was : (j : ℕ) (slot : Known) → slice_get mids j ≡ Some slot → (old : Known) × (slice_get slots j ≡ Some old) × IsAsBefore (path_in (mids ++ fresh_slot path parent ∷ [])) (with_path path paths) old slot) where
  grown : List Known
  grown = mids ++ fresh_slot path parent ∷ []

  pub keeps : (j : ℕ) (p : PathName) → path_in slots j ≡ Some p → path_in (mids ++ fresh_slot path parent ∷ []) j ≡ Some p
  keeps j p h = path-front mids (fresh_slot path parent) j p (same_paths j ∙ h)

  pub at_end : path_in (mids ++ fresh_slot path parent ∷ []) (length slots) ≡ Some path
  at_end = subst (λ n. path_in (mids ++ fresh_slot path parent ∷ []) n ≡ Some path) long (path-last mids (fresh_slot path parent))

  -- which slots there are
  which : (j : ℕ) (p : PathName) → path_in (mids ++ fresh_slot path parent ∷ []) j ≡ Some p → (path_in slots j ≡ Some p) ⊎ ((j ≡ length slots) × (p ≡ path))
  which j p h = go (get-there (mids ++ fresh_slot path parent ∷ []) j p h)
    where
      get-there : (l : List Known) (j : ℕ) (p : PathName) → path_in l j ≡ Some p → (slot : Known) × (slice_get l j ≡ Some slot) × (slot.path ≡ p)
      get-there l j p h = slot_there l j p h

      go : ((slot : Known) × (slice_get (mids ++ fresh_slot path parent ∷ []) j ≡ Some slot) × (slot.path ≡ p)) → (path_in slots j ≡ Some p) ⊎ ((j ≡ length slots) × (p ≡ path))
      go (slot, there, same) = elim (get-front mids (fresh_slot path parent) j slot there) [
        | inl old ↦ inl (sym (same_paths j) ∙ path_there mids j slot old ∙ ap Some same)
        | inr end ↦ inr (end.0 ∙ long, sym same ∙ ap (λ (k : Known). k.path) (sym end.1))
      ]

  no_slot : (j : ℕ) → path_in slots j ≡ Some path → ⊥
  no_slot j h = false≢true (sym unnamed ∙ linked.only j path h)

  not_end : (j : ℕ) (p : PathName) → path_in slots j ≡ Some p → j ≡ length slots → ⊥
  not_end j p h same = let lt : j < length slots = id_within slots j p h in absurd (omega (arith, lt, same))

  -- nothing is named below the new path
  none_below : filter (is_parent path) (with_path path paths) ≡ []
  none_below = one_list (filter (is_parent path) (with_path path paths)) [] (rising-filter (is_parent path) (with_path path paths) (rising-with path paths linked.rising)) refl
      (λ q. has-filter (is_parent path) (with_path path paths) q ∙ go q (is_parent path q) refl)
    where
      below : (q : PathName) → parent_of q ≡ Some path → (b : Bool) → path_eq q path ≡ b → (b || has paths q) ≡ false
      below q is true same = absurd (no_own_parent path (subst (λ p. parent_of p ≡ Some path) (path_same q path same) is))
      below q is false other = none (has paths q) refl
        where
          none : (b : Bool) → has paths q ≡ b → has paths q ≡ false
          none true named = absurd (false≢true (sym unnamed ∙ subst (λ o. MatchOption o (q.owner ≡ owner) (λ dir. has paths dir ≡ true)) is (linked.closed q named)))
          none false named = named

      go : (q : PathName) (b : Bool) → is_parent path q ≡ b → (b && has (with_path path paths) q) ≡ false
      go q true is = has-with path paths q ∙ below' q (is_parent_of path q is) (path_eq q path) refl
        where
          below' : (q : PathName) → parent_of q ≡ Some path → (b : Bool) → path_eq q path ≡ b → (path_eq q path || has paths q) ≡ false
          below' q is b same = ap (λ c. c || has paths q) same ∙ below q is b same
      go q false is = refl

  pub linked_grown : AreLinked owner (with_path path paths) (mids ++ fresh_slot path parent ∷ [])
  linked_grown = record {
    rising = rising-with path paths linked.rising;
    alone = λ i j p a b. elim (which i p a) [
      | inl x ↦ elim (which j p b) [ inl y ↦ linked.alone i j p x y | inr y ↦ absurd (no_slot i (x ∙ ap Some y.1)) ]
      | inr x ↦ elim (which j p b) [ inl y ↦ absurd (no_slot j (y ∙ ap Some x.1)) | inr y ↦ x.0 ∙ sym y.0 ]
    ];
    all = λ p named. all_there p (path_eq p path) refl (sym (has-with path paths p) ∙ named);
    only = λ j p h. elim (which j p h) [
      | inl old ↦ has-with path paths p ∙ ap (λ b. path_eq p path || b) (linked.only j p old) ∙ or_true (path_eq p path)
      | inr end ↦ has-with path paths p ∙ ap (λ b. b || has paths p) (subst (λ q. path_eq p q ≡ true) end.1 (path_eq_itself p))
    ];
    root = λ p h. elim (which 0 p h) [ inl old ↦ linked.root p old | inr end ↦ end.1 ∙ first_is_root end.0 ];
    parents = λ j slot there. elim (get-front mids (fresh_slot path parent) j slot there) [
      | inl old ↦ let o = was j slot old in
          ap (option_map (path_in (mids ++ fresh_slot path parent ∷ []))) o.2.parent ∙ kept_parent o.0.parent (parent_of o.0.path) (linked.parents j o.0 o.1) ∙ ap (λ p. option_map Some (parent_of p)) (sym o.2.path)
      | inr end ↦ subst (λ (k : Known). option_map (path_in (mids ++ fresh_slot path parent ∷ [])) k.parent ≡ option_map Some (parent_of k.path)) end.1 (kept_parent parent (parent_of path) above)
    ];
    named = λ j slot there. elim (get-front mids (fresh_slot path parent) j slot there) [
      | inl old ↦ let o = was j slot old in o.2.named ∙ ap (λ p. map Some (filter (is_parent p) (with_path path paths))) (sym o.2.path)
      | inr end ↦ subst (λ (k : Known). map (path_in (mids ++ fresh_slot path parent ∷ [])) k.named ≡ map Some (filter (is_parent k.path) (with_path path paths))) end.1 (ap (map Some) (sym none_below))
    ];
    closed = closed;
  }
    where
      or_true : (b : Bool) → (b || true) ≡ true
      or_true true = refl
      or_true false = refl

      all_there : (p : PathName) (b : Bool) → path_eq p path ≡ b → (b || has paths p) ≡ true → (i : ℕ) × (path_in (mids ++ fresh_slot path parent ∷ []) i ≡ Some p)
      all_there p true is named = (length slots, at_end ∙ ap Some (sym (path_same p path is)))
      all_there p false is named = let found = linked.all p named in (found.0, keeps found.0 p found.1)

      kept_parent : (o : Option ℕ) (up : Option PathName) → option_map (path_in slots) o ≡ option_map Some up → option_map (path_in (mids ++ fresh_slot path parent ∷ [])) o ≡ option_map Some up
      kept_parent None up h = h
      kept_parent (Some k) None h = absurd (some_none (path_in slots k) h)
      kept_parent (Some k) (Some dir) h = ap Some (keeps k dir (some_same (path_in slots k) (Some dir) h))

      first_is_root : 0 ≡ length slots → path ≡ root_of owner
      first_is_root empty = go (parent_of path) refl (closed path (has-with path paths path ∙ ap (λ b. b || has paths path) (path_eq_itself path)))
        where
          no_elements : (p : PathName) → parent_of p ≡ None → p.elements ≡ []
          no_elements p is = by_length p.elements refl
            where
              by_length : (es : List (List ℕ)) → p.elements ≡ es → p.elements ≡ []
              by_length [] h = h
              by_length (e ∷ es) h = absurd (some_none (cut (length es) p) (sym (parent_is p (length es) (ap length h)) ∙ is))

          go : (o : Option PathName) → parent_of path ≡ o → MatchOption o (path.owner ≡ owner) (λ dir. has (with_path path paths) dir ≡ true) → path ≡ root_of owner
          go None is same = ap (λ o. record { owner = o; elements = path.elements }) same ∙ ap (λ es. record { owner = owner; elements = es }) (no_elements path is)
          go (Some dir) is named = absurd (nowhere (path_eq dir path) refl (sym (has-with path paths dir) ∙ named))
            where
              nowhere : (b : Bool) → path_eq dir path ≡ b → (b || has paths dir) ≡ true → ⊥
              nowhere true same named = no_own_parent path (is ∙ ap Some (path_same dir path same))
              nowhere false same named = false≢true (sym (none_without_slots owner paths slots linked (sym empty) dir) ∙ named)

  -- ---- and what the slots have is as before, where the paths are those that records name

  module _ (records : List Rec) (fitting : AreFitting owner records) (names : paths ≡ named_paths records)
      (told : (i : ℕ) (slot : Known) → slice_get slots i ≡ Some slot → IsSlotOf owner records (path_in slots) slot) where
    is_unnamed : has (named_paths records) path ≡ false
    is_unnamed = ap (λ ps. has ps path) (sym names) ∙ unnamed

    no_change : last_change records path ≡ None
    no_change = go (last_change records path) (sym (has_named records path) ∙ is_unnamed)
      where
        go : (o : Option ℕ) → is_some o ≡ false → o ≡ None
        go None h = refl
        go (Some n) h = absurd (false≢true (sym h))

    pub told_grown : (i : ℕ) (slot : Known) → slice_get (mids ++ fresh_slot path parent ∷ []) i ≡ Some slot → IsSlotOf owner records (path_in (mids ++ fresh_slot path parent ∷ [])) slot
    told_grown j slot there = elim (get-front mids (fresh_slot path parent) j slot there) [
      | inl old ↦ let o = was j slot old in as_told o.0 slot o.2 (told j o.0 o.1)
      | inr end ↦ subst (IsSlotOf owner records (path_in (mids ++ fresh_slot path parent ∷ []))) end.1 (record {
        last = sym (ap (λ o. unwrap_or o 0) no_change);
        children = ap (map Some) (sym (childless owner records fitting path is_unnamed));
        access = tells_none (length records) _ (λ n le. no_access owner records fitting n path is_unnamed);
        group = tells_none (length records) _ (λ n le. no_group owner records fitting n path is_unnamed);
      })
    ]
      where
        as_told : (old slot : Known) → IsAsBefore (path_in (mids ++ fresh_slot path parent ∷ [])) (with_path path paths) old slot → IsSlotOf owner records (path_in slots) old → IsSlotOf owner records (path_in (mids ++ fresh_slot path parent ∷ [])) slot
        as_told old slot same t = record {
          last = same.last ∙ t.last ∙ ap (λ p. unwrap_or (last_change records p) 0) (sym same.path);
          children = ap (map (path_in (mids ++ fresh_slot path parent ∷ []))) same.children ∙ paths_kept (path_in slots) (path_in (mids ++ fresh_slot path parent ∷ [])) old.children (children (tree_of records) old.path) keeps t.children ∙ ap (λ p. map Some (children (tree_of records) p)) (sym same.path);
          access = subst (λ c. Tells c (length records) (λ n. (facts_of owner (tree_at records n)).access slot.path)) (sym same.access) (subst (λ p. Tells old.access (length records) (λ n. (facts_of owner (tree_at records n)).access p)) (sym same.path) t.access);
          group = subst (λ c. Tells c (length records) (λ n. (facts_of owner (tree_at records n)).group slot.path)) (sym same.group) (subst (λ p. Tells old.group (length records) (λ n. (facts_of owner (tree_at records n)).group p)) (sym same.path) t.group);
        }
