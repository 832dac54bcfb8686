-- A walk down from a path meets all items that are wanted, in order of paths.
use Rattle.std.proofs.Common.{◌≡◌, ℕ, zero, suc, ◌+◌, ◌++◌, ◌||◌, ◌&&◌, Bool, true, false, List, [], ◌∷◌, length, filter, take, refl, sym, ap, subst, ◌∙◌, ◌⊎◌, inl, inr, arith, Option, Some, None, is_some}
use Rattle.std.specs.Prelude.{MatchOption, if◌then◌else◌, slice_get}
use Rattle.std.specs.FinMap.Entries as entries
use Rattle.std.specs.Map.{keys_of}
use Rattle.std.proofs.lemmas.Bool.{and_from, and_parts, false≢true}
use Rattle.std.proofs.lemmas.Grind.{fold-append}
use Rattle.std.proofs.lemmas.List.{append_assoc}
use Rattle.std.proofs.lemmas.List.Folds.{list_any-append}
use Rattle.up_log_tree.proofs.Fronts.{take_next}
use Rattle.up_names.specs.PathNames.{PathName, cut, parent_of}
use Rattle.up_names.specs.PathOrder.{path_cmp, path_eq}
use Rattle.up_entry.specs.declared.records.Rec.{Rec}
use Rattle.up_log_tree.specs.declared.node.Node.{Node}
use Rattle.up_log_tree.specs.Fits.{HasDirectory, IsLog}
use Rattle.up_log_tree.specs.Orders.{are_rising, has_path as has, with_path}
use Rattle.up_log_tree.specs.Trees.{Tree, children, is_parent, node_at, tree_of}
use Rattle.up_log_tree.proofs.Paths.{length_cut, parent_is, parent_none, parent_passes, path_eq_itself, path_same, some_none, some_same}
use Rattle.up_log_tree.proofs.Rising.{has-filter, has-with, keys-put, one_list, rising-filter, rising-with}
use Rattle.up_log_tree.proofs.Trees.{has_child, has_node, rising_tree}
use Rattle.up_list.specs.Rooted.{IsRooted}
use Rattle.up_list.proofs.FrontLemmas.{owner_of}
use Rattle.up_list.proofs.ViewLemmas.{rooted_log}
use Rattle.up_foreign.specs.Items.{IsStart, wanted}
use Rattle.up_foreign.specs.Walks.{noted}
use Rattle.up_foreign.specs.declared.items.Wanted.{Wanted}

-- ---- paths that are noted

has-noted : (found more : List PathName) (q : PathName) → has (noted found more) q ≡ (has more q || has found q)
has-noted found [] q = refl
has-noted found (path ∷ more) q = has-noted (with_path path found) more q ∙ (ap (λ b. has more q || b) (has-with path found q) ∙ turned (has more q) (path_eq q path) (has found q))
  where
    turned : (a b c : Bool) → (a || (b || c)) ≡ ((b || a) || c)
    turned true true c = refl
    turned true false c = refl
    turned false true c = refl
    turned false false c = refl

rising-noted : (found more : List PathName) → are_rising found ≡ true → are_rising (noted found more) ≡ true
rising-noted found [] h = h
rising-noted found (path ∷ more) h = rising-noted (with_path path found) more (rising-with path found h)

pub put_keys : (path : PathName) (es : List (PathName × (Unit {0}))) (x : Unit {0}) → keys_of (entries.put path_cmp path x es) ≡ with_path path (keys_of es)
put_keys path es x = keys-put path x es

or_cases : (a b : Bool) → (a || b) ≡ true → (a ≡ true) ⊎ (b ≡ true)
or_cases true b h = inl refl
or_cases false b h = inr h

or_left : (a b : Bool) → a ≡ true → (a || b) ≡ true
or_left true b h = refl
or_left false b h = absurd (false≢true h)

or_right : (a b : Bool) → b ≡ true → (a || b) ≡ true
or_right true b h = refl
or_right false b h = h

stands : (o : Option Node) → is_some o ≡ true → (node : Node) × (o ≡ Some node)
stands None h = absurd (false≢true h)
stands (Some node) h = (node, refl)

module _ (tree : Tree) (looked_for : Wanted) (start : PathName) where
  -- an item that is wanted
  abbrev pub good : PathName → Bool
  good q = wanted looked_for q && is_some (node_at tree q)

  -- What a walk has found are items that are wanted; and each of those that is the start, or whose parent is the start or is found, is
  -- found too, or will be by the places that are still to be looked at.
  pub record Walks (found places : List PathName) : Type 0 where
    pub rising : are_rising found ≡ true
    pub sound : (q : PathName) → has found q ≡ true → good q ≡ true
    pub onward : (q p : PathName) → good q ≡ true → parent_of q ≡ Some p → (p ≡ start) ⊎ (has found p ≡ true) → (has found q ≡ true) ⊎ (has places p ≡ true)
    pub first : good start ≡ true → has found start ≡ true

  -- ---- one place is looked into

  abbrev pub kids : PathName → List PathName
  kids dir = filter (wanted looked_for) (children tree dir)

  has-kids : (dir q : PathName) → has (kids dir) q ≡ (wanted looked_for q && (is_parent dir q && is_some (node_at tree q)))
  has-kids dir q = has-filter (wanted looked_for) (children tree dir) q ∙ ap (λ b. wanted looked_for q && b) (has_child tree dir q)

  kid_good : (dir q : PathName) → has (kids dir) q ≡ true → good q ≡ true
  kid_good dir q h =
      let one = and_parts (wanted looked_for q) (is_parent dir q && is_some (node_at tree q)) (sym (has-kids dir q) ∙ h) in
      let two = and_parts (is_parent dir q) (is_some (node_at tree q)) one.1 in
      and_from (wanted looked_for q) (is_some (node_at tree q)) one.0 two.1

  good_kid : (dir q : PathName) → good q ≡ true → parent_of q ≡ Some dir → has (kids dir) q ≡ true
  good_kid dir q h parent =
      let one = and_parts (wanted looked_for q) (is_some (node_at tree q)) h in
      has-kids dir q ∙ and_from (wanted looked_for q) (is_parent dir q && is_some (node_at tree q)) one.0 (and_from (is_parent dir q) (is_some (node_at tree q)) (parent_passes dir q parent) one.1)

  module _ (found rest : List PathName) (dir : PathName) (before : Walks found (rest ++ dir ∷ [])) where
    found_more : (q : PathName) → has found q ≡ true → has (noted found (kids dir)) q ≡ true
    found_more q h = has-noted found (kids dir) q ∙ or_right (has (kids dir) q) (has found q) h

    found_kid : (q : PathName) → has (kids dir) q ≡ true → has (noted found (kids dir)) q ≡ true
    found_kid q h = has-noted found (kids dir) q ∙ or_left (has (kids dir) q) (has found q) h

    placed_kid : (p : PathName) → has (kids dir) p ≡ true → has (rest ++ kids dir) p ≡ true
    placed_kid p h = list_any-append (path_eq p) rest (kids dir) ∙ or_right (has rest p) (has (kids dir) p) h

    placed_rest : (p : PathName) → has rest p ≡ true → has (rest ++ kids dir) p ≡ true
    placed_rest p h = list_any-append (path_eq p) rest (kids dir) ∙ or_left (has rest p) (has (kids dir) p) h

    -- a place that is not this one is still among the rest
    in_rest : (p : PathName) → path_eq p dir ≡ false → has (rest ++ dir ∷ []) p ≡ true → has rest p ≡ true
    in_rest p other h = go (or_cases (has rest p) (has (dir ∷ []) p) (sym (list_any-append (path_eq p) rest (dir ∷ [])) ∙ h))
      where
        go : (has rest p ≡ true) ⊎ (has (dir ∷ []) p ≡ true) → has rest p ≡ true
        go (inl there) = there
        go (inr last) = absurd (false≢true (sym (ap (λ b. b || false) other) ∙ last))

    by_old : (q p : PathName) → path_eq p dir ≡ false → good q ≡ true → parent_of q ≡ Some p → (p ≡ start) ⊎ (has found p ≡ true) → (has (noted found (kids dir)) q ≡ true) ⊎ (has (rest ++ kids dir) p ≡ true)
    by_old q p other is parent from = go (before.onward q p is parent from)
      where
        go : (has found q ≡ true) ⊎ (has (rest ++ dir ∷ []) p ≡ true) → (has (noted found (kids dir)) q ≡ true) ⊎ (has (rest ++ kids dir) p ≡ true)
        go (inl there) = inl (found_more q there)
        go (inr place) = inr (placed_rest p (in_rest p other place))

    onward_after : (q p : PathName) → good q ≡ true → parent_of q ≡ Some p → (p ≡ start) ⊎ (has (noted found (kids dir)) p ≡ true) → (has (noted found (kids dir)) q ≡ true) ⊎ (has (rest ++ kids dir) p ≡ true)
    onward_after q p is parent from = go (path_eq p dir) refl from
      where
        old_or_kid : path_eq p dir ≡ false → (has (kids dir) p ≡ true) ⊎ (has found p ≡ true) → (has (noted found (kids dir)) q ≡ true) ⊎ (has (rest ++ kids dir) p ≡ true)
        old_or_kid other (inl kid) = inr (placed_kid p kid)
        old_or_kid other (inr old) = by_old q p other is parent (inr old)

        go : (b : Bool) → path_eq p dir ≡ b → (p ≡ start) ⊎ (has (noted found (kids dir)) p ≡ true) → (has (noted found (kids dir)) q ≡ true) ⊎ (has (rest ++ kids dir) p ≡ true)
        go true same from = inl (found_kid q (good_kid dir q is (parent ∙ ap Some (path_same p dir same))))
        go false other (inl begins) = by_old q p other is parent (inl begins)
        go false other (inr met) = old_or_kid other (or_cases (has (kids dir) p) (has found p) (sym (has-noted found (kids dir) p) ∙ met))

    sound_after : (q : PathName) → has (noted found (kids dir)) q ≡ true → good q ≡ true
    sound_after q h = go (or_cases (has (kids dir) q) (has found q) (sym (has-noted found (kids dir) q) ∙ h))
      where
        go : (has (kids dir) q ≡ true) ⊎ (has found q ≡ true) → good q ≡ true
        go (inl kid) = kid_good dir q kid
        go (inr old) = before.sound q old

    pub walks_on : Walks (noted found (kids dir)) (rest ++ kids dir)
    walks_on = record {
      rising = rising-noted found (kids dir) before.rising;
      sound = sound_after;
      onward = onward_after;
      first = λ is. found_more start (before.first is);
    }

  -- ---- the start

  pub walks_begun : (found : List PathName) → found ≡ (if is_some (node_at tree start) && wanted looked_for start then start ∷ [] else []) → Walks found (start ∷ [])
  walks_begun found is = go (is_some (node_at tree start)) refl (wanted looked_for start) refl is
    where
      itself : has (start ∷ []) start ≡ true
      itself = ap (λ b. b || false) (path_eq_itself start)

      only : (q : PathName) → has (start ∷ []) q ≡ true → q ≡ start
      only q h = path_same q start (one (path_eq q start) h)
        where
          one : (b : Bool) → (b || false) ≡ true → b ≡ true
          one true h = refl
          one false h = absurd (false≢true h)

      here : (p : PathName) → p ≡ start → has (start ∷ []) p ≡ true
      here p same = subst (λ r. has (start ∷ []) r ≡ true) (sym same) itself

      with_start : good start ≡ true → Walks (start ∷ []) (start ∷ [])
      with_start is_good = record {
        rising = refl;
        sound = λ q h. subst (λ r. good r ≡ true) (sym (only q h)) is_good;
        onward = λ q p is parent from. inr (elim from [ inl same ↦ here p same | inr met ↦ met ]);
        first = λ is. itself;
      }

      without : good start ≡ false → Walks [] (start ∷ [])
      without is_not = record {
        rising = refl;
        sound = λ q h. absurd (false≢true h);
        onward = λ q p is parent from. inr (elim from [ inl same ↦ here p same | inr met ↦ absurd (false≢true met) ]);
        first = λ is. absurd (false≢true (sym is_not ∙ is));
      }

      go : (a : Bool) → is_some (node_at tree start) ≡ a → (b : Bool) → wanted looked_for start ≡ b → found ≡ (if is_some (node_at tree start) && wanted looked_for start then start ∷ [] else []) → Walks found (start ∷ [])
      go true a true b is = subst (λ f. Walks f (start ∷ [])) (sym (is ∙ ap (λ c. if c && wanted looked_for start then start ∷ [] else []) a ∙ ap (λ c. if c then start ∷ [] else []) b)) (with_start (ap (λ c. c && is_some (node_at tree start)) b ∙ a))
      go true a false b is = subst (λ f. Walks f (start ∷ [])) (sym (is ∙ ap (λ c. if c && wanted looked_for start then start ∷ [] else []) a ∙ ap (λ c. if c then start ∷ [] else []) b)) (without (ap (λ c. c && is_some (node_at tree start)) b))
      go false a true b is = subst (λ f. Walks f (start ∷ [])) (sym (is ∙ ap (λ c. if c && wanted looked_for start then start ∷ [] else []) a)) (without (ap (λ c. c && is_some (node_at tree start)) b ∙ a))
      go false a false b is = subst (λ f. Walks f (start ∷ [])) (sym (is ∙ ap (λ c. if c && wanted looked_for start then start ∷ [] else []) a)) (without (ap (λ c. c && is_some (node_at tree start)) b))

  -- ---- the end

  module _ (rooted : IsRooted start.owner tree) (begins : IsStart looked_for start) (found : List PathName) (done : Walks found []) where
    -- an item whose parent, where that is wanted, is found
    placed : (q : PathName) → good q ≡ true → ((dir : PathName) → parent_of q ≡ Some dir → wanted looked_for dir ≡ true → has found dir ≡ true) → has found q ≡ true
    placed q is above =
        let parts = and_parts (wanted looked_for q) (is_some (node_at tree q)) is in
        let node = stands (node_at tree q) parts.1 in
        go (begins q (owner_of start.owner tree rooted q node.0 node.1) parts.0)
      where
        ended : (dir : PathName) → (has found q ≡ true) ⊎ (has [] dir ≡ true) → has found q ≡ true
        ended dir (inl there) = there
        ended dir (inr place) = absurd (false≢true place)

        from : (dir : PathName) → parent_of q ≡ Some dir → (dir ≡ start) ⊎ (wanted looked_for dir ≡ true) → has found q ≡ true
        from dir parent (inl begin) = ended dir (done.onward q dir is parent (inl begin))
        from dir parent (inr passes) = ended dir (done.onward q dir is parent (inr (above dir parent passes)))

        go : (q ≡ start) ⊎ ((dir : PathName) × (parent_of q ≡ Some dir) × ((dir ≡ start) ⊎ (wanted looked_for dir ≡ true))) → has found q ≡ true
        go (inl same) = subst (λ r. has found r ≡ true) (sym same) (done.first (subst (λ r. good r ≡ true) same is))
        go (inr (dir, parent, begin)) = from dir parent begin

    -- the parent of an item stands
    parent_good : (q dir : PathName) → good q ≡ true → parent_of q ≡ Some dir → wanted looked_for dir ≡ true → good dir ≡ true
    parent_good q dir is parent passes =
        let node = stands (node_at tree q) (and_parts (wanted looked_for q) (is_some (node_at tree q)) is).1 in
        let directory : HasDirectory tree dir = subst (λ o. MatchOption o (q.owner ≡ start.owner) (HasDirectory tree)) parent (rooted.placed q node.0 node.1) in
        and_from (wanted looked_for dir) (is_some (node_at tree dir)) passes (ap is_some directory.1)

    parent_shorter : (n : ℕ) (q dir : PathName) → length q.elements ≡ suc n → parent_of q ≡ Some dir → length dir.elements ≡ n
    parent_shorter n q dir size parent = ap (λ (p : PathName). length p.elements) (some_same dir (cut n q) (sym parent ∙ parent_is q n size)) ∙ length_cut n q (omega (arith, size))

    stood : (n : ℕ) (q : PathName) → length q.elements ≡ n → good q ≡ true → has found q ≡ true
    stood zero q size is = placed q is (λ dir parent passes. absurd (some_none dir (sym parent ∙ parent_none q size)))
    stood (suc n) q size is = placed q is (λ dir parent passes. stood n dir (parent_shorter n q dir size parent) (parent_good q dir is parent passes))

    found_at : (q : PathName) → has found q ≡ has (filter (wanted looked_for) (keys_of tree)) q
    found_at q = go (has found q) refl (good q) refl ∙ sym (has-filter (wanted looked_for) (keys_of tree) q ∙ ap (λ b. wanted looked_for q && b) (has_node tree q))
      where
        go : (a : Bool) → has found q ≡ a → (b : Bool) → good q ≡ b → has found q ≡ good q
        go true a true b = a ∙ sym b
        go false a false b = a ∙ sym b
        go true a false b = absurd (false≢true (sym b ∙ done.sound q a))
        go false a true b = absurd (false≢true (sym a ∙ stood (length q.elements) q refl b))

    pub walks_end : are_rising (keys_of tree) ≡ true → found ≡ filter (wanted looked_for) (keys_of tree)
    walks_end rising = one_list found (filter (wanted looked_for) (keys_of tree)) done.rising (rising-filter (wanted looked_for) (keys_of tree) rising) found_at

-- ---- the loops

-- the children so far, and one more
filter-snoc : (test : PathName → Bool) (xs : List PathName) (x : PathName) → filter test (xs ++ x ∷ []) ≡ filter test xs ++ filter test (x ∷ [])
filter-snoc test [] x = refl
filter-snoc test (y ∷ xs) x = go (test y) (filter-snoc test xs x)
  where
    go : (b : Bool) → filter test (xs ++ x ∷ []) ≡ filter test xs ++ filter test (x ∷ []) → (if b then y ∷ filter test (xs ++ x ∷ []) else filter test (xs ++ x ∷ [])) ≡ (if b then y ∷ filter test xs else filter test xs) ++ filter test (x ∷ [])
    go true rest = ap (λ zs. y ∷ zs) rest
    go false rest = rest

next : (test : PathName → Bool) (kids : List PathName) (i : ℕ) (path : PathName) → Some path ≡ slice_get kids i → filter test (take i kids) ++ filter test (path ∷ []) ≡ filter test (take (i + 1) kids)
next test kids i path there =
    sym (filter-snoc test (take i kids) path)
    ∙ ap (filter test) (sym (take_next i kids path (sym there)) ∙ ap (λ n. take n kids) (let e : suc i ≡ i + 1 = omega arith in e))

pub found_next : (test : PathName → Bool) (kids : List PathName) (i : ℕ) (path : PathName) (old mid now : List PathName) → Some path ≡ slice_get kids i → mid ≡ noted old (filter test (take i kids)) →
    now ≡ noted mid (filter test (path ∷ [])) → now ≡ noted old (filter test (take (i + 1) kids))
found_next test kids i path old mid now there so_far one =
    one
    ∙ (ap (λ found. noted found (filter test (path ∷ []))) so_far
    ∙ (sym (fold-append (λ paths path. with_path path paths) old (filter test (take i kids)) (filter test (path ∷ [])))
    ∙ ap (noted old) (next test kids i path there)))

pub places_next : (test : PathName → Bool) (kids : List PathName) (i : ℕ) (path : PathName) (old mid now : List PathName) → Some path ≡ slice_get kids i → mid ≡ old ++ filter test (take i kids) →
    now ≡ mid ++ filter test (path ∷ []) → now ≡ old ++ filter test (take (i + 1) kids)
places_next test kids i path old mid now there so_far one =
    one
    ∙ (ap (λ places. places ++ filter test (path ∷ [])) so_far
    ∙ (append_assoc old (filter test (take i kids)) (filter test (path ∷ []))
    ∙ ap (λ more. old ++ more) (next test kids i path there)))

-- no child is left
pub kids_all : (kids : List PathName) (i : ℕ) → None ≡ slice_get kids i → take i kids ≡ kids
kids_all [] zero h = refl
kids_all [] (suc i) h = refl
kids_all (kid ∷ kids) zero h = absurd (some_none kid (sym h))
kids_all (kid ∷ kids) (suc i) h = ap (λ ks. kid ∷ ks) (kids_all kids i h)

-- one place is looked into
pub walks_next : (tree : Tree) (looked_for : Wanted) (start : PathName) (found places rest : List PathName) (dir : PathName) (more behind : List PathName) → Walks tree looked_for start found places → places ≡ rest ++ dir ∷ [] →
    more ≡ noted found (filter (wanted looked_for) (children tree dir)) → behind ≡ rest ++ filter (wanted looked_for) (children tree dir) → Walks tree looked_for start more behind
walks_next tree looked_for start found places rest dir more behind before last is places_are =
    subst (λ f. Walks tree looked_for start f behind) (sym is)
    (subst (λ ps. Walks tree looked_for start (noted found (filter (wanted looked_for) (children tree dir))) ps) (sym places_are)
    (walks_on tree looked_for start found rest dir (subst (λ ps. Walks tree looked_for start found ps) last before)))

-- none is left
pub walks_ended : (owner : List ℕ) (log : List Rec) (is : IsLog owner log) (looked_for : Wanted) (start : PathName) → start.owner ≡ owner → IsStart looked_for start → (found places : List PathName) →
    Walks (tree_of log) looked_for start found places → places ≡ [] → found ≡ filter (wanted looked_for) (keys_of (tree_of log))
walks_ended owner log is looked_for start owned begins found places walks none =
    walks_end (tree_of log) looked_for start (subst (λ o. IsRooted o (tree_of log)) (sym owned) (rooted_log owner log is)) begins found (subst (λ ps. Walks (tree_of log) looked_for start found ps) none walks) (rising_tree log)

-- the items that are found are the owner's
pub found_owned : (owner : List ℕ) (log : List Rec) (is : IsLog owner log) (test : PathName → Bool) (found : List PathName) → found ≡ filter test (keys_of (tree_of log)) → (path : PathName) → has found path ≡ true → path.owner ≡ owner
found_owned owner log is test found all path there =
    let both = and_parts (test path) (has (keys_of (tree_of log)) path) (sym (has-filter test (keys_of (tree_of log)) path) ∙ (ap (λ ps. has ps path) (sym all) ∙ there)) in
    let node = stands (node_at (tree_of log) path) (sym (has_node (tree_of log) path) ∙ both.1) in
    owner_of owner (tree_of log) (rooted_log owner log is) path node.0 node.1
