-- The items that are found under a path, once sorted, are those that are told.
use Rattle.std.proofs.Common.{◌≡◌, ℕ, zero, suc, ◌+◌, ◌<◌, ◌≤◌, Bool, true, false, not, ◌&&◌, List, [], ◌∷◌, ◌++◌, length, map, take, refl, sym, ap, subst, ◌∙◌, arith, Option, Some, None, T, append_assoc, append-nil, get_or}
use Rattle.std.specs.Prelude.{if◌then◌else◌, filter, MatchOption, slice_get}
use Rattle.std.proofs.lemmas.Grind.{flat_map-append}
use Rattle.std.proofs.lemmas.List.{take-append-le, take_all}
use Rattle.std.proofs.lemmas.Option.{slice_get-map, slice_get_read, slice_get_within}
use Rattle.std.specs.FinMap.Entries.{find, is_sorted}
use Rattle.std.specs.List.{AllByRecursion, cons_option, filter_map}
use Rattle.std.specs.List.Sorted.{IsSortedBy, IsStableBy, ties}
use Rattle.std.specs.Map.{values_of}
use Rattle.std.specs.Option.{option_and_then, option_map, option_to_list}
use Rattle.std.specs.Ordering.{is_eq, is_lt, ordering_reverse}
use Rattle.std.specs.declared.cmp.Ordering.{Ordering}
use Rattle.std.specs.declared.cmp.Ordering.TheVariants.{Less, Equal, Greater}
use Rattle.up_names.specs.PathNames.{PathName, is_under, parent_of}
use Rattle.up_names.specs.PathOrder.{path_cmp, path_eq}
use Rattle.up_names.specs.PathOrderLaws.{path_cmp_eq, path_cmp_total}
use Rattle.up_entry.specs.Showing.{shown_as}
use Rattle.up_entry.specs.declared.entries.Entry.{Entry}
use Rattle.up_wire.specs.declared.replies.WatchEvent.{WatchEvent}
use Rattle.up_log_tree.specs.Fits.{HasDirectory}
use Rattle.up_log_tree.specs.Trees.{Tree, is_parent, made_of, node_at}
use Rattle.up_log_tree.specs.declared.node.Node.{Node}
use Rattle.up_log_tree.proofs.Paths.{some_none, some_same}
use Rattle.up_log_tree.proofs.Trees.{find-made, made_sorted}
use Rattle.up_list.specs.Entries.{entries_in, entry_at, entry_of}
use Rattle.up_list.specs.Looks.{Look, has_some, rights, shown}
use Rattle.up_list.specs.Places.{IsOwned}
use Rattle.up_list.specs.Rooted.{IsRooted}
use Rattle.up_list.proofs.ChildLemmas.{one_entry}
use Rattle.up_list.proofs.FrontLemmas.{owner_of}
use Rattle.up_list.proofs.OrderLemmas.{at, one_order, rising_from_sorted, rising_values}
use Rattle.up_list.proofs.PickLemmas.{filter_alike, filter_of_made, filter_of_map}
use Rattle.up_list.proofs.SortedLemmas.{eq_itself, eq_same, found_all, sorted_one}
use Rattle.up_answers.specs.Watches.{items_under}
use Rattle.up_watch.specs.Items.{IsClosed, entries_below}
use Rattle.up_watch.specs.Watching.{is_before, item_told}
use Rattle.up_list.specs.declared.found.Found.{Found}
use Rattle.up_list.specs.Founds.{entry_found}
use Rattle.up_watch.proofs.Cut.{made_next, take_next}
use Rattle.up_watch.proofs.Closed.{Rules, found_once}
use Rattle.up_watch.proofs.Under.{parent_above, parent_shorter, under_by_parent, under_itself}

abbrev name_of : Entry → PathName
name_of entry = entry.name

abbrev event_name : WatchEvent → PathName
event_name event = event.entry.name

-- ---- each item under the path is found once

module _ (owner : List ℕ) (tree : Tree) (rooted : IsRooted owner tree) (path : PathName) where
  abbrev depth : PathName → ℕ
  depth q = length q.elements

  named : (q : PathName) (entry : Entry) → entry_at tree q ≡ Some entry → entry.name ≡ q
  named q entry there = go (node_at tree q) refl there
    where
      go : (o : Option Node) → node_at tree q ≡ o → option_map entry_of o ≡ Some entry → entry.name ≡ q
      go None e f = absurd (some_none entry (sym f))
      go (Some node) e f = ap (λ (x : Entry). x.name) (sym (some_same node.entry entry f)) ∙ rooted.named q node e

  -- nothing stands in what is not there
  stands : (q dir : PathName) → parent_of q ≡ Some dir → entry_at tree dir ≡ None → entry_at tree q ≡ None
  stands q dir parent none = go (node_at tree q) refl
    where
      no_directory : HasDirectory tree dir → ⊥
      no_directory directory = some_none directory.0.entry (sym (ap (option_map entry_of) directory.1) ∙ none)

      go : (o : Option Node) → node_at tree q ≡ o → entry_at tree q ≡ None
      go None e = ap (option_map entry_of) e
      go (Some node) e = absurd (no_directory (subst (λ o. MatchOption o (q.owner ≡ owner) (HasDirectory tree)) parent (rooted.placed q node e)))

  walk_rules : Rules path_eq name_of (entry_at tree) parent_of depth (entries_in tree) (λ q. is_under q path) path
  unfolding is_parent
  walk_rules = record {
    itself = eq_itself;
    same = eq_same;
    named = named;
    deeper = parent_shorter;
    stands = stands;
    kid = λ dir q. one_entry owner tree rooted dir q;
    first = under_itself path;
    beneath = λ q other. under_by_parent q path other;
    above = λ dir parent. parent_above path dir parent;
  }

  pub found_here : (found : List Entry) → IsClosed tree path found → (q : PathName) → filter (λ (e : Entry). path_eq q e.name) found ≡ (if is_under q path then option_to_list (entry_at tree q) else [])
  found_here found closed q = found_once path_eq name_of (entry_at tree) parent_of depth (entries_in tree) (λ q. is_under q path) path walk_rules found closed.all q

  -- ---- those that are found are of the owner

  found_one : (found : List Entry) → IsClosed tree path found → (entry : Entry) (rest : List Entry) → filter (λ (e : Entry). path_eq entry.name e.name) found ≡ entry ∷ rest → entry.name.owner ≡ owner
  found_one found closed entry rest is = go (is_under entry.name path) (node_at tree entry.name) refl (sym (found_here found closed entry.name) ∙ is)
    where
      go : (b : Bool) (o : Option Node) → node_at tree entry.name ≡ o → (if b then option_to_list (option_map entry_of o) else []) ≡ entry ∷ rest → entry.name.owner ≡ owner
      go false o there e = absurd (cc)
      go true None there e = absurd (cc)
      go true (Some node) there e = owner_of owner tree rooted entry.name node there

picked : (before after : List Entry) (entry : Entry) → (first : Entry) × (rest : List Entry) × (filter (λ (e : Entry). path_eq entry.name e.name) (before ++ entry ∷ after) ≡ first ∷ rest) × (first.name ≡ entry.name)
picked [] after entry =
    (entry, filter (λ (e : Entry). path_eq entry.name e.name) after, ap (λ b. if b then entry ∷ filter (λ (e : Entry). path_eq entry.name e.name) after else filter (λ (e : Entry). path_eq entry.name e.name) after) (eq_itself entry.name), refl)
picked (e ∷ before) after entry = go (path_eq entry.name e.name) refl (picked before after entry)
  where
    go : (b : Bool) → path_eq entry.name e.name ≡ b → (first : Entry) × (rest : List Entry) × (filter (λ (e : Entry). path_eq entry.name e.name) (before ++ entry ∷ after) ≡ first ∷ rest) × (first.name ≡ entry.name)
        → (first : Entry) × (rest : List Entry) × ((if path_eq entry.name e.name then e ∷ filter (λ (e : Entry). path_eq entry.name e.name) (before ++ entry ∷ after) else filter (λ (e : Entry). path_eq entry.name e.name) (before ++ entry ∷ after)) ≡ first ∷ rest) × (first.name ≡ entry.name)
    go true is rest =
        (e, filter (λ (e : Entry). path_eq entry.name e.name) (before ++ entry ∷ after), ap (λ b. if b then e ∷ filter (λ (e : Entry). path_eq entry.name e.name) (before ++ entry ∷ after) else filter (λ (e : Entry). path_eq entry.name e.name) (before ++ entry ∷ after)) is, sym (eq_same entry.name e.name is))
    go false is rest =
        (rest.0, rest.1, ap (λ b. if b then e ∷ filter (λ (e : Entry). path_eq entry.name e.name) (before ++ entry ∷ after) else filter (λ (e : Entry). path_eq entry.name e.name) (before ++ entry ∷ after)) is ∙ rest.2, rest.3)

pub found_owned : (look : Look) (rooted : IsRooted look.owner look.tree) (path : PathName) (found : List Entry) → IsClosed look.tree path found → AllByRecursion (IsOwned look) found
found_owned look rooted path found closed = go [] found refl
  where
    go : (before after : List Entry) → found ≡ before ++ after → AllByRecursion (IsOwned look) after
    go before [] is = tt
    go before (entry ∷ after) is =
        let one = picked before after entry in
        let same : filter (λ (e : Entry). path_eq one.0.name e.name) found ≡ one.0 ∷ one.1 =
        ap (λ p. filter (λ (e : Entry). path_eq p e.name) found) one.3 ∙ (ap (filter (λ (e : Entry). path_eq entry.name e.name)) is ∙ one.2) in (
          ap (λ (p : PathName). p.owner) (sym one.3) ∙ found_one look.owner look.tree rooted path found closed one.0 one.1 same,
          go (before ++ entry ∷ []) after (is ∙ sym (append_assoc before (entry ∷ []) after)),
        )

-- ---- the walk

pub record Walks (tree : Tree) (first : List Entry) (i : ℕ) (found : List Entry) : Type 0 where
  pub all : found ≡ first ++ entries_below tree (take i found)

module _ (tree : Tree) (first : List Entry) where
  pub walks_first : (found : List Entry) → found ≡ first → Walks tree first 0 found
  walks_first found is = record { all = is ∙ sym (append-nil first) }

  pub walks_next : (i : ℕ) (found now : List Entry) (entry : Entry) → slice_get found i ≡ Some entry → Walks tree first i found → now ≡ found ++ entries_in tree entry.name → Walks tree first (i + 1) now
  walks_next i found now entry at so_far is = record {
    all =
        is
        ∙ (ap (λ l. l ++ entries_in tree entry.name) so_far.all
        ∙ (append_assoc first (entries_below tree (take i found)) (entries_in tree entry.name)
        ∙ ap (λ l. first ++ l)
        (ap (λ l. entries_below tree (take i found) ++ l) (sym (append-nil (entries_in tree entry.name)))
        ∙ (sym (flat_map-append (λ (e : Entry). entries_in tree e.name) (take i found) (entry ∷ []))
        ∙ ap (entries_below tree) (sym (take_next i found entry at)
        ∙ (sym (take-append-le (suc i) found (entries_in tree entry.name) (let e = slice_get_within found i entry at in omega (arith, e)))
        ∙ (ap (take (suc i)) (sym is) ∙ ap (λ n. take n now) (let e : suc i ≡ i + 1 = omega arith in e))))))));
  }

  pub walks_end : (i : ℕ) (found : List Entry) → length found ≤ i → Walks tree first i found → found ≡ first ++ entries_below tree found
  walks_end i found end so_far = so_far.all ∙ ap (λ l. first ++ entries_below tree l) (take_all i found end)

-- ---- what is told of them, in order of paths

tied_table : (o : Ordering) → (not (is_lt o) && not (is_lt (ordering_reverse o))) ≡ is_eq o
tied_table Less = refl
tied_table Equal = refl
tied_table Greater = refl

tied_paths : (p q : PathName) → (not (is_lt (path_cmp p q)) && not (is_lt (path_cmp q p))) ≡ path_eq p q
tied_paths p q = ap (λ o. not (is_lt (path_cmp p q)) && not (is_lt o)) (path_cmp_total.antisymm q p) ∙ (tied_table (path_cmp p q) ∙ sym (path_cmp_eq p q))

all_alike : (f g : WatchEvent → Bool) → ((event : WatchEvent) → f event ≡ g event) → (xs : List WatchEvent) → AllByRecursion (λ event. f event ≡ g event) xs
all_alike f g same [] = tt
all_alike f g same (event ∷ xs) = (same event, all_alike f g same xs)

stable_at : (found sorted : List WatchEvent) → IsStableBy is_before found sorted → length sorted ≡ length found → (q : PathName) → at event_name q sorted ≡ at event_name q found
stable_at [] [] stable size q = refl
stable_at [] (event ∷ rest) stable size q = absurd (omega (arith, size))
stable_at (first ∷ found) sorted stable size q =
    let x : WatchEvent = record first { entry = record first.entry { name = q } } in
    sym (filter_alike (ties is_before x) (λ (event : WatchEvent). path_eq q event.entry.name) sorted (all_alike (ties is_before x) (λ (event : WatchEvent). path_eq q event.entry.name) (λ event. tied_paths q event.entry.name) sorted))
    ∙ (stable x
    ∙ filter_alike (ties is_before x) (λ (event : WatchEvent). path_eq q event.entry.name) (first ∷ found) (all_alike (ties is_before x) (λ (event : WatchEvent). path_eq q event.entry.name) (λ event. tied_paths q event.entry.name) (first ∷ found)))

shown_name : (b : Bool) (e : Entry) → (shown_as b e).name ≡ e.name
shown_name true e = refl
shown_name false e = refl

-- an event is told at its item's path
told_name : (look : Look) (entry : Entry) (event : WatchEvent) → item_told look entry ≡ Some event → event.entry.name ≡ entry.name
told_name look entry event is = go (has_some look entry.name) is
  where
    whole : WatchEvent
    whole = record { position = entry.sequence; delete = false; entry = shown look entry }

    go : (b : Bool) → (if b then Some whole else None) ≡ Some event → event.entry.name ≡ entry.name
    go true e = ap (λ (e : WatchEvent). e.entry.name) (sym (some_same whole event e)) ∙ shown_name (rights look entry.name).read entry
    go false e = absurd (some_none event (sym e))

find_is : (tree : Tree) (q : PathName) → node_at tree q ≡ find path_cmp q tree
unfolding node_at
find_is tree q = refl

module _ (look : Look) (rooted : IsRooted look.owner look.tree) (path : PathName) where
  abbrev make : PathName → Node → Option WatchEvent
  make name node = if is_under name path && has_some look name then Some (record { position = node.entry.sequence; delete = false; entry = shown look node.entry }) else None

  -- what is made at a path is told of the item there
  abbrev nothing : Option WatchEvent
  nothing = None

  made_is : (q : PathName) (node : Node) → node.entry.name ≡ q → make q node ≡ (if is_under q path then item_told look node.entry else nothing)
  made_is q node is = go (is_under q path) (has_some look q) ∙ ap (λ p. if is_under q path then item_at p else nothing) (sym is)
    where
      item_at : PathName → Option WatchEvent
      item_at p = if has_some look p then Some (record { position = node.entry.sequence; delete = false; entry = shown look node.entry }) else None

      whole : Option WatchEvent
      whole = Some (record { position = node.entry.sequence; delete = false; entry = shown look node.entry })

      go : (a b : Bool) → (if a && b then whole else nothing) ≡ (if a then (if b then whole else nothing) else nothing)
      go true b = refl
      go false b = refl

  made_at : (q : PathName) → option_and_then (make q) (node_at look.tree q) ≡ (if is_under q path then option_and_then (item_told look) (entry_at look.tree q) else nothing)
  made_at q = go (node_at look.tree q) refl
    where
      none : (b : Bool) → nothing ≡ (if b then nothing else nothing)
      none true = refl
      none false = refl

      go : (o : Option Node) → node_at look.tree q ≡ o → option_and_then (make q) o ≡ (if is_under q path then option_and_then (item_told look) (option_map entry_of o) else nothing)
      go None e = none (is_under q path)
      go (Some node) e = made_is q node (rooted.named q node e)

  abbrev made : List (PathName × WatchEvent)
  made = made_of make look.tree

  named_all : (items : List (PathName × Node)) → AllByRecursion (λ (i : PathName × Node). find path_cmp i.0 look.tree ≡ Some i.1) items → AllByRecursion (λ (e : PathName × WatchEvent). event_name e.1 ≡ e.0) (made_of make items)
  unfolding made_of
  named_all [] found = tt
  named_all (item ∷ items) found = go (make item.0 item.1) refl (named_all items found.1)
    where
      here : item.1.entry.name ≡ item.0
      here = rooted.named item.0 item.1 (find_is look.tree item.0 ∙ found.0)

      one : (event : WatchEvent) → make item.0 item.1 ≡ Some event → event.entry.name ≡ item.0
      one event e = go (is_under item.0 path) (sym (made_is item.0 item.1 here) ∙ e)
        where
          go : (b : Bool) → (if b then item_told look item.1.entry else nothing) ≡ Some event → event.entry.name ≡ item.0
          go true f = told_name look item.1.entry event f ∙ here
          go false f = absurd (some_none event (sym f))

      go : (o : Option WatchEvent) → make item.0 item.1 ≡ o → AllByRecursion (λ (e : PathName × WatchEvent). event_name e.1 ≡ e.0) (made_of make items) →
          AllByRecursion (λ (e : PathName × WatchEvent). event_name e.1 ≡ e.0) (cons_option (option_map (λ y. (item.0, y)) (make item.0 item.1)) (made_of make items))
      go None e rest = subst (λ o. AllByRecursion (λ (e : PathName × WatchEvent). event_name e.1 ≡ e.0) (cons_option (option_map (λ y. (item.0, y)) o) (made_of make items))) (sym e) rest
      go (Some event) e rest = subst (λ o. AllByRecursion (λ (e : PathName × WatchEvent). event_name e.1 ≡ e.0) (cons_option (option_map (λ y. (item.0, y)) o) (made_of make items))) (sym e) (one event e, rest)

  -- what stands at a path among the values of a list that stands in order of paths
  values_at : (q : PathName) (es : List (PathName × WatchEvent)) → T (is_sorted path_cmp es) → AllByRecursion (λ (e : PathName × WatchEvent). event_name e.1 ≡ e.0) es → at event_name q (values_of es) ≡ option_to_list (find path_cmp q es)
  values_at q es sorted names =
      filter_of_map (λ (event : WatchEvent). path_eq q (event_name event)) (λ (e : PathName × WatchEvent). e.1) es
      ∙ (ap (map (λ (e : PathName × WatchEvent). e.1)) (filter_alike (λ (e : PathName × WatchEvent). path_eq q (event_name e.1)) (λ (e : PathName × WatchEvent). path_eq q e.0) es (alike es names))
      ∙ sorted_one q es sorted)
    where
      alike : (fs : List (PathName × WatchEvent)) → AllByRecursion (λ (e : PathName × WatchEvent). event_name e.1 ≡ e.0) fs → AllByRecursion (λ (e : PathName × WatchEvent). path_eq q (event_name e.1) ≡ path_eq q e.0) fs
      alike [] names = tt
      alike (f ∷ fs) names = (ap (path_eq q) names.0, alike fs names.1)

  -- what is told of those that are found, at one path
  told_at : (found : List Entry) → IsClosed look.tree path found → (q : PathName) → at event_name q (filter_map (item_told look) found) ≡ option_to_list (option_and_then (make q) (node_at look.tree q))
  told_at found closed q =
      filter_of_made (λ (event : WatchEvent). path_eq q event.entry.name) (λ (e : Entry). path_eq q e.name) (item_told look) (λ entry event is. ap (path_eq q) (told_name look entry event is)) found
      ∙ (ap (filter_map (item_told look)) (found_here look.owner look.tree rooted path found closed q)
      ∙ (go (is_under q path) (entry_at look.tree q)
      ∙ sym (ap option_to_list (made_at q))))
    where
      one : (o : Option WatchEvent) → cons_option o [] ≡ option_to_list o
      one None = refl
      one (Some event) = refl

      go : (b : Bool) (o : Option Entry) → filter_map (item_told look) (if b then option_to_list o else []) ≡ option_to_list (if b then option_and_then (item_told look) o else nothing)
      go true None = refl
      go true (Some entry) = one (item_told look entry)
      go false None = refl
      go false (Some entry) = refl

  pub items_sorted : (found : List Entry) (told sorted : List WatchEvent) → IsClosed look.tree path found → told ≡ filter_map (item_told look) found →
      IsSortedBy is_before sorted → IsStableBy is_before told sorted → length sorted ≡ length told → sorted ≡ items_under look path
  unfolding items_under
  items_sorted found told sorted closed is up stable size =
      one_order event_name sorted (values_of made) (rising_from_sorted event_name sorted up) (rising_values event_name made in_order names) same
    where
      in_order : T (is_sorted path_cmp made)
      in_order = made_sorted make look.tree rooted.ordered

      names : AllByRecursion (λ (e : PathName × WatchEvent). event_name e.1 ≡ e.0) made
      names = named_all look.tree (found_all look.tree rooted.ordered)

      same : (q : PathName) → at event_name q sorted ≡ at event_name q (values_of made)
      same q =
          stable_at told sorted stable size q
          ∙ (ap (at event_name q) is
          ∙ (told_at found closed q
          ∙ (sym (ap option_to_list (find-made make q look.tree rooted.ordered))
          ∙ sym (values_at q made in_order names))))

-- ---- what is told, one item after the other

pub all_at : {X Y : Type 0} (P : Y → Type 0) (f : X → Y) (xs : List X) (i : ℕ) (x : X) → AllByRecursion P (map f xs) → i < length xs → x ≡ get_or xs i x → P (f x)
all_at P f [] i x all within is = absurd (omega (arith, within))
all_at P f (y ∷ xs) zero x all within is = subst (λ z. P (f z)) (sym is) all.0
all_at P f (y ∷ xs) (suc i) x all within is = all_at P f xs i x all.1 (omega (arith, within)) is

one_told : (o : Option WatchEvent) → cons_option o [] ≡ option_to_list o
one_told None = refl
one_told (Some event) = refl

pub told_next : (look : Look) (found : List Found) (i : ℕ) (item : Found) (old now : List WatchEvent) → i < length found → item ≡ get_or found i item →
    old ≡ filter_map (item_told look) (take i (map entry_found found)) → now ≡ old ++ option_to_list (item_told look (entry_found item)) →
    now ≡ filter_map (item_told look) (take (i + 1) (map entry_found found))
told_next look found i item old now within is so_far more =
    more
    ∙ (ap (λ l. l ++ option_to_list (item_told look (entry_found item))) so_far
    ∙ (ap (λ l. filter_map (item_told look) (take i (map entry_found found)) ++ l) (sym (one_told (item_told look (entry_found item))))
    ∙ sym (made_next (item_told look) i (map entry_found found) (entry_found item) (slice_get-map entry_found found i ∙ ap (option_map entry_found) (slice_get_read found (length found) i item refl within is)))))
