-- The items of a snapshot tree stand at their names, each but the root in a directory.
use Rattle.std.proofs.Common.{◌≡◌, ℕ, zero, suc, ◌+◌, ◌-◌, ◌<◌, ◌≤◌, Bool, true, false, ◌||◌, List, [], ◌∷◌, fold, map, length, take, drop, T, refl, sym, ap, subst, ◌∙◌, ◌⊎◌, inl, inr, arith, Option, Some, None}
use Rattle.std.specs.Prelude.{MatchOption, if◌then◌else◌, slice_get}
use Rattle.std.specs.FinMap.Entries.{is_sorted, is_sorted-put}
use Rattle.std.specs.Option.{option_and_then, option_map}
use Rattle.std.proofs.lemmas.Bool.{cases_lt, false≢true, leb-true, le-leb}
use Rattle.up_names.specs.PathNames.{PathName, canonical, cut, is_under}
use Rattle.up_names.specs.PathOrder.{path_cmp}
use Rattle.up_names.specs.PathOrderLaws.{path_cmp_total}
use Rattle.up_names.proofs.PathEdits.{length-canonical-cut}
use Rattle.up_entry.specs.declared.records.Rec.{Rec}
use Rattle.up_entry.specs.declared.records.Rec.TheVariants.{Put, Delete, Snap}
use Rattle.up_log_tree.specs.Fits.{HasDirectory, HasPlace, IsLog, snapshot_user}
use Rattle.up_log_tree.specs.Trees.{Tree, node_at, tree_at}
use Rattle.up_log_tree.specs.declared.node.Node.{Node}
use Rattle.up_log_tree.proofs.Paths.{cut_cut, cut_whole, length_cut, parent_is, parent_none, some_none, some_same}
use Rattle.up_list.specs.Rooted.{IsRooted}
use Rattle.up_answers.specs.SnapshotTrees.{directories_above, made_up, moved_nodes, snapshots_to, with_new, with_node, with_snapshot, with_snapshot_of}
use Rattle.up_snap.specs.Shown.{bears_on, first_to, is_short, kept_node, old_path, renamed, shown_node, shown_root}
use Rattle.up_snap.specs.declared.shown.Shown.{Shown}
use Rattle.up_snap.proofs.FirstLemmas.{first_low, one_place}
use Rattle.up_snap.proofs.ShownLemmas.{IsFirst, calendar, first_is, kept_below, made_above, rooted_then, told}
use Rattle.up_snap.proofs.UnderLemmas.{IsBelow, above_is, above_of, above_whole, below_is, below_of, one_moment, root_below}

-- ---- in order

node_sorted : (tree : Tree) (node : Node) → T (is_sorted path_cmp tree) → T (is_sorted path_cmp (with_node tree node))
node_sorted tree node h = is_sorted-put path_cmp path_cmp_total node.entry.name node tree h

new_sorted : (tree : Tree) (node : Node) → T (is_sorted path_cmp tree) → T (is_sorted path_cmp (with_new tree node))
new_sorted tree node h = go (node_at tree node.entry.name)
  where
    go : (o : Option Node) → T (is_sorted path_cmp (elim o as (λ _. Tree) [ None ↦ with_node tree node | Some there ↦ tree ]))
    go None = node_sorted tree node h
    go (Some there) = h

fold_sorted : (step : Tree → Node → Tree) → ((tree : Tree) (node : Node) → T (is_sorted path_cmp tree) → T (is_sorted path_cmp (step tree node))) →
    (tree : Tree) (nodes : List Node) → T (is_sorted path_cmp tree) → T (is_sorted path_cmp (fold step tree nodes))
fold_sorted step more tree [] h = h
fold_sorted step more tree (n ∷ ns) h = fold_sorted step more (step tree n) ns (more tree n h)

record_sorted : (owner : List ℕ) (o : Option Rec) (position : ℕ) (was tree : Tree) → T (is_sorted path_cmp tree) → T (is_sorted path_cmp (with_snapshot_of owner o position was tree))
unfolding with_snapshot
record_sorted owner None position was tree h = h
record_sorted owner (Some (Put entry text)) position was tree h = h
record_sorted owner (Some (Delete gone)) position was tree h = h
record_sorted owner (Some (Snap time)) position was tree h =
    fold_sorted with_node node_sorted (fold with_new tree (map (made_up owner time position) (directories_above time owner))) (moved_nodes time was)
    (fold_sorted with_new new_sorted tree (map (made_up owner time position) (directories_above time owner)) h)

pub shown_sorted : (owner : List ℕ) (records : List Rec) (n : ℕ) → T (is_sorted path_cmp (snapshots_to owner records n))
unfolding snapshots_to
shown_sorted owner records zero = tt
shown_sorted owner records (suc n) = record_sorted owner (slice_get records n) (suc n) (tree_at records n) (snapshots_to owner records n) (shown_sorted owner records n)

-- ---- what stands

module _ (owner : List ℕ) (records : List Rec) (is : IsLog owner records) where
  abbrev SnapUser : List ℕ
  SnapUser = snapshot_user owner

  abbrev All : Tree
  All = snapshots_to owner records (length records)

  -- what stands at a path is what the first snapshot shows that bears on it
  pub record Stands (q : PathName) (node : Node) : Type 0 where
    pub shown : Shown
    pub first : IsFirst SnapUser records q (length records) shown
    pub is_shown : shown_node owner records q shown ≡ Some node

  pub stands_by : (q : PathName) (node : Node) → node_at All q ≡ Some node → Stands q node
  stands_by q node there = go (first_to SnapUser records q (length records)) refl (sym (told owner records is q (length records)) ∙ there)
    where
      go : (o : Option Shown) → first_to SnapUser records q (length records) ≡ o → option_and_then (shown_node owner records q) o ≡ Some node → Stands q node
      go None e h = absurd (some_none node (sym h))
      go (Some s) e h = record { shown = s; first = first_is SnapUser records q (length records) s e; is_shown = h }

  -- at a path on which a snapshot bears there is a first one
  pub first_there : (q : PathName) (place time : ℕ) → place < length records → slice_get records place ≡ Some (Snap time) → bears_on SnapUser q time ≡ true →
      (s : Shown) × (first_to SnapUser records q (length records) ≡ Some s) × IsFirst SnapUser records q (length records) s
  first_there q place time within takes bears =
      let low = first_low SnapUser records q (length records) place time within takes bears in
      (low.found, low.is, first_is SnapUser records q (length records) low.found low.is)

  or_left : (a b : Bool) → a ≡ true → (a || b) ≡ true
  or_left true b h = refl
  or_left false b h = absurd (false≢true h)

  or_both : (a b : Bool) → b ≡ true → (a || b) ≡ true
  or_both true b h = refl
  or_both false b h = h

  -- the owner of a path on which a snapshot bears
  bears_owner : (q : PathName) (time : ℕ) → bears_on SnapUser q time ≡ true → q.owner ≡ SnapUser
  bears_owner q time bears = go (is_under q (shown_root SnapUser time)) refl bears
    where
      go : (b : Bool) → is_under q (shown_root SnapUser time) ≡ b → (b || is_under (shown_root SnapUser time) q) ≡ true → q.owner ≡ SnapUser
      go true e h = (below_of SnapUser time q e).owned
      go false e h = sym (ap (λ (p : PathName). p.owner) (above_of SnapUser time q h))

  -- one that bears on a path of four elements or more has it below its root
  bears_below : (q : PathName) (time : ℕ) → bears_on SnapUser q time ≡ true → 4 ≤ length q.elements → IsBelow SnapUser time q
  bears_below q time bears size = go (is_under q (shown_root SnapUser time)) refl bears
    where
      go : (b : Bool) → is_under q (shown_root SnapUser time) ≡ b → (b || is_under (shown_root SnapUser time) q) ≡ true → IsBelow SnapUser time q
      go true e h = below_of SnapUser time q e
      go false e h = subst (IsBelow SnapUser time) (sym (above_whole SnapUser time q h size)) (root_below SnapUser time)

  not_below : (q : PathName) (time : ℕ) → length q.elements < 4 → is_under q (shown_root SnapUser time) ≡ false
  not_below q time low = go (is_under q (shown_root SnapUser time)) refl
    where
      go : (b : Bool) → is_under q (shown_root SnapUser time) ≡ b → is_under q (shown_root SnapUser time) ≡ false
      go false e = e
      go true e = let below = below_of SnapUser time q e in absurd (omega (arith, below.size, low))

  -- a made-up directory stands at each path above a root
  made_stands : (q : PathName) (place time : ℕ) → place < length records → slice_get records place ≡ Some (Snap time) → bears_on SnapUser q time ≡ true → length q.elements < 4 → HasDirectory All q
  made_stands q place time within takes bears low =
      let found = first_there q place time within takes bears in (
        made_up owner found.0.time found.0.position q,
        told owner records is q (length records) ∙ ap (option_and_then (shown_node owner records q)) found.1
            ∙ made_above owner records is q found.0 (bears_owner q time bears) (not_below q found.0.time low),
        refl,
      )

  above_bears : (q : PathName) (n time : ℕ) → n ≤ 4 → q ≡ cut n (shown_root SnapUser time) → bears_on SnapUser q time ≡ true
  above_bears q n time few same = or_both (is_under q (shown_root SnapUser time)) (is_under (shown_root SnapUser time) q) (above_is SnapUser time q n few same)

  -- the first is the one below whose root the path is
  below_first : (q : PathName) (place time : ℕ) → place < length records → slice_get records place ≡ Some (Snap time) → IsBelow SnapUser time q →
      first_to SnapUser records q (length records) ≡ Some (record { position = suc place; time = time })
  below_first q place time within takes below =
      let found = first_there q place time within takes (or_left (is_under q (shown_root SnapUser time)) (is_under (shown_root SnapUser time) q) (below_is SnapUser time q below)) in
      let other = bears_below q found.0.time found.2.bears below.size in
      let times : found.0.time ≡ time = one_moment SnapUser SnapUser found.0.time time q (calendar owner records is q found.2.place found.0.time found.2.takes) (calendar owner records is q place time takes) other below in
      let places : found.2.place ≡ place = one_place owner records is time found.2.place place (found.2.takes ∙ ap (λ t. Some (Snap t)) times) takes in
      found.1
      ∙ ap (λ n. Some (record { position = n; time = found.0.time })) (found.2.position ∙ ap suc places)
      ∙ ap (λ t. Some (record { position = suc place; time = t })) times

  pub stands_below : (q : PathName) (place time : ℕ) → place < length records → slice_get records place ≡ Some (Snap time) → IsBelow SnapUser time q →
      node_at All q ≡ kept_node owner records q place
  stands_below q place time within takes below =
      told owner records is q (length records) ∙ ap (option_and_then (shown_node owner records q)) (below_first q place time within takes below)
      ∙ kept_below owner records is q place time below.owned (below_is SnapUser time q below)

  -- ---- at its name

  kept_some : (q : PathName) (n : ℕ) (node : Node) → kept_node owner records q n ≡ Some node →
      (is_short q ≡ true) × ((old : Node) × (node_at (tree_at records n) (old_path owner q) ≡ Some old) × (renamed q old ≡ node))
  kept_some q n node h = go (is_short q) refl h
    where
      by : (o : Option Node) → node_at (tree_at records n) (old_path owner q) ≡ o → option_map (renamed q) o ≡ Some node → (old : Node) × (node_at (tree_at records n) (old_path owner q) ≡ Some old) × (renamed q old ≡ node)
      by None e k = absurd (some_none node (sym k))
      by (Some old) e k = (old, e, some_same (renamed q old) node k)

      go : (b : Bool) → is_short q ≡ b → (if b then option_map (renamed q) (node_at (tree_at records n) (old_path owner q)) else None) ≡ Some node →
          (is_short q ≡ true) × ((old : Node) × (node_at (tree_at records n) (old_path owner q) ≡ Some old) × (renamed q old ≡ node))
      go false e k = absurd (some_none node (sym k))
      go true e k = (e, by (node_at (tree_at records n) (old_path owner q)) refl k)

  -- what is shown: an item that is kept, or a directory
  shown_cases : (q : PathName) (s : Shown) (node : Node) → shown_node owner records q s ≡ Some node →
      ((is_under q (shown_root q.owner s.time) ≡ true) × (kept_node owner records q (s.position - 1) ≡ Some node)) ⊎ ((is_under q (shown_root q.owner s.time) ≡ false) × (made_up owner s.time s.position q ≡ node))
  unfolding shown_node
  shown_cases q s node h = go (is_under q (shown_root q.owner s.time)) refl h
    where
      go : (b : Bool) → is_under q (shown_root q.owner s.time) ≡ b → (if b then kept_node owner records q (s.position - 1) else Some (made_up owner s.time s.position q)) ≡ Some node →
          ((is_under q (shown_root q.owner s.time) ≡ true) × (kept_node owner records q (s.position - 1) ≡ Some node)) ⊎ ((is_under q (shown_root q.owner s.time) ≡ false) × (made_up owner s.time s.position q ≡ node))
      go true e k = inl (e, k)
      go false e k = inr (e, some_same (made_up owner s.time s.position q) node k)

  shown_named : (q : PathName) (node : Node) → node_at All q ≡ Some node → node.entry.name ≡ q
  shown_named q node there =
      let st = stands_by q node there in
      elim (shown_cases q st.shown node st.is_shown) [
        | inl kept ↦ let k = kept_some q (st.shown.position - 1) node kept.1 in ap (λ (n : Node). n.entry.name) (sym k.1.2)
        | inr made ↦ ap (λ (n : Node). n.entry.name) (sym made.1)
      ]

  -- ---- in a directory

  abbrev Placed : PathName → Type 0
  Placed q = HasPlace SnapUser All q

  placed_in : (q : PathName) (n : ℕ) → length q.elements ≡ suc n → HasDirectory All (cut n q) → Placed q
  placed_in q n size dir = subst (λ o. MatchOption o (q.owner ≡ SnapUser) (HasDirectory All)) (sym (parent_is q n size)) dir

  cut_root : (q : PathName) (time n m : ℕ) → n ≤ m → q ≡ cut m (shown_root SnapUser time) → cut n q ≡ cut n (shown_root SnapUser time)
  cut_root q time n m few same = ap (cut n) same ∙ cut_cut n m (shown_root SnapUser time) few

  -- above a root
  placed_above : (q : PathName) (place time m : ℕ) → place < length records → slice_get records place ≡ Some (Snap time) → m ≤ 4 → length q.elements ≡ m → q ≡ cut m (shown_root SnapUser time) → Placed q
  placed_above q place time zero within takes few size same =
      subst (λ o. MatchOption o (q.owner ≡ SnapUser) (HasDirectory All)) (sym (parent_none q size)) (ap (λ (p : PathName). p.owner) same)
  placed_above q place time (suc n) within takes few size same =
      placed_in q n size
      (made_stands (cut n q) place time within takes (above_bears (cut n q) n time (omega (arith, few)) (cut_root q time n (suc n) (omega arith) same))
      (let e = length_cut n q (omega (arith, size)) in omega (arith, e, few)))

  none_taken : (k : ℕ) → ◌≡◌ {A = List (List ℕ)} (take k []) []
  none_taken zero = refl
  none_taken (suc k) = refl

  old_cut : (q : PathName) (k : ℕ) → cut k (old_path owner q) ≡ old_path owner (cut (4 + k) q)
  old_cut q k =
      ap (λ es. record { owner = owner; elements = es }) (go q.elements k)
      ∙ ap (λ n. record { owner = owner; elements = drop 4 (take n q.elements) }) (let e : suc (suc (suc (suc k))) ≡ 4 + k = omega arith in e)
    where
      go : (xs : List (List ℕ)) (k : ℕ) → take k (drop 4 xs) ≡ drop 4 (take (suc (suc (suc (suc k)))) xs)
      go [] k = none_taken k
      go (a ∷ []) k = none_taken k
      go (a ∷ b ∷ []) k = none_taken k
      go (a ∷ b ∷ c ∷ []) k = none_taken k
      go (a ∷ b ∷ c ∷ d ∷ xs) k = refl

  old_length : (q : PathName) → 4 ≤ length q.elements → length q.elements ≡ 4 + length (old_path owner q).elements
  old_length q size = go q.elements size
    where
      go : (xs : List (List ℕ)) → 4 ≤ length xs → length xs ≡ 4 + length (drop 4 xs)
      go [] h = absurd (omega (arith, h))
      go (a ∷ []) h = absurd (omega (arith, h))
      go (a ∷ b ∷ []) h = absurd (omega (arith, h))
      go (a ∷ b ∷ c ∷ []) h = absurd (omega (arith, h))
      go (a ∷ b ∷ c ∷ d ∷ xs) h = omega arith

  cut_below : (q : PathName) (time n : ℕ) → IsBelow SnapUser time q → 4 ≤ n → n ≤ length q.elements → IsBelow SnapUser time (cut n q)
  cut_below q time n below low few = record {
    owned = below.owned;
    front = ap (λ (p : PathName). p.elements) (cut_cut 4 n q low) ∙ below.front;
    size = let e = length_cut n q few in omega (arith, e, low);
  }

  short_cut : (q : PathName) (n : ℕ) → is_short q ≡ true → is_short (cut n q) ≡ true
  short_cut q n short = le-leb (length (canonical (cut n q))) 4096 (let s = leb-true (length (canonical q)) 4096 short in let c = length-canonical-cut n q in omega (arith, s, c))

  -- below a root, and not the root
  placed_below : (q : PathName) (node : Node) (place time k : ℕ) → place < length records → slice_get records place ≡ Some (Snap time) → IsBelow SnapUser time q → length (old_path owner q).elements ≡ suc k →
      kept_node owner records q place ≡ Some node → Placed q
  placed_below q node place time k within takes below size kept =
      let whole = old_length q below.size in
      let some = kept_some q place node kept in
      let old_dir : HasDirectory (tree_at records place) (cut k (old_path owner q)) =
      subst (λ o. MatchOption o ((old_path owner q).owner ≡ owner) (HasDirectory (tree_at records place))) (parent_is (old_path owner q) k size) ((rooted_then owner records is q place).placed (old_path owner q) some.1.0 some.1.1) in
      let up : PathName = cut (4 + k) q in
      let there : node_at (tree_at records place) (old_path owner up) ≡ Some old_dir.0 = ap (node_at (tree_at records place)) (sym (old_cut q k)) ∙ old_dir.1 in
      let few : 4 + k ≤ length q.elements = omega (arith, whole, size) in
      let stands : node_at All up ≡ Some (renamed up old_dir.0) =
      stands_below up place time within takes (cut_below q time (4 + k) below (omega arith) few)
      ∙ ap (λ b. if b then option_map (renamed up) (node_at (tree_at records place) (old_path owner up)) else None) (short_cut q (4 + k) some.0)
      ∙ ap (option_map (renamed up)) there in
      placed_in q (4 + k) (omega (arith, whole, size)) (renamed up old_dir.0, stands, old_dir.2)

  module _ (q : PathName) (node : Node) (there : node_at All q ≡ Some node) (s : Shown) (first : IsFirst SnapUser records q (length records) s) where
    above : (m : ℕ) → length q.elements ≡ m → m ≤ 4 → is_under (shown_root SnapUser s.time) q ≡ true → Placed q
    above m size few under = placed_above q first.place s.time m first.within first.takes few size (sym (above_of SnapUser s.time q under) ∙ ap (λ n. cut n (shown_root SnapUser s.time)) size)

    low_bears : length q.elements < 4 → (b : Bool) → is_under q (shown_root SnapUser s.time) ≡ b → (b || is_under (shown_root SnapUser s.time) q) ≡ true → is_under (shown_root SnapUser s.time) q ≡ true
    low_bears low true e h = absurd (false≢true (sym (not_below q s.time low) ∙ e))
    low_bears low false e h = h

    four_root : IsBelow SnapUser s.time q → cut 4 q ≡ cut 4 (shown_root SnapUser s.time)
    four_root below =
        ap (λ o. record { owner = o; elements = take 4 q.elements }) below.owned
        ∙ ap (λ es. record { owner = SnapUser; elements = es }) (below.front ∙ sym (root_below SnapUser s.time).front)

    by_old : (k : ℕ) → length (old_path owner q).elements ≡ k → IsBelow SnapUser s.time q → Placed q
    by_old zero size below =
        let four : length q.elements ≡ 4 = let w = old_length q below.size in omega (arith, w, size) in
        let root : is_under (shown_root SnapUser s.time) q ≡ true = above_is SnapUser s.time q 4 (omega arith) (sym (cut_whole q) ∙ ap (λ n. cut n q) four ∙ four_root below) in
        above 4 four (omega arith) root
    by_old (suc k) size below = placed_below q node first.place s.time k first.within first.takes below size (sym (stands_below q first.place s.time first.within first.takes below) ∙ there)

    placed_by : (length q.elements < 4) ⊎ (4 ≤ length q.elements) → Placed q
    placed_by (inl low) = above (length q.elements) refl (omega (arith, low)) (low_bears low (is_under q (shown_root SnapUser s.time)) refl first.bears)
    placed_by (inr high) = by_old (length (old_path owner q).elements) refl (bears_below q s.time first.bears high)

  shown_placed : (q : PathName) (node : Node) → node_at All q ≡ Some node → Placed q
  shown_placed q node there = let st = stands_by q node there in placed_by q node there st.shown st.first (cases_lt (length q.elements) 4)

  pub shown_rooted : IsRooted (snapshot_user owner) (snapshots_to owner records (length records))
  shown_rooted = record { ordered = shown_sorted owner records (length records); named = shown_named; placed = shown_placed }
