-- The items of a directory that a snapshot shows: those that stood in the old one.
use Rattle.std.proofs.Common.{◌≡◌, ℕ, suc, ◌-◌, ◌<◌, ◌≤◌, Bool, true, false, not, ◌&&◌, List, [], ◌∷◌, ◌++◌, drop, filter, length, take, refl, sym, ap, ◌∙◌, arith, Option, Some, None}
use Rattle.std.specs.Prelude.{if◌then◌else◌, nat_lt, slice_get, Result, Ok, Err}
use Rattle.up_names.specs.Faults.{Gives}
use Rattle.up_names.specs.declared.fault.NameFault.{NameFault}
use Rattle.up_names.specs.declared.fault.NameFault.TheVariants.{AtSigns, Domain, Element, Local, OutOfMemory, Suffix, TooLong}
use Rattle.std.specs.FinMap.Entries.{find}
use Rattle.std.specs.List.{filter_map, list_all}
use Rattle.std.specs.Option.{option_map}
use Rattle.std.proofs.lemmas.Bool.{and_from, false≢true, lt-leb, le-leb, ltb-false, ltb-true}
use Rattle.std.proofs.lemmas.List.{length-append, take-append-le}
use Rattle.up_names.specs.PathNames.{PathName, canonical, extended, is_name, is_under, joined}
use Rattle.up_names.specs.PathOrder.{path_cmp}
use Rattle.up_entry.specs.declared.entries.Entry.{Entry}
use Rattle.up_entry.specs.declared.records.Rec.{Rec}
use Rattle.up_entry.specs.declared.records.Rec.TheVariants.{Snap}
use Rattle.up_list.specs.Entries.{entries_in, entry_at, entry_of}
use Rattle.up_mem_tree.specs.Slots.{named_paths}
use Rattle.up_mem_tree.proofs.Named.{named_later, rising_named, unnamed_none}
use Rattle.up_log_tree.specs.Fits.{IsLog, snapshot_user}
use Rattle.up_log_tree.specs.Orders.{has_path as has}
use Rattle.up_log_tree.specs.Trees.{is_parent, last_element, node_at, tree_at}
use Rattle.up_log_tree.specs.declared.node.Node.{Node}
use Rattle.up_log_tree.proofs.Paths.{extended_last, is_parent_of, last_extended, parent_extended, parent_passes}
use Rattle.up_log_tree.proofs.Rising.{has-filter, rising-filter}
use Rattle.up_answers.specs.SnapshotTrees.{snapshots_to}
use Rattle.up_snap.specs.Listed.{IsTaken, kept_entry, short_path}
use Rattle.up_snap.specs.Shown.{first_to, is_short, old_path, renamed, shown_root}
use Rattle.up_snap.specs.declared.shown.Shown.{Shown}
use Rattle.up_snap.proofs.ListedLemmas.{listed_is, under_elsewhere, under_found, under_names, under_sorted, under_values}
use Rattle.up_snap.proofs.PlacedLemmas.{shown_sorted, stands_below}
use Rattle.up_snap.proofs.ShownLemmas.{first_is}
use Rattle.up_snap.proofs.UnderLemmas.{IsBelow, below_if}

all_filtered : {X : Type 0} (test : X → Bool) (xs : List X) → list_all test (filter test xs) ≡ true
all_filtered test [] = refl
all_filtered test (x ∷ xs) = go (test x) refl (all_filtered test xs)
  where
    go : (b : Bool) → test x ≡ b → list_all test (filter test xs) ≡ true → list_all test (if b then x ∷ filter test xs else filter test xs) ≡ true
    go true is rest = and_from (test x) (list_all test (filter test xs)) is rest
    go false is rest = rest

-- the elements behind the fourth, with one more
four_more : (xs : List (List ℕ)) (x : List ℕ) → 4 ≤ length xs → drop 4 (xs ++ x ∷ []) ≡ drop 4 xs ++ x ∷ []
four_more [] x h = absurd (omega (arith, h))
four_more (a ∷ []) x h = absurd (omega (arith, h))
four_more (a ∷ b ∷ []) x h = absurd (omega (arith, h))
four_more (a ∷ b ∷ c ∷ []) x h = absurd (omega (arith, h))
four_more (a ∷ b ∷ c ∷ d ∷ xs) x h = refl

module _ (owner : List ℕ) (records : List Rec) (is : IsLog owner records) (dir : PathName) (place time : ℕ) (within : place < length records) (takes : slice_get records place ≡ Some (Snap time)) (below : IsBelow (snapshot_user owner) time dir) where
  abbrev old : PathName
  old = old_path owner dir

  abbrev paths : List PathName
  paths = filter (is_parent old) (named_paths records)

  abbrev make : PathName → Option Entry
  make p = kept_entry records dir place p

  child_old : (x : List ℕ) → old_path owner (extended dir x) ≡ extended old x
  child_old x = ap (λ es. record { owner = owner; elements = es }) (four_more dir.elements x below.size)

  child_below : (x : List ℕ) → IsBelow (snapshot_user owner) time (extended dir x)
  child_below x = record {
    owned = below.owned;
    front = take-append-le 4 dir.elements (x ∷ []) below.size ∙ below.front;
    size = let e = length-append dir.elements (x ∷ []) in let b = below.size in omega (arith, e, b);
  }

  -- what is made of a path is what stands at its name
  made_is : (x : List ℕ) → make (extended old x) ≡ entry_at (snapshots_to owner records (length records)) (extended dir x)
  made_is x =
      ap (λ y. if is_short (extended dir y) then option_map (λ node. entry_of (renamed (extended dir y) node)) (node_at (tree_at records place) (extended old x)) else None) (last_extended old x)
      ∙ ap (λ p. if is_short (extended dir x) then option_map (λ node. entry_of (renamed (extended dir x) node)) (node_at (tree_at records place) p) else None) (sym (child_old x))
      ∙ go (is_short (extended dir x)) (node_at (tree_at records place) (old_path owner (extended dir x)))
      ∙ sym (ap (option_map entry_of) (stands_below owner records is (extended dir x) place time within takes (child_below x)))
    where
      go : (b : Bool) (o : Option Node) → (if b then option_map (λ node. entry_of (renamed (extended dir x) node)) o else None) ≡ option_map entry_of (if b then option_map (renamed (extended dir x)) o else None)
      go true None = refl
      go true (Some n) = refl
      go false o = refl

  -- nothing is made of a path that no record names
  unnamed : (x : List ℕ) → has paths (extended old x) ≡ false → make (extended old x) ≡ None
  unnamed x none =
      let p : PathName = extended old x in
      let parent : is_parent old p ≡ true = parent_passes old p (parent_extended old x) in
      let no_name : has (named_paths records) p ≡ false = sym (ap (λ b. b && has (named_paths records) p) parent) ∙ sym (has-filter (is_parent old) (named_paths records) p) ∙ none in
      let then_none : node_at (tree_at records place) p ≡ None = unnamed_none (take place records) p (earlier p no_name (has (named_paths (take place records)) p) refl) in
      ap (λ o. if is_short (extended dir (last_element p)) then option_map (λ node. entry_of (renamed (extended dir (last_element p)) node)) o else None) then_none
      ∙ go (is_short (extended dir (last_element p)))
    where
      go : (b : Bool) → ◌≡◌ {A = Option Entry} (if b then None else None) None
      go true = refl
      go false = refl

      earlier : (p : PathName) → has (named_paths records) p ≡ false → (b : Bool) → has (named_paths (take place records)) p ≡ b → has (named_paths (take place records)) p ≡ false
      earlier p no_name true h = absurd (false≢true (sym no_name ∙ named_later records place p h))
      earlier p no_name false h = h

  each : (q : PathName) → find path_cmp q (under_names dir old make paths) ≡ (if is_parent dir q then entry_at (snapshots_to owner records (length records)) q else None)
  each q = go (is_parent dir q) refl
    where
      by : (x : List ℕ) (b : Bool) → has paths (extended old x) ≡ b → (if b then make (extended old x) else None) ≡ make (extended old x)
      by x true h = refl
      by x false h = sym (unnamed x h)

      go : (b : Bool) → is_parent dir q ≡ b → find path_cmp q (under_names dir old make paths) ≡ (if b then entry_at (snapshots_to owner records (length records)) q else None)
      go true parent =
          let name : q ≡ extended dir (last_element q) = extended_last q dir (is_parent_of dir q parent) in
          ap (λ p. find path_cmp p (under_names dir old make paths)) name
          ∙ under_found dir old make (last_element q) paths (rising-filter (is_parent old) (named_paths records) (rising_named records)) (all_filtered (is_parent old) (named_paths records))
          ∙ by (last_element q) (has paths (extended old (last_element q))) refl
          ∙ made_is (last_element q)
          ∙ ap (entry_at (snapshots_to owner records (length records))) (sym name)
      go false other = under_elsewhere dir old make q other paths

  -- the items that are found are those of the tree
  pub kept_listed : (found : List Entry) → found ≡ filter_map make paths → found ≡ entries_in (snapshots_to owner records (length records)) dir
  kept_listed found h =
      h ∙ sym (under_values dir old make paths)
      ∙ listed_is (snapshots_to owner records (length records)) dir (under_names dir old make paths) (shown_sorted owner records (length records))
      (under_sorted dir old make paths (rising-filter (is_parent old) (named_paths records) (rising_named records)) (all_filtered (is_parent old) (named_paths records))) each

  -- the same, of the snapshot and the old path that are at hand
  pub kept_done : (old' : PathName) (position : ℕ) (found : List Entry) → old' ≡ old → position ≡ suc place →
      found ≡ filter_map (kept_entry records dir (position - 1)) (filter (is_parent old') (named_paths records)) → found ≡ entries_in (snapshots_to owner records (length records)) dir
  kept_done old' position found same at h =
      kept_listed found
      (h ∙ ap (λ p. filter_map (kept_entry records dir (position - 1)) (filter (is_parent p) (named_paths records))) same
      ∙ ap (λ n. filter_map (kept_entry records dir n) paths) (let e : position - 1 ≡ place = omega (arith, at) in e))

-- ---- a name in the directory

module _ (dir : PathName) (x : List ℕ) where
  pub joined_ok : (path : PathName) → joined dir x ≡ Ok path → (path ≡ extended dir x) × (is_short (extended dir x) ≡ true)
  unfolding joined
  joined_ok path h = go (is_name x) (nat_lt 4096 (length (canonical (extended dir x)))) refl h
    where
      go : (a b : Bool) → nat_lt 4096 (length (canonical (extended dir x))) ≡ b →
          (if not a then Err (Element 0) else if b then Err (TooLong (length (canonical (extended dir x)))) else Ok (extended dir x)) ≡ Ok path → (path ≡ extended dir x) × (is_short (extended dir x) ≡ true)
      go false b e h = absurd (cc)
      go true true e h = absurd (cc)
      go true false e h = ((let s : extended dir x ≡ path = cc in sym s), le-leb (length (canonical (extended dir x))) 4096 (ltb-false 4096 (length (canonical (extended dir x))) e))

  pub joined_long : (n : ℕ) → joined dir x ≡ Err (TooLong n) → is_short (extended dir x) ≡ false
  unfolding joined
  joined_long n h = go (is_name x) (nat_lt 4096 (length (canonical (extended dir x)))) refl h
    where
      go : (a b : Bool) → nat_lt 4096 (length (canonical (extended dir x))) ≡ b →
          (if not a then Err (Element 0) else if b then Err (TooLong (length (canonical (extended dir x)))) else Ok (extended dir x)) ≡ Err (TooLong n) → is_short (extended dir x) ≡ false
      go false b e h = absurd (cc)
      go true false e h = absurd (cc)
      go true true e h = lt-leb (length (canonical (extended dir x))) 4096 (ltb-true 4096 (length (canonical (extended dir x))) e)

module _ (records : List Rec) (dir : PathName) (n : ℕ) (old : PathName) where
  pub entry_none : None ≡ node_at (tree_at records n) old → None ≡ kept_entry records dir n old
  entry_none none =
      sym (ap (λ o. if is_short (extended dir (last_element old)) then option_map (λ node. entry_of (renamed (extended dir (last_element old)) node)) o else None) (sym none)
      ∙ go (is_short (extended dir (last_element old))))
    where
      go : (b : Bool) → ◌≡◌ {A = Option Entry} (if b then None else None) None
      go true = refl
      go false = refl

  pub entry_long : (m : ℕ) → joined dir (last_element old) ≡ Err (TooLong m) → None ≡ kept_entry records dir n old
  entry_long m h =
      sym (ap (λ b. if b then option_map (λ node. entry_of (renamed (extended dir (last_element old)) node)) (node_at (tree_at records n) old) else None) (joined_long dir (last_element old) m h))

  pub entry_some : (node : Node) (path : PathName) (entry : Entry) → Some node ≡ node_at (tree_at records n) old → joined dir (last_element old) ≡ Ok path → entry ≡ record (node.entry) { name = path } → Some entry ≡ kept_entry records dir n old
  entry_some node path entry there h is =
      let ok = joined_ok dir (last_element old) path h in
      ap (λ e. Some e) (is ∙ ap (λ p. record (node.entry) { name = p }) ok.0)
      ∙ sym (ap (λ b. if b then option_map (λ node. entry_of (renamed (extended dir (last_element old)) node)) (node_at (tree_at records n) old) else None) ok.1
      ∙ ap (option_map (λ node. entry_of (renamed (extended dir (last_element old)) node))) (sym there))

  -- the entry under the name that was made, or none
  pub entry_made : (node : Node) (made : Result PathName NameFault) (path : Option PathName) → Some node ≡ node_at (tree_at records n) old → Gives (λ p. p) made (joined dir (last_element old)) → short_path made ≡ Ok path
      → option_map (λ name. record (node.entry) { name = name }) path ≡ kept_entry records dir n old
  entry_made node (Ok p) path there gives is =
      let same : Some p ≡ path = cc in
      ap (option_map (λ (name : PathName). record (node.entry) { name = name })) (sym same) ∙ entry_some node p (record (node.entry) { name = p }) there gives refl
  entry_made node (Err (TooLong m)) path there gives is =
      let same : None ≡ path = cc in
      ap (option_map (λ (name : PathName). record (node.entry) { name = name })) (sym same) ∙ entry_long m (gives (λ memory. cc))
  entry_made node (Err (AtSigns k)) path there gives is = absurd (cc)
  entry_made node (Err Local) path there gives is = absurd (cc)
  entry_made node (Err Suffix) path there gives is = absurd (cc)
  entry_made node (Err Domain) path there gives is = absurd (cc)
  entry_made node (Err (Element k)) path there gives is = absurd (cc)
  entry_made node (Err OutOfMemory) path there gives is = absurd (cc)

-- ---- the first snapshot that bears on a path

module _ (snap_user : List ℕ) (records : List Rec) (path : PathName) (s : Shown) (first : first_to snap_user records path (length records) ≡ Some s) where
  pub first_taken : IsTaken records s
  first_taken = let is = first_is snap_user records path (length records) s first in record { place = is.place; within = is.within; takes = is.takes; position = is.position }

  pub first_below : 4 ≤ length path.elements → is_under path (shown_root snap_user s.time) ≡ true
  first_below long = below_if snap_user s.time path long (first_is snap_user records path (length records) s first).bears

-- ---- what a call gives

module _ {X Y : Type 0} (view : X → Y) (result : Result X NameFault) (meant : Result Y NameFault) where
  pub told_ok : (x : X) → Gives view result meant → result ≡ Ok x → meant ≡ Ok (view x)
  told_ok x gives is = go result gives is
    where
      go : (r : Result X NameFault) → Gives view r meant → r ≡ Ok x → meant ≡ Ok (view x)
      go (Ok y) g h = g ∙ ap (λ z. Ok (view z)) (let same : y ≡ x = cc in same)
      go (Err f) g h = absurd (cc)

  pub told_err : (fault : NameFault) (n : ℕ) → Gives view result meant → result ≡ Err fault → fault ≡ TooLong n → meant ≡ Err (TooLong n)
  told_err fault n gives is long = go result gives (is ∙ ap (λ f. Err f) long)
    where
      apart : TooLong n ≡ OutOfMemory → ⊥
      apart h = absurd (cc)

      go : (r : Result X NameFault) → Gives view r meant → r ≡ Err (TooLong n) → meant ≡ Err (TooLong n)
      go (Ok y) g h = absurd (cc)
      go (Err f) g h = let same : f ≡ TooLong n = cc in g (λ memory. apart (sym same ∙ memory)) ∙ ap (λ e. Err e) same
