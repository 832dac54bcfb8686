-- The items of a directory above the roots of snapshots, and of one that is not there.
use Rattle.std.proofs.Common.{◌≡◌, ℕ, zero, suc, ◌+◌, ◌<◌, Bool, true, false, cond, ◌||◌, List, [], ◌∷◌, ◌++◌, length, take, refl, sym, ap, subst, ◌∙◌, arith, Option, Some, None}
use Rattle.std.specs.Prelude.{MatchOption, if◌then◌else◌, is_some, nat_le, slice_get}
use Rattle.std.specs.FinMap.Entries.{find, find-put, is_sorted-put, put}
use Rattle.std.specs.List.{filter_map, list_all}
use Rattle.std.specs.Map.{keys_of}
use Rattle.std.specs.Option.{option_and_then, option_map}
use Rattle.std.specs.Ordering.{eq_by_cmp}
use Rattle.std.proofs.lemmas.Bool.{and_from, false≢true}
use Rattle.std.proofs.lemmas.Grind.{fold-append}
use Rattle.up_names.specs.PathNames.{PathName, cut, extended, is_under, parent_of}
use Rattle.up_names.specs.PathOrder.{path_cmp, path_eq}
use Rattle.up_names.specs.PathOrderLaws.{path_cmp_eq, path_cmp_total}
use Rattle.up_entry.specs.declared.entries.Entry.{Entry}
use Rattle.up_entry.specs.declared.records.Rec.{Rec}
use Rattle.up_list.specs.Entries.{entries_in, entry_at, entry_of}
use Rattle.up_log_tree.specs.Fits.{HasDirectory, IsLog, snapshot_user}
use Rattle.up_log_tree.specs.Orders.{are_rising, has_path as has}
use Rattle.up_log_tree.specs.Snapshots.{snap_at, snapshots_of}
use Rattle.up_log_tree.specs.Trees.{Tree, is_parent, last_element, node_at}
use Rattle.up_log_tree.specs.declared.node.Node.{Node}
use Rattle.up_log_tree.proofs.Paths.{cut_cut, cut_whole, extended_last, is_parent_of, length_cut, parent_is, parent_none, parent_passes, path_eq_itself, path_same, some_none, some_same}
use Rattle.up_log_tree.proofs.Fronts.{take_next}
use Rattle.up_log_tree.proofs.Trees.{rising_keys}
use Rattle.up_answers.specs.SnapshotTrees.{snapshots_to}
use Rattle.up_snap.specs.Firsts.{bearing_at, least_to, sooner}
use Rattle.up_snap.specs.Listed.{IsNaming}
use Rattle.up_snap.specs.Shown.{bears_on, first_to, shown_node, shown_root}
use Rattle.up_snap.specs.declared.shown.Shown.{Shown}
use Rattle.up_snap.proofs.FirstLemmas.{least_is}
use Rattle.up_snap.proofs.ListedLemmas.{listed_is, under_elsewhere, under_found, under_names, under_sorted, under_values}
use Rattle.up_snap.proofs.PlacedLemmas.{shown_rooted, shown_sorted}
use Rattle.up_snap.proofs.ShownLemmas.{told}
use Rattle.up_snap.proofs.UnderLemmas.{above_few, above_is, above_of, below_of, moment_length}

module _ (snap_user : List ℕ) (dir : PathName) where
  -- a snapshot bears on a path in the directory exactly where the path is above its root, or is it
  module _ (time : ℕ) where
    abbrev Root : PathName
    Root = shown_root snap_user time

    child_length : (q : PathName) → is_parent dir q ≡ true → length q.elements ≡ suc (length dir.elements)
    child_length q parent = go (length q.elements) refl (is_parent_of dir q parent)
      where
        go : (n : ℕ) → length q.elements ≡ n → parent_of q ≡ Some dir → length q.elements ≡ suc (length dir.elements)
        go zero size is = absurd (some_none dir (sym is ∙ parent_none q size))
        go (suc n) size is =
            let e : length (cut n q).elements ≡ length dir.elements = ap (λ (p : PathName). length p.elements) (some_same (cut n q) dir (sym (parent_is q n size) ∙ is)) in
            let f = length_cut n q (omega (arith, size)) in
            omega (arith, size, e, f)

    child_cut : (q : PathName) → is_parent dir q ≡ true → cut (length dir.elements) q ≡ dir
    child_cut q parent =
        some_same (cut (length dir.elements) q) dir (sym (parent_is q (length dir.elements) (child_length q parent)) ∙ is_parent_of dir q parent)

    -- a root above whose path is above the path's directory
    above_parent : (q : PathName) → is_parent dir q ≡ true → is_under Root q ≡ true → is_under Root dir ≡ true
    above_parent q parent above =
        let size = child_length q parent in
        let few = above_few snap_user time q above in
        above_is snap_user time dir (length dir.elements) (omega (arith, size, few))
        (sym (child_cut q parent) ∙ ap (cut (length dir.elements)) (sym (above_of snap_user time q above)) ∙ cut_cut (length dir.elements) (length q.elements) Root (omega (arith, size)))

    module _ (low : length dir.elements < 4) (above : is_under Root dir ≡ true) (name : PathName) (is : name ≡ cut (length dir.elements + 1) Root) where
      name_parent : is_parent dir name ≡ true
      name_parent =
          let four = moment_length time in
          let size : length name.elements ≡ suc (length dir.elements) =
          ap (λ (p : PathName). length p.elements) is ∙ length_cut (length dir.elements + 1) Root (omega (arith, four, low)) ∙ (let e : length dir.elements + 1 ≡ suc (length dir.elements) = omega arith in e) in
          parent_passes dir name
          (parent_is name (length dir.elements) size
          ∙ ap Some (ap (cut (length dir.elements)) is ∙ cut_cut (length dir.elements) (length dir.elements + 1) Root (omega arith) ∙ above_of snap_user time dir above))

      same_name : (q : PathName) → is_parent dir q ≡ true → path_eq q name ≡ is_under Root q
      same_name q parent = go (is_under Root q) refl (path_eq q name) refl
        where
          size : length q.elements ≡ suc (length dir.elements)
          size = child_length q parent

          go : (a : Bool) → is_under Root q ≡ a → (b : Bool) → path_eq q name ≡ b → b ≡ a
          go true e true f = refl
          go false e false f = refl
          go true e false f =
              let same : q ≡ name = sym (above_of snap_user time q e) ∙ ap (λ n. cut n Root) (size ∙ (let k : suc (length dir.elements) ≡ length dir.elements + 1 = omega arith in k)) ∙ sym is in
              absurd (false≢true (sym f ∙ ap (path_eq q) (sym same) ∙ path_eq_itself q))
          go false e true f =
              absurd (false≢true (sym e ∙ above_is snap_user time q (length dir.elements + 1) (omega (arith, low)) (path_same q name f ∙ is)))

    bears_child : (q : PathName) → length dir.elements < 4 → is_parent dir q ≡ true → bears_on snap_user q time ≡ is_under Root q
    bears_child q low parent = go (is_under Root q) refl (is_under q Root) refl
      where
        go : (a : Bool) → is_under Root q ≡ a → (b : Bool) → is_under q Root ≡ b → bears_on snap_user q time ≡ a
        go a e false f = ap (λ b. b || is_under Root q) f ∙ e
        go true e true f = ap (λ b. b || is_under Root q) f
        go false e true f =
            let below = below_of snap_user time q f in
            let size = child_length q parent in
            let four : length q.elements ≡ 4 = omega (arith, size, low, below.size) in
            let root : q ≡ Root =
            sym (cut_whole q) ∙ ap (λ n. cut n q) four
            ∙ ap (λ o. record { owner = o; elements = take 4 q.elements }) below.owned
            ∙ ap (λ es. record { owner = snap_user; elements = es }) below.front in
            absurd (false≢true (sym e ∙ above_is snap_user time q 4 (omega arith) (root ∙ sym (cut_whole Root) ∙ ap (λ n. cut n Root) (moment_length time))))

    module _ (records : List Rec) where
      none_at : (q : PathName) → snap_at records time ≡ None → bearing_at snap_user records q time ≡ None
      none_at q none = go (bears_on snap_user q time)
        where
          go : (b : Bool) → ◌≡◌ {A = Option Shown} (if b then option_map (λ position. record { position = position; time = time }) (snap_at records time) else None) None
          go true = ap (option_map {U = Shown} (λ position. record { position = position; time = time })) none
          go false = refl

      none_by : (q : PathName) → bears_on snap_user q time ≡ false → bearing_at snap_user records q time ≡ None
      none_by q apart = ap (λ b. if b then option_map {U = Shown} (λ position. record { position = position; time = time }) (snap_at records time) else None) apart

      some_by : (q : PathName) (position : ℕ) → bears_on snap_user q time ≡ true → snap_at records time ≡ Some position → bearing_at snap_user records q time ≡ Some (record { position = position; time = time })
      some_by q position bears there =
          ap (λ b. if b then option_map {U = Shown} (λ position. record { position = position; time = time }) (snap_at records time) else None) bears
          ∙ ap (option_map {U = Shown} (λ position. record { position = position; time = time })) there

      -- one moment more
      least_more : (q : PathName) (times : List ℕ) → least_to snap_user records q (times ++ time ∷ []) ≡ sooner (least_to snap_user records q times) (bearing_at snap_user records q time)
      unfolding least_to
      least_more q times = fold-append (λ f t. sooner f (bearing_at snap_user records q t)) None times (time ∷ [])

      sooner_none : (o : Option Shown) → sooner o None ≡ o
      sooner_none None = refl
      sooner_none (Some one) = refl

      least_same : (q : PathName) (times : List ℕ) → bearing_at snap_user records q time ≡ None → least_to snap_user records q (times ++ time ∷ []) ≡ least_to snap_user records q times
      least_same q times none = least_more q times ∙ ap (sooner (least_to snap_user records q times)) none ∙ sooner_none (least_to snap_user records q times)

      module _ (times : List ℕ) (named : List (PathName × Shown)) (so_far : IsNaming snap_user records dir times named) where
        same_when : ((q : PathName) → is_parent dir q ≡ true → bearing_at snap_user records q time ≡ None) → IsNaming snap_user records dir (times ++ time ∷ []) named
        same_when nothing = record { sorted = so_far.sorted; each = λ q. so_far.each q ∙ go q (is_parent dir q) refl }
          where
            go : (q : PathName) (b : Bool) → is_parent dir q ≡ b → (if b then least_to snap_user records q times else None) ≡ (if b then least_to snap_user records q (times ++ time ∷ []) else None)
            go q true e = sym (least_same q times (nothing q e))
            go q false e = refl

        -- there is no snapshot of that moment
        pub naming_without : snap_at records time ≡ None → IsNaming snap_user records dir (times ++ time ∷ []) named
        naming_without none = same_when (λ q parent. none_at q none)

        -- its root is elsewhere
        pub naming_less : length dir.elements < 4 → is_under Root dir ≡ false → IsNaming snap_user records dir (times ++ time ∷ []) named
        naming_less low apart = same_when (λ q parent. none_by q (bears_child q low parent ∙ go q parent (is_under Root q) refl))
          where
            go : (q : PathName) → is_parent dir q ≡ true → (b : Bool) → is_under Root q ≡ b → b ≡ false
            go q parent false e = refl
            go q parent true e = absurd (false≢true (sym apart ∙ above_parent q parent e))

        -- its root is below the directory
        pub naming_more : length dir.elements < 4 → is_under Root dir ≡ true → (position : ℕ) → snap_at records time ≡ Some position → (name : PathName) → name ≡ cut (length dir.elements + 1) Root →
            (first : Shown) → Some first ≡ sooner (find path_cmp name named) (Some (record { position = position; time = time })) → IsNaming snap_user records dir (times ++ time ∷ []) (put path_cmp name first named)
        naming_more low above position there name is first least = record {
          sorted = is_sorted-put path_cmp path_cmp_total name first named so_far.sorted;
          each = λ q. find-put path_cmp path_cmp_total q name first named ∙ ap (λ b. cond b (Some first) (find path_cmp q named)) (sym (path_cmp_eq q name)) ∙ go q (is_parent dir q) refl (path_eq q name) refl;
        }
          where
            go : (q : PathName) (b : Bool) → is_parent dir q ≡ b → (c : Bool) → path_eq q name ≡ c →
                cond c (Some first) (find path_cmp q named) ≡ (if b then least_to snap_user records q (times ++ time ∷ []) else None)
            go q false e true f = absurd (false≢true (sym e ∙ ap (is_parent dir) (path_same q name f) ∙ name_parent low above name is))
            go q false e false f = so_far.each q ∙ ap (λ b. if b then least_to snap_user records q times else None) e
            go q true e false f =
                so_far.each q ∙ ap (λ b. if b then least_to snap_user records q times else None) e
                ∙ sym (least_same q times (none_by q (bears_child q low e ∙ sym (same_name low above name is q e) ∙ f)))
            go q true e true f =
                let same : q ≡ name = path_same q name f in
                let bears : bears_on snap_user q time ≡ true = bears_child q low e ∙ sym (same_name low above name is q e) ∙ f in
                least ∙ ap (λ o. sooner o (Some (record { position = position; time = time }))) (ap (λ p. find path_cmp p named) (sym same) ∙ so_far.each q ∙ ap (λ b. if b then least_to snap_user records q times else None) e)
                ∙ ap (sooner (least_to snap_user records q times)) (sym (some_by q position bears there))
                ∙ sym (least_more q times)

pub naming_none : (snap_user : List ℕ) (records : List Rec) (dir : PathName) → IsNaming snap_user records dir [] []
unfolding least_to
naming_none snap_user records dir = record { sorted = tt; each = λ q. go (is_parent dir q) }
  where
    go : (b : Bool) → ◌≡◌ {A = Option Shown} None (if b then None else None)
    go true = refl
    go false = refl

-- ---- these are the items

all_of : (test : PathName → Bool) (xs : List PathName) → ((q : PathName) → has xs q ≡ true → test q ≡ true) → list_all test xs ≡ true
all_of test [] h = refl
all_of test (x ∷ xs) h =
    and_from (test x) (list_all test xs) (h x (ap (λ b. b || has xs x) (path_eq_itself x)))
    (all_of test xs (λ q there. h q (or_both (path_eq q x) (has xs q) there)))
  where
    or_both : (a b : Bool) → b ≡ true → (a || b) ≡ true
    or_both true b e = refl
    or_both false b e = e

-- a path that has a value is one of the keys
has_key : (q : PathName) (es : List (PathName × Shown)) → has (keys_of es) q ≡ is_some (find path_cmp q es)
has_key q [] = refl
has_key q (e ∷ es) = ap (λ b. b || has (keys_of es) q) (path_cmp_eq q e.0) ∙ go (eq_by_cmp path_cmp q e.0) (has_key q es)
  where
    go : (b : Bool) → has (keys_of es) q ≡ is_some (find path_cmp q es) → (b || has (keys_of es) q) ≡ is_some (cond b (Some e.1) (find path_cmp q es))
    go true rest = refl
    go false rest = rest

get_has : (q : PathName) (ps : List PathName) (i : ℕ) → slice_get ps i ≡ Some q → has ps q ≡ true
get_has q [] i h = absurd (some_none q (sym h))
get_has q (p ∷ ps) zero h = ap (λ r. path_eq q r || has ps q) (some_same p q h) ∙ ap (λ b. b || has ps q) (path_eq_itself q)
get_has q (p ∷ ps) (suc i) h = go (path_eq q p) (get_has q ps i h)
  where
    go : (b : Bool) → has ps q ≡ true → (b || has ps q) ≡ true
    go true rest = refl
    go false rest = rest

module _ (owner : List ℕ) (records : List Rec) (is : IsLog owner records) (dir : PathName) where
  abbrev All : Tree
  All = snapshots_to owner records (length records)

  abbrev Moments : List ℕ
  Moments = keys_of (snapshots_of records)

  module _ (named : List (PathName × Shown)) (naming : IsNaming (snapshot_user owner) records dir Moments named) where
    key_in : (q : PathName) → has (keys_of named) q ≡ true → is_parent dir q ≡ true
    key_in q there = go (is_parent dir q) refl
      where
        go : (b : Bool) → is_parent dir q ≡ b → b ≡ true
        go true e = refl
        go false e =
            absurd (false≢true (sym (ap is_some (naming.each q ∙ ap (λ b. if b then least_to (snapshot_user owner) records q Moments else None) e)) ∙ sym (has_key q named) ∙ there))

    found_first : (q : PathName) → is_parent dir q ≡ true → find path_cmp q named ≡ first_to (snapshot_user owner) records q (length records)
    found_first q parent =
        naming.each q ∙ ap (λ b. if b then least_to (snapshot_user owner) records q Moments else None) parent
        ∙ least_is owner (snapshot_user owner) records is q

    -- each key has the first snapshot that bears on it
    pub key_first : (i : ℕ) (q : PathName) → slice_get (keys_of named) i ≡ Some q → find path_cmp q named ≡ first_to (snapshot_user owner) records q (length records)
    key_first i q h = found_first q (key_in q (get_has q (keys_of named) i h))

    unnamed : (q : PathName) → is_parent dir q ≡ true → has (keys_of named) q ≡ false → entry_at All q ≡ None
    unnamed q parent none =
        ap (option_map entry_of)
        (told owner records is q (length records)
        ∙ ap (option_and_then (shown_node owner records q)) (sym (found_first q parent) ∙ go (find path_cmp q named) (sym (has_key q named) ∙ none)))
      where
        go : (o : Option Shown) → is_some o ≡ false → o ≡ None
        go None e = refl
        go (Some s) e = absurd (false≢true (sym e))

    within : list_all (is_parent dir) (keys_of named) ≡ true
    within = all_of (is_parent dir) (keys_of named) key_in

    rising : are_rising (keys_of named) ≡ true
    rising = rising_keys named naming.sorted

    each : (q : PathName) → find path_cmp q (under_names dir dir (entry_at All) (keys_of named)) ≡ (if is_parent dir q then entry_at All q else None)
    each q = go (is_parent dir q) refl
      where
        by : (b : Bool) → has (keys_of named) q ≡ b → is_parent dir q ≡ true → (if b then entry_at All q else None) ≡ entry_at All q
        by true h parent = refl
        by false h parent = sym (unnamed q parent h)

        go : (b : Bool) → is_parent dir q ≡ b → find path_cmp q (under_names dir dir (entry_at All) (keys_of named)) ≡ (if b then entry_at All q else None)
        go true parent =
            let name : q ≡ extended dir (last_element q) = extended_last q dir (is_parent_of dir q parent) in
            ap (λ p. find path_cmp p (under_names dir dir (entry_at All) (keys_of named))) name
            ∙ under_found dir dir (entry_at All) (last_element q) (keys_of named) rising within
            ∙ ap (λ p. if has (keys_of named) p then entry_at All p else None) (sym name)
            ∙ by (has (keys_of named) q) refl parent
        go false other = under_elsewhere dir dir (entry_at All) q other (keys_of named)

    pub made_listed : (found : List Entry) → found ≡ filter_map (entry_at All) (keys_of named) → found ≡ entries_in All dir
    made_listed found h =
        h ∙ sym (under_values dir dir (entry_at All) (keys_of named))
        ∙ listed_is All dir (under_names dir dir (entry_at All) (keys_of named)) (shown_sorted owner records (length records)) (under_sorted dir dir (entry_at All) (keys_of named) rising within) each

  -- in a directory on which no snapshot bears nothing stands
  pub nothing_listed : first_to (snapshot_user owner) records dir (length records) ≡ None → [] ≡ entries_in All dir
  nothing_listed none = listed_is All dir [] (shown_sorted owner records (length records)) tt (λ q. go q (is_parent dir q) refl (node_at All q) refl)
    where
      no_dir : node_at All dir ≡ None
      no_dir = told owner records is dir (length records) ∙ ap (option_and_then (shown_node owner records dir)) none

      go : (q : PathName) (b : Bool) → is_parent dir q ≡ b → (o : Option Node) → node_at All q ≡ o → None ≡ (if b then option_map entry_of o else None)
      go q false e o f = refl
      go q true e None f = refl
      go q true e (Some node) f =
          let placed = (shown_rooted owner records is).placed q node f in
          let stands : HasDirectory All dir = subst (λ o. MatchOption o (q.owner ≡ snapshot_user owner) (HasDirectory All)) (is_parent_of dir q e) placed in
          absurd (some_none stands.0 (sym stands.1 ∙ no_dir))

-- ---- one moment after the other

module _ (snap_user : List ℕ) (records : List Rec) (dir : PathName) (times : List ℕ) where
  pub naming_next : (i time : ℕ) (named : List (PathName × Shown)) → slice_get times i ≡ Some time → IsNaming snap_user records dir (take i times ++ time ∷ []) named → IsNaming snap_user records dir (take (i + 1) times) named
  naming_next i time named there naming =
      subst (λ ts. IsNaming snap_user records dir ts named) (sym (ap (λ n. take n times) (let e : i + 1 ≡ suc i = omega arith in e) ∙ take_next i times time there)) naming

  pub naming_all : (i : ℕ) (named : List (PathName × Shown)) → slice_get times i ≡ None → IsNaming snap_user records dir (take i times) named → IsNaming snap_user records dir times named
  naming_all i named none naming = subst (λ ts. IsNaming snap_user records dir ts named) (past times i none) naming
    where
      past : (xs : List ℕ) (i : ℕ) → slice_get xs i ≡ None → take i xs ≡ xs
      past [] zero e = refl
      past [] (suc i) e = refl
      past (x ∷ xs) zero e = absurd (some_none x e)
      past (x ∷ xs) (suc i) e = ap (λ ys. x ∷ ys) (past xs i e)

pub sooner_some : (o : Option Shown) (s : Shown) → (first : Shown) × (Some first ≡ sooner o (Some s))
sooner_some None s = (s, refl)
sooner_some (Some one) s = go (nat_le one.position s.position)
  where
    go : (b : Bool) → (first : Shown) × (Some first ≡ (if b then Some one else Some s))
    go true = (one, refl)
    go false = (s, refl)
