-- What a log's records tell to be used is what the trees that it shows use.
use Rattle.std.proofs.Common.{◌≡◌, ◌∙◌, ℕ, zero, suc, ◌+◌, ◌-◌, ◌<◌, ◌⊎◌, inl, inr, Bool, true, false, cond, ◌||◌, List, [], ◌∷◌, length, take, Option, Some, None, refl, sym, ap, arith}
use Rattle.std.proofs.lemmas.Bool.{cases_lt, eqb-false, eqb-true, false≢true, lt-ltb, ltb-true}
use Rattle.std.proofs.lemmas.List.{take_all}
use Rattle.std.proofs.lemmas.List.Folds.{list_any-append}
use Rattle.std.proofs.lemmas.Option.{slice_get_within}
use Rattle.std.specs.List.{list_any}
use Rattle.std.specs.Option.{option_and_then}
use Rattle.std.specs.Prelude.{◌==◌, if◌then◌else◌, nat_lt, slice_get}
use Rattle.std.specs.Str.{bytes_eq}
use Rattle.up_audit.proofs.ChangeLemmas as changes
use Rattle.up_audit.proofs.ListLemmas.{alike, any_at, any_flat, any_map, found_in, found_listed, listed_found}
use Rattle.up_audit.specs.Audits.{Ref, is_among, is_snap, references_of, shown_trees, tree_references, used_in}
use Rattle.up_audit.specs.Marks.{gone_at, gone_by, is_position, last_snap, put_references, snap_after, standing_at, stands_at, told_at, told_by}
use Rattle.up_entry.specs.declared.records.Rec.{Rec}
use Rattle.up_entry.specs.declared.records.Rec.TheVariants.{Put, Delete, Snap}
use Rattle.up_names.specs.PathNames.{PathName}
use Rattle.up_log_tree.proofs.Paths.{some_none, some_same}
use Rattle.up_log_tree.proofs.Trees.{tree_sorted}
use Rattle.up_log_tree.specs.Changes.{change_before, last_change, path_of_change, positions_of, record_at}
use Rattle.up_log_tree.specs.Trees.{Tree, node_at, tree_at, tree_of}
use Rattle.up_log_tree.specs.declared.node.Node.{Node}
use Rattle.up_mem_tree.proofs.Lasts as lasts
use Rattle.up_mem_tree.specs.Nodes.{put_by}
use Rattle.up_snap.proofs.OldLemmas as old

-- ---- tests

or_left : (a b : Bool) → a ≡ true → (a || b) ≡ true
or_left true b is = refl
or_left false b is = absurd (false≢true is)

or_right : (a b : Bool) → b ≡ true → (a || b) ≡ true
or_right true b is = refl
or_right false b is = is

either : (a b : Bool) → (a || b) ≡ true → (a ≡ true) ⊎ (b ≡ true)
either true b is = inl refl
either false b is = inr is

by_self : (n : ℕ) → (n == n) ≡ true
by_self n = go (n == n) refl
  where
    go : (b : Bool) → (n == n) ≡ b → (n == n) ≡ true
    go true is = is
    go false is = absurd (eqb-false n n is refl)

-- ---- positions of records that pass a test

pub record Placed (test : Rec → Bool) (q : ℕ → Bool) (n : ℕ) (records : List Rec) : Type 0 where
  pub place : ℕ
  pub rec : Rec
  pub there : slice_get records place ≡ Some rec
  pub is : test rec ≡ true
  pub passes : q (n + suc place) ≡ true

placed_in : (test : Rec → Bool) (q : ℕ → Bool) (n : ℕ) (records : List Rec) → list_any q (positions_of test n records) ≡ true → Placed test q n records
placed_in test q n [] any = absurd (false≢true any)
placed_in test q n (rec ∷ records) any = go (test rec) refl any (λ more. behind (placed_in test q (suc n) records more))
  where
    behind : Placed test q (suc n) records → Placed test q n (rec ∷ records)
    behind rest =
        record { place = suc rest.place; rec = rest.rec; there = rest.there; is = rest.is; passes = ap q (let e : n + suc (suc rest.place) ≡ suc n + suc rest.place = omega arith in e) ∙ rest.passes }

    here : (b : Bool) → q (suc n) ≡ b → test rec ≡ true → (b || list_any q (positions_of test (suc n) records)) ≡ true → (list_any q (positions_of test (suc n) records) ≡ true → Placed test q n (rec ∷ records)) → Placed test q n (rec ∷ records)
    here true is good any more = record { place = 0; rec = rec; there = refl; is = good; passes = ap q (let e : n + 1 ≡ suc n = omega arith in e) ∙ is }
    here false is good any more = more any

    go : (b : Bool) → test rec ≡ b → list_any q (cond b (suc n ∷ positions_of test (suc n) records) (positions_of test (suc n) records)) ≡ true → (list_any q (positions_of test (suc n) records) ≡ true → Placed test q n (rec ∷ records))
        → Placed test q n (rec ∷ records)
    go true good any more = here (q (suc n)) refl good any more
    go false good any more = more any

any_placed : (test : Rec → Bool) (q : ℕ → Bool) (n : ℕ) (records : List Rec) (place : ℕ) (rec : Rec) → slice_get records place ≡ Some rec → test rec ≡ true → q (n + suc place) ≡ true → list_any q (positions_of test n records) ≡ true
any_placed test q n [] place rec there is passes = absurd (some_none rec (sym there))
any_placed test q n (first ∷ records) zero rec there is passes =
    ap (λ b. list_any q (cond b (suc n ∷ positions_of test (suc n) records) (positions_of test (suc n) records))) (ap test (some_same first rec there) ∙ is)
    ∙ or_left (q (suc n)) _ (ap q (let e : suc n ≡ n + 1 = omega arith in e) ∙ passes)
any_placed test q n (first ∷ records) (suc place) rec there is passes =
    go (test first) (any_placed test q (suc n) records place rec there is (ap q (let e : suc n + suc place ≡ n + suc (suc place) = omega arith in e) ∙ passes))
  where
    go : (b : Bool) → list_any q (positions_of test (suc n) records) ≡ true → list_any q (cond b (suc n ∷ positions_of test (suc n) records) (positions_of test (suc n) records)) ≡ true
    go true any = or_right (q (suc n)) _ any
    go false any = any

-- ---- references that are put

named_put : (found : Option Rec) (r : Ref) → is_among (put_references found) r ≡ true → (node : Node) × (put_by found ≡ Some node) × (is_among (references_of node.entry) r ≡ true)
named_put None r named = absurd (false≢true named)
named_put (Some (Put entry text)) r named = (record { entry = entry; text = text }, refl, named)
named_put (Some (Delete path)) r named = absurd (false≢true named)
named_put (Some (Snap time)) r named = absurd (false≢true named)

put_named : (found : Option Rec) (r : Ref) (node : Node) → put_by found ≡ Some node → is_among (references_of node.entry) r ≡ true → is_among (put_references found) r ≡ true
put_named None r node is named = absurd (some_none node (sym is))
put_named (Some (Put entry text)) r node is named = ap (λ (n : Node). is_among (references_of n.entry) r) (some_same _ node is) ∙ named
put_named (Some (Delete path)) r node is named = absurd (some_none node (sym is))
put_named (Some (Snap time)) r node is named = absurd (some_none node (sym is))

module _ (records : List Rec) (r : Ref) where
  -- the tree of the first n records names the reference: an entry does that was put at that position, and stands
  pub record Names (n : ℕ) : Type 0 where
    pub path : PathName
    pub at : ℕ
    pub last : changes.Last records path n ≡ Some at
    pub named : is_among (put_references (record_at records at)) r ≡ true

  among_tree : (tree : Tree) → is_among (tree_references tree) r ≡ list_any (λ item. is_among (references_of item.1.entry) r) tree
  unfolding tree_references
  among_tree tree = any_flat (bytes_eq r) (λ item. references_of item.1.entry) tree

  names_tree : (n : ℕ) → is_among (tree_references (tree_at records n)) r ≡ true → Names n
  unfolding node_at
  names_tree n among =
      let found = found_in (λ (item : PathName × Node). is_among (references_of item.1.entry) r) (tree_at records n) (sym (among_tree (tree_at records n)) ∙ among) in
      let there : node_at (tree_at records n) found.item.0 ≡ Some found.item.1 = listed_found (tree_at records n) found.place found.item (tree_sorted (take n records)) found.there in
      go found.item.0 found.item.1 found.passes (changes.Last records found.item.0 n) refl (sym (lasts.left_is records found.item.0 n) ∙ there)
    where
      go : (path : PathName) (node : Node) → is_among (references_of node.entry) r ≡ true → (last : Option ℕ) → changes.Last records path n ≡ last → lasts.left records path last ≡ Some node → Names n
      go path node named None is left = absurd (some_none node (sym left))
      go path node named (Some at) is left = record { path = path; at = at; last = is; named = put_named (record_at records at) r node left named }

  tree_names : (n : ℕ) → Names n → is_among (tree_references (tree_at records n)) r ≡ true
  unfolding node_at
  tree_names n names =
      let put = named_put (record_at records names.at) r names.named in
      let there : node_at (tree_at records n) names.path ≡ Some put.0 = lasts.left_is records names.path n ∙ ap (lasts.left records names.path) names.last ∙ put.1 in
      let listed = found_listed names.path (tree_at records n) put.0 there in
      among_tree (tree_at records n) ∙ any_at (λ (item : PathName × Node). is_among (references_of item.1.entry) r) (tree_at records n) listed.place (listed.key, put.0) listed.there put.2

  -- ---- the trees that are shown

  -- a snapshot shows the tree of the first so many records
  pub record Snapped (n : ℕ) : Type 0 where
    pub rec : Rec
    pub there : slice_get records n ≡ Some rec
    pub is : is_snap rec ≡ true

  abbrev whole : ℕ
  whole = length records

  now_is : tree_of records ≡ tree_at records whole
  now_is = ap tree_of (sym (take_all whole records (omega arith)))

  among_used : is_among (used_in records) r ≡ (is_among (tree_references (tree_of records)) r || list_any (λ position. is_among (tree_references (tree_at records (position - 1))) r) (positions_of is_snap 0 records))
  unfolding used_in shown_trees
  among_used =
      any_flat (bytes_eq r) tree_references (shown_trees records)
      ∙ ap (λ b. is_among (tree_references (tree_of records)) r || b) (any_map (λ tree. is_among (tree_references tree) r) (λ position. tree_at records (position - 1)) (positions_of is_snap 0 records))

  -- a used reference is named by the tree as it is, or by one that a snapshot shows
  used_names : is_among (used_in records) r ≡ true → Names whole ⊎ ((n : ℕ) × Snapped n × Names n)
  used_names among = elim (either _ _ (sym among_used ∙ among)) [
    | inl now ↦ inl (names_tree whole (ap (λ tree. is_among (tree_references tree) r) (sym now_is) ∙ now))
    | inr past ↦ (
        let placed = placed_in is_snap (λ position. is_among (tree_references (tree_at records (position - 1))) r) 0 records past in
        let n : 0 + suc placed.place - 1 ≡ placed.place = omega arith in
        inr (placed.place, record { rec = placed.rec; there = placed.there; is = placed.is }, names_tree placed.place (ap (λ m. is_among (tree_references (tree_at records m)) r) (sym n) ∙ placed.passes)))
  ]

  names_used : Names whole ⊎ ((n : ℕ) × Snapped n × Names n) → is_among (used_in records) r ≡ true
  names_used (inl now) = among_used ∙ or_left _ _ (ap (λ tree. is_among (tree_references tree) r) now_is ∙ tree_names whole now)
  names_used (inr past) =
      let n : 0 + suc past.0 - 1 ≡ past.0 = omega arith in
      among_used
      ∙ or_right _ _ (any_placed is_snap (λ position. is_among (tree_references (tree_at records (position - 1))) r) 0 records past.0 past.1.rec past.1.there past.1.is
      (ap (λ m. is_among (tree_references (tree_at records m)) r) n ∙ tree_names past.0 past.2))

  -- ---- the last snapshot

  pub record IsLastSnap (n snap : ℕ) : Type 0 where
    pub place : ℕ
    pub position : snap ≡ suc place
    pub within : place < n
    pub snapped : Snapped place

  -- a position above another is one
  last_snap_is : (n before : ℕ) → before < last_snap records n → IsLastSnap n (last_snap records n)
  last_snap_is zero before above = absurd (omega (arith, above))
  last_snap_is (suc n) before above = go (slice_get records n) refl above (λ low. last_snap_is n before low)
    where
      more : (before < last_snap records n → IsLastSnap n (last_snap records n)) → before < last_snap records n → IsLastSnap (suc n) (last_snap records n)
      more ih above = let was = ih above in record { place = was.place; position = was.position; within = omega (arith, was.within); snapped = was.snapped }

      by : (rec : Rec) → slice_get records n ≡ Some rec → (b : Bool) → is_snap rec ≡ b → before < (if b then suc n else last_snap records n) → (before < last_snap records n → IsLastSnap n (last_snap records n))
          → IsLastSnap (suc n) (if b then suc n else last_snap records n)
      by rec is true snap above ih = record { place = n; position = refl; within = omega arith; snapped = record { rec = rec; there = is; is = snap } }
      by rec is false snap above ih = more ih above

      go : (o : Option Rec) → slice_get records n ≡ o → before < snap_after o (suc n) (last_snap records n) → (before < last_snap records n → IsLastSnap n (last_snap records n)) → IsLastSnap (suc n) (snap_after o (suc n) (last_snap records n))
      go None is above ih = more ih above
      go (Some rec) is above ih = by rec is (is_snap rec) refl above ih

  -- no snapshot among the first n is behind it
  last_snap_from : (n place : ℕ) → Snapped place → place < n → place < last_snap records n
  last_snap_from zero place snapped within = absurd (omega (arith, within))
  last_snap_from (suc n) place snapped within = go (slice_get records n) refl (λ low. last_snap_from n place snapped low)
    where
      earlier : (place < n → place < last_snap records n) → (place ≡ n → ⊥) → place < last_snap records n
      earlier so_far other = elim (cases_lt place n) [
        | inl below ↦ so_far below
        | inr not_below ↦ absurd (other (omega (arith, within, not_below)))
      ]

      by : (rec : Rec) → slice_get records n ≡ Some rec → (b : Bool) → is_snap rec ≡ b → (place < n → place < last_snap records n) → place < (if b then suc n else last_snap records n)
      by rec is true snap ih = within
      by rec is false snap ih =
          earlier ih
          (λ same. let found : snapped.rec ≡ rec = some_same snapped.rec rec (sym snapped.there ∙ ap (slice_get records) same ∙ is) in absurd (false≢true (sym snap ∙ ap is_snap (sym found) ∙ snapped.is)))

      go : (o : Option Rec) → slice_get records n ≡ o → (place < n → place < last_snap records n) → place < snap_after o (suc n) (last_snap records n)
      go None is ih = earlier ih (λ same. absurd (some_none snapped.rec (sym snapped.there ∙ ap (slice_get records) same ∙ is)))
      go (Some rec) is ih = by rec is (is_snap rec) refl ih

  -- ---- what a record tells

  among_told : (i : ℕ) → is_among (told_at records (suc i)) r ≡ (is_among (gone_at records (last_snap records i) (suc i)) r || is_among (standing_at records (suc i)) r)
  unfolding told_at
  among_told i =
      list_any-append (bytes_eq r) (gone_at records (last_snap records (suc i - 1)) (suc i)) (standing_at records (suc i))
      ∙ ap (λ n. is_among (gone_at records (last_snap records n) (suc i)) r || is_among (standing_at records (suc i)) r) (let e : suc i - 1 ≡ i = omega arith in e)

  change_path : (i before : ℕ) → change_before records (suc i) ≡ Some before → (path : PathName) × (changes.Last records path i ≡ Some before)
  unfolding change_before
  change_path i before is = go (option_and_then path_of_change (slice_get records i)) is
    where
      less : suc i - 1 ≡ i
      less = omega arith

      go : (o : Option PathName) → option_and_then (last_change (take (suc i - 1) records)) o ≡ Some before → (path : PathName) × (changes.Last records path i ≡ Some before)
      go None none = absurd (some_none before (sym none))
      go (Some path) last = (path, ap (changes.Last records path) (sym less) ∙ last)

  gone_names : (i : ℕ) → is_among (gone_at records (last_snap records i) (suc i)) r ≡ true → (n : ℕ) × Snapped n × Names n
  gone_names i among = by_change (change_before records (suc i)) refl among
    where
      shown : (before : ℕ) → change_before records (suc i) ≡ Some before → before < last_snap records i → is_among (put_references (record_at records before)) r ≡ true → (n : ℕ) × Snapped n × Names n
      shown before is above named =
          let snap = last_snap_is i before above in
          let within = snap.within in
          let place = snap.position in
          let on = change_path i before is in
          let more : i ≡ snap.place + (i - snap.place) = omega (arith, within) in (
            snap.place,
            snap.snapped,
            record {
              path = on.0;
              at = before;
              last = old.last_kept records on.0 snap.place (i - snap.place) before (ap (changes.Last records on.0) (sym more) ∙ on.1) (omega (arith, above, place));
              named = named;
            },
          )

      by_test : (before : ℕ) → change_before records (suc i) ≡ Some before → (b : Bool) → nat_lt before (last_snap records i) ≡ b → is_among (if b then put_references (record_at records before) else []) r ≡ true → (n : ℕ) × Snapped n × Names n
      by_test before is true above named = shown before is (ltb-true before (last_snap records i) above) named
      by_test before is false above named = absurd (false≢true named)

      by_change : (o : Option ℕ) → change_before records (suc i) ≡ o → is_among (gone_by records (last_snap records i) o) r ≡ true → (n : ℕ) × Snapped n × Names n
      by_change None is named = absurd (false≢true named)
      by_change (Some before) is named = by_test before is (nat_lt before (last_snap records i)) refl named

  standing_names : (i : ℕ) → is_among (standing_at records (suc i)) r ≡ true → Names whole
  standing_names i among = by_test (stands_at records (suc i)) refl among
    where
      by_last : (path : PathName) (o : Option ℕ) → last_change records path ≡ o → is_position (suc i) o ≡ true → is_among (put_references (record_at records (suc i))) r ≡ true → Names whole
      by_last path None is position named = absurd (false≢true position)
      by_last path (Some at) is position named = record {
        path = path;
        at = suc i;
        last = ap (λ rs. last_change rs path) (take_all whole records (omega arith)) ∙ is ∙ ap Some (eqb-true at (suc i) position);
        named = named;
      }

      by_path : (o : Option PathName) → is_position (suc i) (option_and_then (last_change records) o) ≡ true → is_among (put_references (record_at records (suc i))) r ≡ true → Names whole
      by_path None position named = absurd (false≢true position)
      by_path (Some path) position named = by_last path (last_change records path) refl position named

      by_test : (b : Bool) → stands_at records (suc i) ≡ b → is_among (if b then put_references (record_at records (suc i)) else []) r ≡ true → Names whole
      by_test true stands named = by_path (option_and_then path_of_change (record_at records (suc i))) stands named
      by_test false stands named = absurd (false≢true named)

  told_names : (i : ℕ) → is_among (told_at records (suc i)) r ≡ true → Names whole ⊎ ((n : ℕ) × Snapped n × Names n)
  told_names i among = elim (either _ _ (sym (among_told i) ∙ among)) [
    | inl gone ↦ inr (gone_names i gone)
    | inr standing ↦ inl (standing_names i standing)
  ]

  -- what stands is told where it was put
  standing_told : (names : Names whole) → (i : ℕ) × (i < whole) × (is_among (told_at records (suc i)) r ≡ true)
  standing_told names =
      let last = old.last_is records names.path whole names.at names.last in
      let place = last.position in
      let on = changes.changed records names.path last.rec last.one in
      let now : last_change records names.path ≡ Some (suc last.place) = ap (λ rs. last_change rs names.path) (sym (take_all whole records (omega arith))) ∙ names.last ∙ ap Some place in
      let stands : stands_at records (suc last.place) ≡ true =
      ap (λ o. is_position (suc last.place) (option_and_then (last_change records) (option_and_then path_of_change o))) last.there
      ∙ ap (λ o. is_position (suc last.place) (option_and_then (last_change records) o)) on
      ∙ ap (is_position (suc last.place)) now ∙ by_self (suc last.place) in
      let named : is_among (standing_at records (suc last.place)) r ≡ true =
      ap (λ b. is_among (if b then put_references (record_at records (suc last.place)) else []) r) stands ∙ ap (λ n. is_among (put_references (record_at records n)) r) (sym place) ∙ names.named in
      (last.place, slice_get_within records last.place last.rec last.there, among_told last.place ∙ or_right _ _ named)

  -- and what a snapshot shows, where it is put, or where it goes
  shown_told : (n : ℕ) → Snapped n → (names : Names n) → (i : ℕ) × (i < whole) × (is_among (told_at records (suc i)) r ≡ true)
  shown_told n snapped names = by_after (changes.stays_or_followed records names.path n (whole - n) names.at names.last)
    where
      far : n < whole
      far = slice_get_within records n snapped.rec snapped.there

      all : n + (whole - n) ≡ whole
      all = omega (arith, far)

      gone : (followed : changes.Followed records names.path n names.at) → n < followed.place → is_among (gone_at records (last_snap records followed.place) (suc followed.place)) r ≡ true
      gone followed above =
          let snap = last_snap_from followed.place n snapped above in
          let within = (old.last_is records names.path n names.at names.last).within in
          ap (λ o. is_among (gone_by records (last_snap records followed.place) o) r) followed.before
          ∙ ap (λ b. is_among (if b then put_references (record_at records names.at) else []) r) (lt-ltb names.at (last_snap records followed.place) (omega (arith, snap, within)))
          ∙ names.named

      other : (rec : Rec) (path : PathName) → is_snap rec ≡ true → path_of_change rec ≡ Some path → ⊥
      other (Put entry text) path snap on = false≢true snap
      other (Delete deleted) path snap on = false≢true snap
      other (Snap time) path snap on = some_none path (sym on)

      behind : (followed : changes.Followed records names.path n names.at) → n < followed.place
      behind followed = elim (cases_lt n followed.place) [
        | inl above ↦ above
        | inr below ↦ (
            let same : followed.place ≡ n = (let b = followed.behind in omega (arith, b, below)) in
            let rec_is : snapped.rec ≡ followed.rec = some_same snapped.rec followed.rec (sym snapped.there ∙ ap (slice_get records) (sym same) ∙ followed.there) in
            absurd (other followed.rec names.path (ap is_snap (sym rec_is) ∙ snapped.is) followed.changes_it))
      ]

      by_after : (changes.Last records names.path (n + (whole - n)) ≡ Some names.at) ⊎ changes.Followed records names.path n names.at → (i : ℕ) × (i < whole) × (is_among (told_at records (suc i)) r ≡ true)
      by_after (inl stays) = standing_told (record { path = names.path; at = names.at; last = ap (changes.Last records names.path) (sym all) ∙ stays; named = names.named })
      by_after (inr followed) = (followed.place, slice_get_within records followed.place followed.rec followed.there, among_told followed.place ∙ or_left _ _ (gone followed (behind followed)))

  -- ---- what all records tell

  told_some : (n : ℕ) → is_among (told_by records n) r ≡ true → (i : ℕ) × (is_among (told_at records (suc i)) r ≡ true)
  told_some zero among = absurd (false≢true among)
  told_some (suc n) among = elim (either _ _ (sym (list_any-append (bytes_eq r) (told_by records n) (told_at records (suc n))) ∙ among)) [
    | inl before ↦ told_some n before
    | inr last ↦ (n, last)
  ]

  some_told : (n i : ℕ) → i < n → is_among (told_at records (suc i)) r ≡ true → is_among (told_by records n) r ≡ true
  some_told zero i within among = absurd (omega (arith, within))
  some_told (suc n) i within among = list_any-append (bytes_eq r) (told_by records n) (told_at records (suc n)) ∙ elim (cases_lt i n) [
    | inl below ↦ or_left _ _ (some_told n i below among)
    | inr last ↦ or_right _ _ (ap (λ m. is_among (told_at records (suc m)) r) (let e : n ≡ i = omega (arith, within, last) in e) ∙ among)
  ]

  told_used : is_among (told_by records whole) r ≡ true → is_among (used_in records) r ≡ true
  told_used among = let some = told_some whole among in names_used (told_names some.0 some.1)

  used_told : is_among (used_in records) r ≡ true → is_among (told_by records whole) r ≡ true
  used_told among = elim (used_names among) [
    | inl now ↦ (let told = standing_told now in some_told whole told.0 told.1 told.2)
    | inr past ↦ (let told = shown_told past.0 past.1 past.2 in some_told whole told.0 told.1 told.2)
  ]

-- the records tell exactly what the trees use
pub all_told : (records : List Rec) (r : Ref) → is_among (told_by records (length records)) r ≡ is_among (used_in records) r
all_told records r = alike _ _ (told_used records r) (used_told records r)
