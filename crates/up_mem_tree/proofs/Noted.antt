-- The changes at and below each path, after one record more.
use Rattle.std.proofs.Common.{◌≡◌, ◌⊎◌, ℕ, zero, suc, ◌+◌, ◌<◌, ◌≤◌, Bool, true, false, cond, ◌||◌, List, [], ◌∷◌, ◌++◌, length, take, drop, refl, sym, ap, subst, ◌∙◌, inl, inr, arith, Option, Some, None, bytes_eq, Decides}
use Rattle.std.specs.Prelude.{slice_get, IfSome}
use Rattle.std.specs.List.{AllByRecursion}
use lib.Pointwise.{pointwise}
use Rattle.std.proofs.lemmas.Bool.{and_from, and_parts, cases_lt, false≢true}
use Rattle.std.proofs.lemmas.List.{length-map, length-take, take-append-drop}
use Rattle.std.proofs.lemmas.Option.{slice_get_within}
use Rattle.std.proofs.lemmas.Slice.Eq.{bytes_eq-Decides, slice_eq-Decides}
use Rattle.up_names.specs.PathNames.{PathName, cut, is_under}
use Rattle.up_names.specs.PathOrder.{path_eq}
use Rattle.up_entry.specs.declared.records.Rec.{Rec}
use Rattle.up_log_tree.specs.Changes.{changes_some, changes_under, path_of_change, positions_of}
use Rattle.up_log_tree.specs.Orders.{has_path as has, with_path}
use Rattle.up_log_tree.proofs.Fronts.{take_next}
use Rattle.up_log_tree.proofs.Paths.{cut_whole, length_cut, path_eq_itself, path_same, some_same}
use Rattle.up_log_tree.proofs.Rising.{has-with}
use Rattle.up_mem_tree.specs.Slots.{AreLinked, KeepsNumbers, Known, named_paths, named_with, path_in}
use Rattle.up_mem_tree.specs.ChangesBelow.{AreNoted, CanNote, CanNoteRecord, HasRoomAt, IsOnWay, Notes, noted_all, noted_in, unders_of}
use Rattle.up_mem_tree.specs.declared.changes_below.Under.{Under}
use Rattle.up_mem_tree.proofs.Named.{named_later, named_paths-none, named_paths-push, positions-push}
use Rattle.up_mem_tree.proofs.Ways.{path_there_at}
use Rattle.up_mem_tree.proofs.Walks.{below_unnamed, id_within}

-- a path is at or below another where its first elements make that one
pub under-Decides : (p q : PathName) → Decides (is_under p q) (cut (length q.elements) p ≡ q)
under-Decides p q =
    let owners = bytes_eq-Decides p.owner q.owner in
    let elements = slice_eq-Decides bytes_eq-Decides q.elements (take (length q.elements) p.elements) (pointwise bytes_eq q.elements (take (length q.elements) p.elements)) refl in (
      λ under. let both = and_parts (bytes_eq p.owner q.owner) (pointwise bytes_eq q.elements (take (length q.elements) p.elements)) under in
          ap (λ owner. record { owner = owner; elements = take (length q.elements) p.elements }) (owners.0 both.0)
          ∙ ap (λ elements. record { owner = q.owner; elements = elements }) (sym (elements.0 both.1)),
      λ same. and_from _ _ (owners.1 (ap (λ (p : PathName). p.owner) same)) (elements.1 (sym (ap (λ (p : PathName). p.elements) same))),
    )

-- a path of so many elements, under which another one is, is made of that one's first elements
pub front_is : (front path : PathName) (n : ℕ) → length front.elements ≡ n → is_under path front ≡ true → front ≡ cut n path
front_is front path n long under = sym ((under-Decides path front).0 under) ∙ ap (λ m. cut m path) long

bool_cases : (b : Bool) → (b ≡ true) ⊎ (b ≡ false)
bool_cases true = inl refl
bool_cases false = inr refl

drop_past : {X : Type 0} (xs : List X) (n : ℕ) → length xs ≤ n → drop n xs ≡ []
drop_past [] zero le = refl
drop_past [] (suc n) le = refl
drop_past (x ∷ xs) zero le = absurd (omega (arith, le))
drop_past (x ∷ xs) (suc n) le = drop_past xs n (omega (arith, le))

-- ---- positions

pub changes_below-push : (records : List Rec) (rec : Rec) (path : PathName) → unders_of (records ++ rec ∷ []) path ≡ cond (changes_some (λ name. is_under name path) rec) (unders_of records path ++ (length records + 1) ∷ []) (unders_of records path)
changes_below-push records rec path =
    positions-push (changes_some (λ name. is_under name path)) 0 records rec
    ∙ ap (λ n. cond (changes_some (λ name. is_under name path) rec) (unders_of records path ++ n ∷ []) (unders_of records path)) (let e : 0 + length records + 1 ≡ length records + 1 = omega arith in e)

abbrev changes_by : (o : Option PathName) (test : PathName → Bool) → Bool
changes_by o test = elim o [ None ↦ false | Some path ↦ test path ]

by_name : (rec : Rec) (path : PathName) (test : PathName → Bool) → path_of_change rec ≡ Some path → changes_some test rec ≡ test path
by_name rec path test is = ap (λ o. changes_by o test) is

by_none : (rec : Rec) (test : PathName → Bool) → path_of_change rec ≡ None → changes_some test rec ≡ false
by_none rec test is = ap (λ o. changes_by o test) is

with_name : (paths : List PathName) (rec : Rec) (path : PathName) → path_of_change rec ≡ Some path → named_with paths rec ≡ with_path path paths
with_name paths rec path is = ap (λ (o : Option PathName). elim o as (λ _. List PathName) [ None ↦ paths | Some p ↦ with_path p paths ]) is

with_none : (paths : List PathName) (rec : Rec) → path_of_change rec ≡ None → named_with paths rec ≡ paths
with_none paths rec is = ap (λ (o : Option PathName). elim o as (λ _. List PathName) [ None ↦ paths | Some p ↦ with_path p paths ]) is

-- a path at or below another is among names that are closed, and so is that
above_of : (owner : List ℕ) (paths : List PathName) (slots : List Known) → AreLinked owner paths slots → (name path : PathName) → has paths path ≡ false → is_under name path ≡ true → has paths name ≡ false
above_of owner paths slots linked name path none under =
    let cut_is : cut (length path.elements) name ≡ path = (under-Decides name path).0 under in
    let short : length path.elements ≤ length name.elements =
    (let long : length (cut (length path.elements) name).elements ≡ length path.elements = ap (λ (p : PathName). length p.elements) cut_is in omega (arith, long, length-take (length path.elements) name.elements)) in
    subst (λ p. has paths p ≡ false) (cut_whole name) (below_unnamed owner paths slots linked name (length path.elements) (length name.elements) short (omega arith) (subst (λ p. has paths p ≡ false) (sym cut_is) none))

-- each record changes a name of all
named_each : (records : List Rec) (n : ℕ) (rec : Rec) (q : PathName) → slice_get records n ≡ Some rec → path_of_change rec ≡ Some q → has (named_paths records) q ≡ true
named_each records n rec q is names =
    named_later records (suc n) q
    (ap (λ rs. has (named_paths rs) q) (take_next n records rec is) ∙ ap (λ ps. has ps q) (named_paths-push (take n records) rec ∙ with_name (named_paths (take n records)) rec q names)
    ∙ has-with q (named_paths (take n records)) q ∙ ap (λ b. b || has (named_paths (take n records)) q) (path_eq_itself q))

no_positions : (test : Rec → Bool) (n : ℕ) (records : List Rec) → ((i : ℕ) (rec : Rec) → slice_get records i ≡ Some rec → test rec ≡ false) → positions_of test n records ≡ []
no_positions test n [] never = refl
no_positions test n (rec ∷ records) never =
    ap (λ b. cond b (suc n ∷ positions_of test (suc n) records) (positions_of test (suc n) records)) (never 0 rec refl) ∙ no_positions test (suc n) records (λ i. never (suc i))

-- nothing changes at or below a path that no record names
pub unders_unnamed : (owner : List ℕ) (records : List Rec) (slots : List Known) → AreLinked owner (named_paths records) slots → (path : PathName) → has (named_paths records) path ≡ false → unders_of records path ≡ []
unders_unnamed owner records slots linked path none = no_positions (changes_some (λ name. is_under name path)) 0 records (λ i rec is. never i rec is (path_of_change rec) refl)
  where
    never : (i : ℕ) (rec : Rec) → slice_get records i ≡ Some rec → (o : Option PathName) → path_of_change rec ≡ o → changes_some (λ name. is_under name path) rec ≡ false
    never i rec is None names = by_none rec (λ name. is_under name path) names
    never i rec is (Some name) names = by_name rec name (λ name. is_under name path) names ∙ by (is_under name path) refl
      where
        by : (b : Bool) → is_under name path ≡ b → is_under name path ≡ false
        by true under = absurd (false≢true (sym (above_of owner (named_paths records) slots linked name path none under) ∙ named_each records i rec name is names))
        by false apart = apart

-- ---- those above a position

positions-append : (test : Rec → Bool) (n : ℕ) (one two : List Rec) → positions_of test n (one ++ two) ≡ positions_of test n one ++ positions_of test (n + length one) two
positions-append test n [] two = ap (λ k. positions_of test k two) (let e : n ≡ n + 0 = omega arith in e)
positions-append test n (rec ∷ one) two = by (test rec) (positions-append test (suc n) one two ∙ ap (λ k. positions_of test (suc n) one ++ positions_of test k two) (let e : suc n + length one ≡ n + suc (length one) = omega arith in e))
  where
    by : (b : Bool) → positions_of test (suc n) (one ++ two) ≡ positions_of test (suc n) one ++ positions_of test (n + suc (length one)) two
        → cond b (suc n ∷ positions_of test (suc n) (one ++ two)) (positions_of test (suc n) (one ++ two)) ≡ cond b (suc n ∷ positions_of test (suc n) one) (positions_of test (suc n) one) ++ positions_of test (n + suc (length one)) two
    by true rest = ap (λ l. suc n ∷ l) rest
    by false rest = rest

all_higher : (test : Rec → Bool) (least n : ℕ) (records : List Rec) → least ≤ n → AllByRecursion (λ p. least < p) (positions_of test n records)
all_higher test least n [] le = tt
all_higher test least n (rec ∷ records) le = by (test rec) (all_higher test least (suc n) records (omega (arith, le)))
  where
    by : (b : Bool) → AllByRecursion (λ p. least < p) (positions_of test (suc n) records) → AllByRecursion (λ p. least < p) (cond b (suc n ∷ positions_of test (suc n) records) (positions_of test (suc n) records))
    by true rest = (omega (arith, le), rest)
    by false rest = rest

all_lower : (test : Rec → Bool) (most n : ℕ) (records : List Rec) → n + length records ≤ most → AllByRecursion (λ p. p ≤ most) (positions_of test n records)
all_lower test most n [] le = tt
all_lower test most n (rec ∷ records) le = by (test rec) (all_lower test most (suc n) records (omega (arith, le)))
  where
    by : (b : Bool) → AllByRecursion (λ p. p ≤ most) (positions_of test (suc n) records) → AllByRecursion (λ p. p ≤ most) (cond b (suc n ∷ positions_of test (suc n) records) (positions_of test (suc n) records))
    by true rest = (omega (arith, le), rest)
    by false rest = rest

module _ (records : List Rec) (path : PathName) (above : ℕ) where
  pub front_of : List ℕ
  front_of = positions_of (changes_some (λ name. is_under name path)) 0 (take above records)

  pub front_low : AllByRecursion (λ p. p ≤ above) front_of
  unfolding front_of
  front_low = all_lower (changes_some (λ name. is_under name path)) above 0 (take above records) (omega (arith, length-take above records))

  pub rest_high : AllByRecursion (λ p. above < p) (changes_under records path above)
  unfolding changes_under
  rest_high = all_higher (changes_some (λ name. is_under name path)) above above (drop above records) (omega arith)

  pub split_at : unders_of records path ≡ front_of ++ changes_under records path above
  unfolding changes_under front_of
  split_at =
      ap (positions_of (changes_some (λ name. is_under name path)) 0) (sym (take-append-drop above records))
      ∙ positions-append (changes_some (λ name. is_under name path)) 0 (take above records) (drop above records)
      ∙ ap (λ l. positions_of (changes_some (λ name. is_under name path)) 0 (take above records) ++ l) (elim (cases_lt (length records) above) [
        | inl lt ↦ ap (positions_of (changes_some (λ name. is_under name path)) (0 + length (take above records))) (drop_past records above (omega (arith, lt))) ∙ sym (ap (positions_of (changes_some (λ name. is_under name path)) above) (drop_past records above (omega (arith, lt))))
        | inr ge ↦ ap (λ k. positions_of (changes_some (λ name. is_under name path)) k (drop above records)) (let e : 0 + length (take above records) ≡ above = omega (arith, ge, length-take above records) in e)
      ])

-- none at all where nothing changes
pub none_above : (records : List Rec) (path : PathName) (above : ℕ) → unders_of records path ≡ [] → changes_under records path above ≡ []
none_above records path above none = by (front_of records path above) (changes_under records path above) (sym (split_at records path above) ∙ none)
  where
    by : (front rest : List ℕ) → front ++ rest ≡ [] → rest ≡ []
    by [] rest is = is
    by (n ∷ front) rest is = absurd (cc)

-- nothing is noted of an empty log
pub noted_empty : (owner : List ℕ) (records : List Rec) (slots : List Known) (lists : List (List ℕ)) → AreLinked owner (named_paths records) slots → records ≡ [] → lists ≡ [] → AreNoted records slots lists
noted_empty owner records slots lists linked no_records no_lists = record {
  told = λ id path at. absurd (never id path at);
  spare = λ id le. ap (λ ls. noted_in ls id) no_lists;
  enough = elim (cases_lt 0 (length slots)) [
    | inl lt ↦ absurd (let first = path_there_at slots 0 lt in never 0 first.0 first.1)
    | inr ge ↦ omega (arith, ge)
  ];
}
  where
    never : (id : ℕ) (path : PathName) → path_in slots id ≡ Some path → ⊥
    never id path at = false≢true (sym (ap (λ ps. has ps path) (ap named_paths no_records ∙ named_paths-none)) ∙ linked.only id path at)

-- ---- one record more

module _ (owner : List ℕ) (records : List Rec) (rec : Rec) (old new : List Known) (was : AreLinked owner (named_paths records) old) (linked : AreLinked owner (named_paths (records ++ rec ∷ [])) new) (numbers : KeepsNumbers old new) where
  -- a path that was named has its slot where it was
  pub same_number : (id : ℕ) (q : PathName) → path_in new id ≡ Some q → has (named_paths records) q ≡ true → path_in old id ≡ Some q
  same_number id q at named =
      let found = was.all q named in
      ap (path_in old) (linked.alone id found.0 q at (numbers.same found.0 q found.1)) ∙ found.1

  -- and one that was not has the one slot more
  pub new_number : (id : ℕ) (q : PathName) → path_in new id ≡ Some q → has (named_paths records) q ≡ false → id ≡ length old
  new_number id q at unnamed = elim (cases_lt id (length old)) [
    | inl lt ↦ absurd (before lt)
    | inr ge ↦ let within : id < length new = id_within new id q at in let few = numbers.few in omega (arith, ge, within, few)
  ]
    where
      before : id < length old → ⊥
      before lt =
          let there = path_there_at old id lt in
          let same : there.0 ≡ q = some_same there.0 q (sym (numbers.same id there.0 there.1) ∙ at) in
          false≢true (sym unnamed ∙ was.only id q (there.1 ∙ ap Some same))

  -- ---- a record that changes no path

  module _ (none : path_of_change rec ≡ None) where
    same_names : named_paths (records ++ rec ∷ []) ≡ named_paths records
    same_names = named_paths-push records rec ∙ with_none (named_paths records) rec none

    no_more : length new ≤ length old
    no_more = elim (cases_lt (length old) (length new)) [
      | inl lt ↦ absurd (beyond lt)
      | inr ge ↦ omega (arith, ge)
    ]
      where
        beyond : length old < length new → ⊥
        beyond lt =
            let there = path_there_at new (length old) lt in
            let named : has (named_paths records) there.0 ≡ true = ap (λ ps. has ps there.0) (sym same_names) ∙ linked.only (length old) there.0 there.1 in
            let within : length old < length old = id_within old (length old) there.0 (same_number (length old) there.0 there.1 named) in
            absurd (omega (arith, within))

    pub noted_same : (lists : List (List ℕ)) → AreNoted records old lists → AreNoted (records ++ rec ∷ []) new lists
    noted_same lists noted = record {
      told = λ id q at.
          noted.told id q (same_number id q at (ap (λ ps. has ps q) (sym same_names) ∙ linked.only id q at))
          ∙ sym (changes_below-push records rec q ∙ ap (λ b. cond b (unders_of records q ++ (length records + 1) ∷ []) (unders_of records q)) (by_none rec (λ name. is_under name q) none));
      spare = λ id le. noted.spare id (let more = numbers.more in omega (arith, le, more));
      enough = let a = noted.enough in omega (arith, a, no_more);
    }

  -- ---- a record that changes a path

  module _ (path : PathName) (names : path_of_change rec ≡ Some path) (one two : List Under) (notes : Notes old (named_paths records) path (length records + 1) one two) (room : HasRoomAt one (length old)) (noted : AreNoted records old (noted_all one)) where
    more_named : (q : PathName) → has (named_paths (records ++ rec ∷ [])) q ≡ (path_eq q path || has (named_paths records) q)
    more_named q = ap (λ ps. has ps q) (named_paths-push records rec ∙ with_name (named_paths records) rec path names) ∙ has-with path (named_paths records) q

    told : (q : PathName) (b : Bool) → is_under path q ≡ b → unders_of (records ++ rec ∷ []) q ≡ cond b (unders_of records q ++ (length records + 1) ∷ []) (unders_of records q)
    told q b is = changes_below-push records rec q ∙ ap (λ b. cond b (unders_of records q ++ (length records + 1) ∷ []) (unders_of records q)) (by_name rec path (λ name. is_under name q) names ∙ is)

    on_way : (id : ℕ) (q : PathName) → path_in old id ≡ Some q → is_under path q ≡ true → IsOnWay old path 0 id
    on_way id q at under =
        let cut_is : cut (length q.elements) path ≡ q = (under-Decides path q).0 under in
        let long : length (cut (length q.elements) path).elements ≡ length q.elements = ap (λ (p : PathName). length p.elements) cut_is in
        (length q.elements, omega arith, let e : length q.elements ≤ length path.elements = omega (arith, long, length-take (length q.elements) path.elements) in e, at ∙ ap Some (sym cut_is))

    off_way : (id : ℕ) (q : PathName) → path_in old id ≡ Some q → is_under path q ≡ false → IsOnWay old path 0 id → ⊥
    off_way id q at apart way =
        let same : cut way.0 path ≡ q = some_same (cut way.0 path) q (sym way.3 ∙ at) in
        let long : length q.elements ≡ way.0 = ap (λ (p : PathName). length p.elements) (sym same) ∙ length_cut way.0 path way.2 in
        false≢true (sym apart ∙ (under-Decides path q).1 (ap (λ n. cut n path) long ∙ same))

    -- a slot that was there
    there : (id : ℕ) (q : PathName) → path_in old id ≡ Some q → noted_in (noted_all two) id ≡ unders_of (records ++ rec ∷ []) q
    there id q at = by (is_under path q) refl
      where
        by : (b : Bool) → is_under path q ≡ b → noted_in (noted_all two) id ≡ unders_of (records ++ rec ∷ []) q
        by true under = notes.way id (on_way id q at under) ∙ ap (λ l. l ++ (length records + 1) ∷ []) (noted.told id q at) ∙ sym (told q true under)
        by false apart =
            notes.rest id (off_way id q at apart) (λ none same. let lt = id_within old id q at in absurd (omega (arith, lt, same))) ∙ noted.told id q at ∙ sym (told q false apart)

    -- and the new one
    fresh : (id : ℕ) (q : PathName) → path_in new id ≡ Some q → has (named_paths records) q ≡ false → noted_in (noted_all two) id ≡ unders_of (records ++ rec ∷ []) q
    fresh id q at unnamed =
        let same : q ≡ path = by (path_eq q path) refl (sym (more_named q) ∙ linked.only id q at) in
        let number : id ≡ length old = new_number id q at unnamed in
        ap (noted_in (noted_all two)) number ∙ notes.own (ap (has (named_paths records)) (sym same) ∙ unnamed)
        ∙ ap (λ l. l ++ (length records + 1) ∷ []) (noted.spare (length old) (omega arith) ∙ sym (unders_unnamed owner records old was q unnamed))
        ∙ sym (told q true ((under-Decides path q).1 (ap (λ (p : PathName). cut (length p.elements) path) same ∙ cut_whole path ∙ sym same)))
      where
        by : (b : Bool) → path_eq q path ≡ b → (path_eq q path || has (named_paths records) q) ≡ true → q ≡ path
        by true is named = path_same q path is
        by false is named = absurd (false≢true (sym (ap (λ b. b || has (named_paths records) q) is ∙ unnamed) ∙ named))

    each : (id : ℕ) (q : PathName) → path_in new id ≡ Some q → (has (named_paths records) q ≡ true) ⊎ (has (named_paths records) q ≡ false) → noted_in (noted_all two) id ≡ unders_of (records ++ rec ∷ []) q
    each id q at (inl named) = there id q (same_number id q at named)
    each id q at (inr unnamed) = fresh id q at unnamed

    -- the number behind the old slots is taken where the path had none
    taken : has (named_paths records) path ≡ false → length old < length new
    taken unnamed =
        let found = linked.all path (more_named path ∙ ap (λ b. b || has (named_paths records) path) (path_eq_itself path)) in
        let number : found.0 ≡ length old = new_number found.0 path found.1 unnamed in
        let within : found.0 < length new = id_within new found.0 path found.1 in
        omega (arith, number, within)

    pub noted_next : AreNoted (records ++ rec ∷ []) new (noted_all two)
    noted_next = record {
      told = λ id q at. each id q at (bool_cases (has (named_paths records) q));
      spare = λ id le.
          let beyond : length old ≤ id = (let more = numbers.more in omega (arith, le, more)) in
          notes.rest id (λ way. let lt = id_within old id (cut way.0 path) way.3 in absurd (omega (arith, lt, beyond)))
          (λ unnamed same. let lt = taken unnamed in absurd (omega (arith, lt, le, same))) ∙ noted.spare id beyond;
      enough =
          let some : length old < length one = slice_get_within one (length old) room.0 room.1 in
          let few = numbers.few in
          let size : length (noted_all two) ≡ length one = length-map two (λ (under : Under). under.positions.items) ∙ notes.size in
          omega (arith, some, few, size);
    }

-- what a tree has noted once a record was noted and entered
pub noted_after : (owner : List ℕ) (records : List Rec) (rec : Rec) (old new : List Known) → AreLinked owner (named_paths records) old → AreLinked owner (named_paths (records ++ rec ∷ [])) new → KeepsNumbers old new → (one two : List Under)
    → AreNoted records old (noted_all one) → CanNoteRecord one old rec → IfSome (path_of_change rec) (λ path. Notes old (named_paths records) path (length records + 1) one two) → (path_of_change rec ≡ None → two ≡ one)
    → AreNoted (records ++ rec ∷ []) new (noted_all two)
noted_after owner records rec old new was linked numbers one two noted room notes same = by (path_of_change rec) refl room notes
  where
    by : (o : Option PathName) → path_of_change rec ≡ o → IfSome o (CanNote one old) → IfSome o (λ path. Notes old (named_paths records) path (length records + 1) one two) → AreNoted (records ++ rec ∷ []) new (noted_all two)
    by None is can did = subst (λ us. AreNoted (records ++ rec ∷ []) new (noted_all us)) (sym (same is)) (noted_same owner records rec old new was linked numbers is (noted_all one) noted)
    by (Some path) is can did = noted_next owner records rec old new was linked numbers path is one two did can.spare noted
