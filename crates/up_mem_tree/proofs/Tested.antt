-- That a record fits, by its rules and as a test.
use Rattle.std.proofs.Common.{◌≡◌, ◌≢◌, ℕ, ◌+◌, Bool, true, false, List, [], ◌∷◌, length, Option, Some, None, is_some, is_none, Ok, Err, refl, sym, ap, ◌∙◌, inl, inr, arith, leb-true, ltb-true, eqb-true}
use Rattle.std.specs.Prelude.{◌==◌, IsSome, MatchOption, Contains, Result, is_ok, nat_le, nat_lt, not}
use Rattle.std.specs.List.{list_any}
use Rattle.std.specs.Str.{bytes_eq}
use Rattle.std.proofs.lemmas.Slice.Eq.{bytes_eq-Decides}
use Rattle.std.specs.Cmp.Derive.{both_true}
use Rattle.std.proofs.lemmas.List.Elements.{All-cons, All-contains, All-nil, Contains-append_cases, Contains-append_right}
use Rattle.std.proofs.lemmas.Bool.{and_parts, eq-eqb, false≢true, le-leb, lt-ltb, not-true, not_from_false, or_cases, or_left, or_right}
use Rattle.up_names.specs.PathNames.{PathName, parent_of}
use Rattle.up_names.specs.Texts.{Text, UserName}
use Rattle.up_names.specs.UserNames.{suffix_of}
use Rattle.up_names.specs.declared.fault.TextFault.{TextFault}
use Rattle.up_names.specs.declared.paths.Control.{Control}
use Rattle.up_names.specs.declared.paths.Control.TheVariants.{Ordinary, Access, Group}
use Rattle.up_access.specs.AccessTexts.{access_of}
use Rattle.up_group.specs.GroupTexts.{group_of}
use Rattle.up_entry.specs.FixedForm.{has_fixed_form}
use Rattle.up_entry.specs.Rules.{is_directory}
use Rattle.up_entry.specs.declared.entries.Entry.{Entry}
use Rattle.up_entry.specs.declared.entries.Kind.{Kind}
use Rattle.up_entry.specs.declared.entries.Kind.TheVariants.{File, Directory, Link}
use Rattle.up_entry.specs.declared.records.Rec.{Rec}
use Rattle.up_entry.specs.declared.records.Rec.TheVariants.{Put, Delete, Snap}
use Rattle.up_entry.proofs.FixedFormLemmas.{form_is_rules}
use Rattle.up_log_tree.specs.Fits.{DeleteFits, Fits, HasDirectory, HasPlace, MayReplace, PutFits, SnapFits, TextFits, control_for, delete_fits, fits, has_place, has_snapshots, is_directory_node, is_snap_at, may_replace, put_fits, root_of, snap_fits, snapshot_user, text_fits}
use Rattle.up_log_tree.specs.Trees.{Tree, children, is_file, kind_of, node_at, tree_of}
use Rattle.up_log_tree.specs.declared.node.Node.{Node}

-- ---- a place

directory_is : (kind : Kind) → is_directory kind ≡ true → kind ≡ Directory
directory_is File is = absurd (false≢true is)
directory_is Directory is = refl
directory_is Link is = absurd (false≢true is)

module _ (owner : UserName) (tree : Tree) (path : PathName) where
  at_directory : (dir : PathName) (found : Option Node) → node_at tree dir ≡ found → is_directory_node found ≡ true → HasDirectory tree dir
  at_directory dir None at is = absurd (false≢true is)
  at_directory dir (Some node) at is = (node, at, directory_is (kind_of node) is)

  -- as a test, where the path has that parent
  abbrev place_by : Option PathName → Bool
  place_by parent = elim parent as (λ _. Bool) [ None ↦ bytes_eq path.owner owner | Some dir ↦ is_directory_node (node_at tree dir) ]

  abbrev rule_by : Option PathName → Type 0
  rule_by parent = MatchOption parent (path.owner ≡ owner) (HasDirectory tree)

  place_rule : (parent : Option PathName) → place_by parent ≡ true → rule_by parent
  place_rule None is = (bytes_eq-Decides path.owner owner).0 is
  place_rule (Some dir) is = at_directory dir (node_at tree dir) refl is

  place_test : (parent : Option PathName) → rule_by parent → place_by parent ≡ true
  place_test None is = (bytes_eq-Decides path.owner owner).1 is
  place_test (Some dir) (node, at, is) = ap is_directory_node at ∙ ap is_directory is

  has_rule : has_place owner tree path ≡ true → HasPlace owner tree path
  unfolding has_place
  has_rule is = place_rule (parent_of path) is

  has_test : HasPlace owner tree path → has_place owner tree path ≡ true
  unfolding has_place
  has_test is = place_test (parent_of path) is

-- ---- what stands there may be replaced

file_is : (kind : Kind) → is_file kind ≡ true → kind ≡ File
file_is File is = refl
file_is Directory is = absurd (false≢true is)
file_is Link is = absurd (false≢true is)

other_kind : (kind : Kind) → is_directory kind ≡ false → kind ≢ Directory
other_kind kind other is = false≢true (sym other ∙ ap is_directory is)

no_directory : (kind : Kind) → kind ≢ Directory → is_directory kind ≡ false
no_directory File other = refl
no_directory Directory other = absurd (other refl)
no_directory Link other = refl

replace_rule : (found : Option Node) (kind : Kind) → may_replace found kind ≡ true → MayReplace found kind
replace_rule None kind is = tt
replace_rule (Some node) kind is = let parts = and_parts (is_file (kind_of node)) (not (is_directory kind)) is in (file_is (kind_of node) parts.0, other_kind kind (not-true (is_directory kind) parts.1))

replace_test : (found : Option Node) (kind : Kind) → MayReplace found kind → may_replace found kind ≡ true
replace_test None kind is = refl
replace_test (Some node) kind is = both_true (ap is_file is.0) (not_from_false (is_directory kind) (no_directory kind is.1))

-- ---- its text

ok_is : {X : Type 0} (read : Result (List X) TextFault) → is_ok read ≡ true → (xs : List X) × (read ≡ Ok xs)
ok_is (Ok xs) is = (xs, refl)
ok_is (Err fault) is = absurd (false≢true is)

empty_is : {X : Type 0} (xs : List X) → (length xs == 0) ≡ true → xs ≡ []
empty_is [] is = refl
empty_is (x ∷ xs) is = absurd (omega (arith, eqb-true (length (x ∷ xs)) 0 is))

text_rule : (owner : UserName) (control : Control) (text : Text) → text_fits owner control text ≡ true → TextFits owner control text
text_rule owner Access text is = ok_is (access_of owner text) is
text_rule owner Group text is = ok_is (group_of owner text) is
text_rule owner Ordinary text is = empty_is text is

text_test : (owner : UserName) (control : Control) (text : Text) → TextFits owner control text → text_fits owner control text ≡ true
text_test owner Access text (rules, is) = ap is_ok is
text_test owner Group text (items, is) = ap is_ok is
text_test owner Ordinary text is = ap (λ (t : Text). length t == 0) is

-- ---- a Put

module _ (owner : UserName) (before : List Rec) (entry : Entry) (text : Text) where
  put_rules : put_fits owner before entry text ≡ true → PutFits owner before entry text
  unfolding put_fits
  put_rules all =
      let last = and_parts _ (text_fits owner (control_for entry.attr.kind entry.name) text) all in
      let replaces = and_parts _ (may_replace (node_at (tree_of before) entry.name) entry.attr.kind) last.0 in
      let place = and_parts _ (has_place owner (tree_of before) entry.name) replaces.0 in
      let sequence = and_parts (has_fixed_form entry) (entry.sequence == length before + 1) place.0 in
      record {
        form = (form_is_rules entry).0 sequence.0;
        sequence = eqb-true entry.sequence (length before + 1) sequence.1;
        place = has_rule owner (tree_of before) entry.name place.1;
        replaces = replace_rule (node_at (tree_of before) entry.name) entry.attr.kind replaces.1;
        parses = text_rule owner (control_for entry.attr.kind entry.name) text last.1;
      }

  put_test : PutFits owner before entry text → put_fits owner before entry text ≡ true
  unfolding put_fits
  put_test is =
      let form : has_fixed_form entry ≡ true = (form_is_rules entry).1 is.form in
      let sequence : (entry.sequence == length before + 1) ≡ true = eq-eqb entry.sequence (length before + 1) is.sequence in
      let place = has_test owner (tree_of before) entry.name is.place in
      let replaces = replace_test (node_at (tree_of before) entry.name) entry.attr.kind is.replaces in
      both_true (both_true (both_true (both_true form sequence) place) replaces) (text_test owner (control_for entry.attr.kind entry.name) text is.parses)

-- ---- a Delete

there_is : {X : Type 0} (found : Option X) → is_some found ≡ true → IsSome found
there_is found is = is

there_test : {X : Type 0} (found : Option X) → IsSome found → is_some found ≡ true
there_test found is = is

delete_rules : (before : List Rec) (path : PathName) → delete_fits before path ≡ true → DeleteFits before path
unfolding delete_fits
delete_rules before path all =
    let parts = and_parts (is_some (node_at (tree_of before) path)) (length (children (tree_of before) path) == 0) all in
    record { there = there_is (node_at (tree_of before) path) parts.0; empty = empty_is (children (tree_of before) path) parts.1 }

delete_test : (before : List Rec) (path : PathName) → DeleteFits before path → delete_fits before path ≡ true
unfolding delete_fits
delete_test before path is = both_true (there_test (node_at (tree_of before) path) is.there) (ap (λ (l : List PathName). length l == 0) is.empty)

-- ---- a Snap

none_is : {X : Type 0} (found : Option X) → is_none found ≡ true → found ≡ None
none_is None is = refl
none_is (Some x) is = absurd (false≢true is)

-- a Snap of that time
snap_is : (time : ℕ) (rec : Rec) → is_snap_at time rec ≡ true → rec ≡ Snap time
snap_is time (Put entry text) is = absurd (false≢true is)
snap_is time (Delete path) is = absurd (false≢true is)
snap_is time (Snap at) is = ap Snap (eqb-true at time is)

snap_passes : (time : ℕ) → is_snap_at time (Snap time) ≡ true
snap_passes time = eq-eqb time time refl

contained : (time : ℕ) (before : List Rec) → list_any (is_snap_at time) before ≡ true → Contains before (Snap time)
contained time [] is = absurd (false≢true is)
contained time (rec ∷ before) is =
    elim (or_cases (is_snap_at time rec) (list_any (is_snap_at time) before) is) [
      | inl here ↦ (0, omega arith, snap_is time rec here)
      | inr later ↦ Contains-append_right (rec ∷ []) before (Snap time) (contained time before later)
    ]

found : (time : ℕ) (before : List Rec) → Contains before (Snap time) → list_any (is_snap_at time) before ≡ true
found time [] there = absurd (omega (arith, there.1))
found time (rec ∷ before) there =
    elim (Contains-append_cases (rec ∷ []) before (Snap time) there) [
      | inl here ↦ or_left (is_snap_at time rec) (list_any (is_snap_at time) before)
          (ap (is_snap_at time) (All-contains (λ r. rec ≡ r) (rec ∷ []) (Snap time) (All-cons (λ r. rec ≡ r) rec [] refl (All-nil (λ r. rec ≡ r))) here) ∙ snap_passes time)
      | inr later ↦ or_right (is_snap_at time rec) (list_any (is_snap_at time) before) (found time before later)
    ]

pub not_contained : (time : ℕ) (before : List Rec) → (Contains before (Snap time) → ⊥) → list_any (is_snap_at time) before ≡ false
not_contained time before none = go (list_any (is_snap_at time) before) refl
  where
    go : (b : Bool) → list_any (is_snap_at time) before ≡ b → list_any (is_snap_at time) before ≡ false
    go true is = absurd (none (contained time before is))
    go false is = is

module _ (owner : UserName) (before : List Rec) (time : ℕ) where
  snap_rules : snap_fits owner before time ≡ true → SnapFits owner before time
  unfolding snap_fits
  snap_rules all =
      let last = and_parts _ (not (list_any (is_snap_at time) before)) all in
      let calendar = and_parts _ (nat_lt time 253402207200) last.0 in
      let rooted = and_parts (has_snapshots owner) (is_some (node_at (tree_of before) (root_of owner))) calendar.0 in
      let user = and_parts (is_none (suffix_of owner)) (nat_le (length (snapshot_user owner)) 254) rooted.0 in
      record {
        plain = none_is (suffix_of owner) user.0;
        short = leb-true (length (snapshot_user owner)) 254 user.1;
        rooted = there_is (node_at (tree_of before) (root_of owner)) rooted.1;
        calendar = ltb-true time 253402207200 calendar.1;
        new = λ there. false≢true (sym (not-true (list_any (is_snap_at time) before) last.1) ∙ found time before there);
      }

  snap_test : SnapFits owner before time → snap_fits owner before time ≡ true
  unfolding snap_fits
  snap_test is =
      let user = both_true (ap is_none is.plain) (le-leb (length (snapshot_user owner)) 254 is.short) in
      let rooted = both_true user (there_test (node_at (tree_of before) (root_of owner)) is.rooted) in
      let calendar = both_true rooted (lt-ltb time 253402207200 is.calendar) in
      both_true calendar (not_from_false (list_any (is_snap_at time) before) (not_contained time before is.new))

-- ---- a record

-- what passes the test fits by its rules
pub fits_rules : (owner : UserName) (before : List Rec) (rec : Rec) → fits owner before rec ≡ true → Fits owner before rec
fits_rules owner before (Put entry text) is = put_rules owner before entry text is
fits_rules owner before (Delete path) is = delete_rules before path is
fits_rules owner before (Snap time) is = snap_rules owner before time is

-- and the other way round
pub fits_test : (owner : UserName) (before : List Rec) (rec : Rec) → Fits owner before rec → fits owner before rec ≡ true
fits_test owner before (Put entry text) is = put_test owner before entry text is
fits_test owner before (Delete path) is = delete_test before path is
fits_test owner before (Snap time) is = snap_test owner before time is
