-- From which record on a text can be met: what is shown of the code that finds it.
use Rattle.std.proofs.Common.{◌≡◌, ◌⊎◌, ℕ, zero, suc, ◌+◌, ◌-◌, ◌<◌, ◌≤◌, Bool, true, false, cond, List, [], ◌∷◌, length, take, drop, refl, sym, ap, subst, ◌∙◌, inl, inr, arith, Option, Some, None}
use Rattle.std.specs.Prelude.{MatchOption, slice_get}
use Rattle.std.specs.Option.{option_and_then}
use Rattle.std.proofs.lemmas.Bool.{cases_lt, false≢true}
use Rattle.std.proofs.lemmas.List.{take_all}
use Rattle.std.proofs.lemmas.List.Elements.{Contains-append_cases}
use Rattle.up_names.specs.PathNames.{PathName, cut, is_under, parent_of}
use Rattle.up_names.specs.PathOrder.{path_eq}
use Rattle.up_names.specs.declared.items.Item.{Item}
use Rattle.up_entry.specs.declared.records.Rec.{Rec}
use Rattle.up_policy.proofs.PathLists.{Contains-cons, no_member}
use Rattle.up_log_tree.specs.Changes.{changes_some, changes_under, last_change, path_of_change, positions_of}
use Rattle.up_log_tree.specs.Rights.{access_path, facts_of, is_group}
use Rattle.up_log_tree.specs.Trees.{tree_at}
use Rattle.up_log_tree.proofs.Fronts.{take_next, whole_front}
use Rattle.up_log_tree.proofs.Paths.{cut_cut, parent_extended, path_same, some_none, some_same}
use Rattle.up_mem_tree.specs.Namings.{ChangesPath, IsFirstMet, IsFirstNow, IsFirstOf, IsFrom, IsMetBy}
use Rattle.up_mem_tree.specs.Slots.{IsIdOf, IsParentIdOf, Known, path_in}
use Rattle.up_mem_tree.specs.declared.gone.Naming.{Naming}
use Rattle.up_mem_tree.proofs.Named.{last_change-none, last_change-push}
use Rattle.up_mem_tree.proofs.Noted.{front_is, under-Decides}
use Rattle.up_mem_tree.proofs.RecordChanges.{group_never}

-- ---- directories

-- of two paths above one, one is above the other
pub under_both : (q a b : PathName) → is_under q a ≡ true → is_under q b ≡ true → (is_under b a ≡ true) ⊎ (is_under a b ≡ true)
under_both q a b at_a at_b = elim (cases_lt (length a.elements) (length b.elements)) [
  | inl less ↦ inl (longer a b at_a at_b (omega (arith, less)))
  | inr more ↦ inr (longer b a at_b at_a more)
]
  where
    longer : (x y : PathName) → is_under q x ≡ true → is_under q y ≡ true → length x.elements ≤ length y.elements → is_under y x ≡ true
    longer x y at_x at_y le = (under-Decides y x).1
        (ap (cut (length x.elements)) (front_is y q (length y.elements) refl at_y)
        ∙ (cut_cut (length x.elements) (length y.elements) q le ∙ sym (front_is x q (length x.elements) refl at_x)))

-- the directory of an Access file, by its slot
pub dir_is : (paths : List PathName) (slots : List Known) (file dir found : PathName) (id : ℕ) (o : Option ℕ) → o ≡ Some id → IsParentIdOf paths slots file o → file ≡ access_path dir → Some found ≡ path_in slots id → found ≡ dir
dir_is paths slots file dir found id o is told same at = some_same found dir (at ∙ go (parent_of file) (ap parent_of same ∙ parent_extended dir _) told)
  where
    go : (p : Option PathName) → p ≡ Some dir → MatchOption p (o ≡ None) (λ dir. IsIdOf paths slots dir o) → path_in slots id ≡ Some dir
    go None none told = absurd (some_none dir (sym none))
    go (Some d) some told = subst (IsIdOf paths slots d) is told ∙ some

-- ---- the first change

module _ (test : Rec → Bool) where
  -- among the positions of the records that pass, the first one is not behind any
  first_of : (k : ℕ) (records : List Rec) (j : ℕ) (rec : Rec) → slice_get records j ≡ Some rec → test rec ≡ true → IsFrom (slice_get (positions_of test k records) 0) (k + j + 1)
  first_of k [] j rec at passes = absurd (some_none rec (sym at))
  first_of k (head ∷ rest) zero rec at passes =
      subst (λ b. IsFrom (slice_get (cond b (suc k ∷ positions_of test (suc k) rest) (positions_of test (suc k) rest)) 0) (k + 0 + 1)) (sym (ap test (some_same head rec at) ∙ passes)) (omega arith)
  first_of k (head ∷ rest) (suc j) rec at passes = by (test head) (first_of (suc k) rest j rec at passes)
    where
      by : (b : Bool) → IsFrom (slice_get (positions_of test (suc k) rest) 0) (suc k + j + 1)
          → IsFrom (slice_get (cond b (suc k ∷ positions_of test (suc k) rest) (positions_of test (suc k) rest)) 0) (k + suc j + 1)
      by true later = omega arith
      by false later = subst (IsFrom (slice_get (positions_of test (suc k) rest) 0)) (let e : suc k + j + 1 ≡ k + suc j + 1 = omega arith in e) later

pub get_drop : {X : Type 0} (n : ℕ) (xs : List X) (j : ℕ) → slice_get (drop n xs) j ≡ slice_get xs (n + j)
get_drop zero xs j = ap (slice_get xs) (let e : j ≡ 0 + j = omega arith in e)
get_drop (suc n) [] j = refl
get_drop (suc n) (x ∷ xs) j = get_drop n xs j ∙ ap (slice_get (x ∷ xs)) (let e : suc (n + j) ≡ suc n + j = omega arith in e)

-- a record and the path that it changes
changes_rec : (o : Option Rec) (path : PathName) → option_and_then path_of_change o ≡ Some path → (rec : Rec) × (o ≡ Some rec) × (path_of_change rec ≡ Some path)
changes_rec None path is = absurd (some_none path (sym is))
changes_rec (Some rec) path is = (rec, refl, is)

some_changed : (test : PathName → Bool) (rec : Rec) (path : PathName) → path_of_change rec ≡ Some path → test path ≡ true → changes_some test rec ≡ true
some_changed test rec path is passes = ap (λ o. elim o as (λ _. Bool) [ None ↦ false | Some path ↦ test path ]) is ∙ passes

-- the first change below a directory
pub first_under : (records : List Rec) (dir : PathName) (above n : ℕ) (changed : PathName) → above < n → ChangesPath records n changed → is_under changed dir ≡ true → IsFrom (slice_get (changes_under records dir above) 0) n
unfolding changes_under
first_under records dir above zero changed less is under = absurd (omega (arith, less))
first_under records dir above (suc n) changed less is under =
    let rec = changes_rec (slice_get records n) changed is in
    let at : slice_get (drop above records) (n - above) ≡ Some rec.0 = get_drop above records (n - above) ∙ (ap (slice_get records) (let e : above + (n - above) ≡ n = omega (arith, less) in e) ∙ rec.1) in
    subst (IsFrom (slice_get (positions_of (changes_some (λ name. is_under name dir)) above (drop above records)) 0)) (omega (arith, less))
    (first_of (changes_some (λ name. is_under name dir)) above (drop above records) (n - above) rec.0 at (some_changed (λ name. is_under name dir) rec.0 changed rec.2 under))

-- ---- the texts, one after the other

pub first_next : (records : List Rec) (texts : List Naming) (i : ℕ) (naming : Naming) (path : PathName) (above : ℕ) (old next new : Option ℕ) → slice_get texts i ≡ Some naming → ((n : ℕ) → IsFrom old n → IsFrom new n) →
    ((n : ℕ) → IsFrom next n → IsFrom new n) → IsFirstOf records (take i texts) path above old → IsFirstMet records path above next naming → IsFirstOf records (take (i + 1) texts) path above new
first_next records texts i naming path above old next new at one other before last =
    subst (λ ts. IsFirstOf records ts path above new) (sym (ap (λ m. take m texts) (let e : i + 1 ≡ suc i = omega arith in e) ∙ take_next i texts naming at))
    (λ text there n changed less is under met. elim (Contains-append_cases (take i texts) (naming ∷ []) text there) [
      | inl early ↦ one n (before text early n changed less is under met)
      | inr late ↦ elim (Contains-cons naming text [] late) [
        | inl same ↦ other n (last n changed less is under (subst (λ t. IsMetBy records t n changed) (sym same) met))
        | inr none ↦ absurd (no_member text none)
      ]
    ])

pub first_all : (records : List Rec) (texts : List Naming) (i : ℕ) (path : PathName) (above : ℕ) (first : Option ℕ) → length texts ≤ i → IsFirstOf records (take i texts) path above first → IsFirstOf records texts path above first
first_all records texts i path above first past told = subst (λ ts. IsFirstOf records ts path above first) (take_all i texts past) told

pub now_next : (records : List Rec) (positions : List ℕ) (i position : ℕ) (path : PathName) (above : ℕ) (old next new : Option ℕ) → Some position ≡ slice_get positions i → ((n : ℕ) → IsFrom old n → IsFrom new n) →
    ((n : ℕ) → IsFrom next n → IsFrom new n) → IsFirstNow records (take i positions) path above old → IsFirstMet records path above next (record { by = position; until = 0 }) → IsFirstNow records (take (i + 1) positions) path above new
now_next records positions i position path above old next new at one other before last =
    subst (λ ps. IsFirstNow records ps path above new) (sym (ap (λ m. take m positions) (let e : i + 1 ≡ suc i = omega arith in e) ∙ take_next i positions position (sym at)))
    (λ p there n changed less is under met. elim (Contains-append_cases (take i positions) (position ∷ []) p there) [
      | inl early ↦ one n (before p early n changed less is under met)
      | inr late ↦ elim (Contains-cons position p [] late) [
        | inl same ↦ other n (last n changed less is under (subst (λ q. IsMetBy records (record { by = q; until = 0 }) n changed) (sym same) met))
        | inr none ↦ absurd (no_member p none)
      ]
    ])

pub now_all : (records : List Rec) (positions : List ℕ) (i : ℕ) (path : PathName) (above : ℕ) (first : Option ℕ) → None ≡ slice_get positions i → IsFirstNow records (take i positions) path above first → IsFirstNow records positions path above first
now_all records positions i path above first none told = subst (λ ps. IsFirstNow records ps path above first) (take_all i positions (short i positions none)) told
  where
    short : {X : Type 0} (n : ℕ) (xs : List X) → None ≡ slice_get xs n → length xs ≤ n
    short n [] h = omega arith
    short zero (x ∷ xs) h = absurd (some_none x (sym h))
    short (suc n) (x ∷ xs) h = let e = short n xs h in omega (arith, e)

-- ---- the last change of a path is a change of it

pub last_changes : (records : List Rec) (path : PathName) (p : ℕ) → last_change records path ≡ Some p → ChangesPath records p path
last_changes records path = whole_front (λ rs. (p : ℕ) → last_change rs path ≡ Some p → ChangesPath records p path) records
    (λ p is. absurd (some_none p (sym is ∙ last_change-none path)))
    (λ n rec at so_far p is. go n rec at so_far p (changes_some (path_eq path) rec) refl (sym (last_change-push (take n records) rec path) ∙ is))
  where
    same_changed : (rec : Rec) → changes_some (path_eq path) rec ≡ true → path_of_change rec ≡ Some path
    same_changed rec is = by (path_of_change rec) is
      where
        by : (o : Option PathName) → elim o as (λ _. Bool) [ None ↦ false | Some q ↦ path_eq path q ] ≡ true → o ≡ Some path
        by None is = absurd (false≢true is)
        by (Some q) is = ap Some (sym (path_same path q is))

    go : (n : ℕ) (rec : Rec) → slice_get records n ≡ Some rec → ((p : ℕ) → last_change (take n records) path ≡ Some p → ChangesPath records p path) → (p : ℕ) (b : Bool) → changes_some (path_eq path) rec ≡ b →
        cond b (Some (length (take n records) + 1)) (last_change (take n records) path) ≡ Some p → ChangesPath records p path
    go n rec at so_far p false other is = so_far p is
    go n rec at so_far p true here is =
        let long : length (take n records) ≡ n = length_front n records rec at in
        let place : suc n ≡ p = let e = some_same (length (take n records) + 1) p is in omega (arith, e, long) in
        subst (λ k. ChangesPath records k path) place (ap (option_and_then path_of_change) at ∙ same_changed rec here)
      where
        length_front : {X : Type 0} (n : ℕ) (xs : List X) (x : X) → slice_get xs n ≡ Some x → length (take n xs) ≡ n
        length_front zero xs x at = refl
        length_front (suc n) [] x at = absurd (some_none x (sym at))
        length_front (suc n) (y ∷ xs) x at = ap suc (length_front n xs x at)

-- a change among the first records is one of all
pub front_changes : (records : List Rec) (m p : ℕ) (path : PathName) → ChangesPath (take m records) p path → ChangesPath records p path
front_changes records m zero path is = is
front_changes records m (suc p) path is = let rec = changes_rec (slice_get (take m records) p) path is in ap (option_and_then path_of_change) (of_front m p records rec.0 rec.1) ∙ rec.2
  where
    of_front : {X : Type 0} (m p : ℕ) (xs : List X) (x : X) → slice_get (take m xs) p ≡ Some x → slice_get xs p ≡ Some x
    of_front zero p xs x at = absurd (some_none x (sym at))
    of_front (suc m) p [] x at = at
    of_front (suc m) zero (y ∷ xs) x at = at
    of_front (suc m) (suc p) (y ∷ xs) x at = of_front m p xs x at

-- the text of a Group file is that of a Group path
pub group_only : (owner : List ℕ) (records : List Rec) (n : ℕ) (path : PathName) (items : List Item) → (facts_of owner (tree_at records n)).group path ≡ Some items → is_group path ≡ true
group_only owner records n path items some = go (is_group path) refl
  where
    go : (b : Bool) → is_group path ≡ b → is_group path ≡ true
    go true is = is
    go false is = absurd (some_none items (sym some ∙ group_never owner (tree_at records n) path is))
