-- A log with one record more: it is one of the owner, and what is kept by positions goes on with it.
use Rattle.std.proofs.Common.{◌≡◌, ℕ, zero, suc, ◌+◌, ◌-◌, ◌<◌, ◌≤◌, false, List, [], ◌∷◌, ◌++◌, length, map, take, fold, refl, sym, ap, subst, ◌∙◌, inl, inr, arith, Option, Some, None, is_some}
use Rattle.std.specs.Prelude.{slice_get, unwrap_or}
use Rattle.std.specs.List.{enumerate_from, range_with_len}
use Rattle.std.specs.Option.{option_and_then, option_map}
use Rattle.std.proofs.Math.Seq.{take-length}
use Rattle.std.proofs.lemmas.Bool.{cases_lt, false≢true}
use Rattle.std.proofs.lemmas.Grind.{fold-append}
use Rattle.std.proofs.lemmas.List.{length-append, take-append-le}
use Rattle.up_names.specs.PathNames.{PathName}
use Rattle.up_entry.specs.declared.records.Rec.{Rec}
use Rattle.up_entry.specs.declared.records.Rec.TheVariants.{Put, Delete, Snap}
use Rattle.up_mem_tree.specs.declared.steps.Own.{Own}
use Rattle.up_mem_tree.specs.declared.steps.Own.TheVariants.{There, New}
use Rattle.up_log_tree.specs.Changes.{change_before, last_change, path_of_change}
use Rattle.up_log_tree.specs.Fits.{AreFitting, Fits, IsLog}
use Rattle.up_mem_tree.specs.Kept.{befores_of}
use Rattle.up_log_tree.specs.Orders.{has_path as has}
use Rattle.up_mem_tree.specs.Slots.{IsSlotOf, Known, named_paths, path_in}
use Rattle.up_log_tree.specs.Snapshots.{snapshots_of, with_snap}
use Rattle.up_mem_tree.specs.Steps.{IsOwnOf, last_before}
use Rattle.up_mem_tree.proofs.Named.{has_named}
use Rattle.up_log_tree.proofs.Paths.{some_none, some_same}
use Rattle.up_mem_tree.proofs.Walks.{slot_there}

-- ---- lists with one item more

module _ {X : Type 0} where
  pub get_front : (xs ys : List X) (n : ℕ) → n < length xs → slice_get (xs ++ ys) n ≡ slice_get xs n
  get_front [] ys n lt = absurd (omega (arith, lt))
  get_front (x ∷ xs) ys zero lt = refl
  get_front (x ∷ xs) ys (suc n) lt = get_front xs ys n (omega (arith, lt))

  pub get_last : (xs : List X) (x : X) → slice_get (xs ++ x ∷ []) (length xs) ≡ Some x
  get_last [] x = refl
  get_last (y ∷ xs) x = get_last xs x

  get_beyond : (xs : List X) (x : X) (n : ℕ) → length xs < n → slice_get (xs ++ x ∷ []) n ≡ None
  get_beyond [] x zero lt = absurd (omega (arith, lt))
  get_beyond [] x (suc n) lt = refl
  get_beyond (y ∷ xs) x zero lt = absurd (omega (arith, lt))
  get_beyond (y ∷ xs) x (suc n) lt = get_beyond xs x n (omega (arith, lt))

  map_range : (f g : ℕ → X) (from len : ℕ) → ((n : ℕ) → from ≤ n → n < from + len → f n ≡ g n) → map f (range_with_len from len) ≡ map g (range_with_len from len)
  map_range f g from zero same = refl
  map_range f g from (suc len) same =
      ap (λ x. x ∷ map f (range_with_len (from + 1) len)) (same from (omega arith) (omega arith))
      ∙ ap (λ l. g from ∷ l) (map_range f g (from + 1) len (λ n le lt. same n (omega (arith, le)) (omega (arith, lt))))

  range_last : (f : ℕ → X) (from len : ℕ) → map f (range_with_len from (suc len)) ≡ map f (range_with_len from len) ++ f (from + len) ∷ []
  range_last f from zero = ap (λ n. f n ∷ []) (let e : from ≡ from + 0 = omega arith in e)
  range_last f from (suc len) =
      ap (λ l. f from ∷ l) (range_last f (from + 1) len ∙ ap (λ n. map f (range_with_len (from + 1) len) ++ f n ∷ []) (let e : from + 1 + len ≡ from + suc len = omega arith in e))

  numbered_last : (n : ℕ) (xs : List X) (x : X) → enumerate_from n (xs ++ x ∷ []) ≡ enumerate_from n xs ++ (n + length xs, x) ∷ []
  numbered_last n [] x = ap (λ k. (k, x) ∷ []) (let e : n ≡ n + 0 = omega arith in e)
  numbered_last n (y ∷ xs) x = ap (λ l. (n, y) ∷ l) (numbered_last (n + 1) xs x ∙ ap (λ k. enumerate_from (n + 1) xs ++ (k, x) ∷ []) (let e : n + 1 + length xs ≡ n + suc (length xs) = omega arith in e))

-- ---- the log

module _ (owner : List ℕ) (records : List Rec) (rec : Rec) (fits : Fits owner records rec) where
  last_fits : (n : ℕ) (r : Rec) → length records ≡ n → slice_get (records ++ rec ∷ []) n ≡ Some r → Fits owner (take n (records ++ rec ∷ [])) r
  last_fits n r is at =
      subst (λ k. Fits owner (take k (records ++ rec ∷ [])) r) is
      (subst (λ front. Fits owner front r) (sym (take-append-le (length records) records (rec ∷ []) (omega arith) ∙ take-length records))
      (subst (Fits owner records) (some_same rec r (sym (get_last records rec) ∙ ap (slice_get (records ++ rec ∷ [])) is ∙ at)) fits))

  pub fitting_more : AreFitting owner records → AreFitting owner (records ++ rec ∷ [])
  fitting_more fitting = record {
    each = λ n r at. elim (cases_lt n (length records)) [
      | inl lt ↦ subst (λ front. Fits owner front r) (sym (take-append-le n records (rec ∷ []) (omega (arith, lt)))) (fitting.each n r (sym (get_front records (rec ∷ []) n lt) ∙ at))
      | inr ge ↦ elim (cases_lt (length records) n) [
        | inl gt ↦ absurd (some_none r (sym at ∙ get_beyond records rec n gt))
        | inr le ↦ last_fits n r (omega (arith, ge, le)) at
      ]
    ];
  }

  pub log_more : IsLog owner records → IsLog owner (records ++ rec ∷ [])
  log_more log = record { fitting = fitting_more log.fitting; plain = log.plain }

-- ---- the positions of changes before

long : (records : List Rec) (rec : Rec) → length (records ++ rec ∷ []) ≡ suc (length records)
long records rec = let l = length-append records (rec ∷ []) in omega (arith, l)

before_early : (records : List Rec) (rec : Rec) (n : ℕ) → 1 ≤ n → n < 1 + length records → change_before (records ++ rec ∷ []) n ≡ change_before records n
unfolding change_before
before_early records rec zero le lt = absurd (omega (arith, le))
before_early records rec (suc n) le lt =
    ap (λ front. option_and_then (last_change front) (option_and_then path_of_change (slice_get (records ++ rec ∷ []) n))) (take-append-le (suc n - 1) records (rec ∷ []) (omega (arith, lt)))
    ∙ ap (λ o. option_and_then (last_change (take (suc n - 1) records)) (option_and_then path_of_change o)) (get_front records (rec ∷ []) n (omega (arith, lt)))

-- of the last record
before_last : (records : List Rec) (rec : Rec) → change_before (records ++ rec ∷ []) (suc (length records)) ≡ option_and_then (last_change records) (path_of_change rec)
unfolding change_before
before_last records rec =
    ap (λ front. option_and_then (last_change front) (option_and_then path_of_change (slice_get (records ++ rec ∷ []) (length records))))
    (ap (λ n. take n (records ++ rec ∷ [])) (let e : suc (length records) - 1 ≡ length records = omega arith in e) ∙ take-append-le (length records) records (rec ∷ []) (omega arith) ∙ take-length records)
    ∙ ap (λ o. option_and_then (last_change records) (option_and_then path_of_change o)) (get_last records rec)

pub befores_more : (records : List Rec) (rec : Rec) → befores_of (records ++ rec ∷ []) ≡ befores_of records ++ unwrap_or (option_and_then (last_change records) (path_of_change rec)) 0 ∷ []
befores_more records rec =
    let all = records ++ rec ∷ [] in
    ap (λ n. map (λ k. unwrap_or (change_before all k) 0) (range_with_len 1 n)) (long records rec)
    ∙ range_last (λ k. unwrap_or (change_before all k) 0) 1 (length records)
    ∙ ap (λ l. l ++ unwrap_or (change_before all (1 + length records)) 0 ∷ []) (map_range (λ k. unwrap_or (change_before all k) 0) (λ k. unwrap_or (change_before records k) 0) 1 (length records) (λ n le lt. ap (λ o. unwrap_or o 0) (before_early records rec n le lt)))
    ∙ ap (λ o. befores_of records ++ unwrap_or o 0 ∷ []) (ap (change_before all) (let e : 1 + length records ≡ suc (length records) = omega arith in e) ∙ before_last records rec)

-- what the path's slot says of the last change
module _ (owner : List ℕ) (records : List Rec) (slots : List Known) (told : (i : ℕ) (slot : Known) → slice_get slots i ≡ Some slot → IsSlotOf owner records (path_in slots) slot)
    (path : PathName) where
  unchanged : has (named_paths records) path ≡ false → last_change records path ≡ None
  unchanged none = go (last_change records path) (sym (has_named records path) ∙ none)
    where
      go : (o : Option ℕ) → is_some o ≡ false → o ≡ None
      go None h = refl
      go (Some n) h = absurd (false≢true (sym h))

  pub last_told : (own : Own) (parent : Option ℕ) → IsOwnOf (named_paths records) slots path parent own → last_before own slots ≡ unwrap_or (last_change records path) 0
  last_told (There id) parent at =
      let there = slot_there slots id path at in
      ap (λ o. unwrap_or (option_map (λ (slot : Known). slot.last) o) 0) there.1 ∙ (told id there.0 there.1).last ∙ ap (λ p. unwrap_or (last_change records p) 0) there.2
  last_told (New slot) parent is = sym (ap (λ o. unwrap_or o 0) (unchanged is.0))

-- ---- snapshots

pub snapshots_more : (records : List Rec) (rec : Rec) → snapshots_of (records ++ rec ∷ []) ≡ with_snap (snapshots_of records) (length records + 1) rec
unfolding snapshots_of
snapshots_more records rec =
    ap (λ l. fold (λ snaps numbered. with_snap snaps numbered.0 numbered.1) [] l) (numbered_last 1 records rec)
    ∙ fold-append (λ snaps numbered. with_snap snaps numbered.0 numbered.1) [] (enumerate_from 1 records) ((1 + length records, rec) ∷ [])
    ∙ ap (λ n. with_snap (fold (λ snaps numbered. with_snap snaps numbered.0 numbered.1) [] (enumerate_from 1 records)) n rec) (let e : 1 + length records ≡ length records + 1 = omega arith in e)

-- a record that takes no snapshot
pub snapshots_same : (records : List Rec) (rec : Rec) (path : PathName) → path_of_change rec ≡ Some path → snapshots_of (records ++ rec ∷ []) ≡ snapshots_of records
snapshots_same records rec path names = snapshots_more records rec ∙ go rec names
  where
    go : (r : Rec) → path_of_change r ≡ Some path → with_snap (snapshots_of records) (length records + 1) r ≡ snapshots_of records
    go (Put entry text) is = refl
    go (Delete gone) is = refl
    go (Snap time) is = absurd (cc)
