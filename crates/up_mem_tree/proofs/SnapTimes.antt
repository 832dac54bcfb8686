-- The snapshots by their times: at a time stands the position of the record that took one then.
use Rattle.std.proofs.Common.{◌≡◌, ℕ, suc, ◌+◌, Bool, true, false, cond, ◌||◌, List, [], ◌∷◌, ◌++◌, length, take, Option, Some, None, is_some, refl, sym, ap, ◌∙◌, arith, eqb-true, ltb-true}
use Rattle.std.specs.Prelude.{◌==◌, nat_lt}
use Rattle.std.specs.Cmp.{nat_cmp_total}
use Rattle.std.specs.FinMap.Entries.{find, find-put}
use Rattle.std.specs.List.{list_any, position_from}
use Rattle.std.specs.Option.{option_map}
use Rattle.std.specs.Ordering.{eq_by_cmp, is_eq, nat_cmp}
use Rattle.std.specs.declared.cmp.Ordering.TheVariants.{Less, Equal, Greater}
use Rattle.std.proofs.lemmas.Bool.{eq-eqb, eqb-false, ne_eqb, or_parts, or_right}
use Rattle.std.proofs.lemmas.Iterator.Adapters.{position_from-zero}
use Rattle.std.proofs.lemmas.List.Folds.{list_any-append}
use Rattle.up_entry.specs.declared.records.Rec.{Rec}
use Rattle.up_entry.specs.declared.records.Rec.TheVariants.{Put, Delete, Snap}
use Rattle.up_log_tree.specs.Fits.{AreFitting, Fits, is_snap_at}
use Rattle.up_log_tree.specs.Snapshots.{snap_at, snapshots_of, with_snap}
use Rattle.up_log_tree.proofs.Fronts.{whole_front}
use Rattle.up_mem_tree.proofs.Pushed.{snapshots_more}
use Rattle.up_mem_tree.proofs.Tested.{not_contained}

-- ---- times

pub tied : (time at : ℕ) → eq_by_cmp nat_cmp time at ≡ (at == time)
tied time at = go (nat_lt time at) refl (time == at) refl
  where
    go : (less : Bool) → nat_lt time at ≡ less → (same : Bool) → (time == at) ≡ same → is_eq (cond (nat_lt time at) Less (cond (time == at) Equal Greater)) ≡ (at == time)
    go true lt same is =
        ap (λ b. is_eq (cond b Less (cond (time == at) Equal Greater))) lt
        ∙ sym (ne_eqb at time (λ eq. omega (arith, ltb-true time at lt, eq)))
    go false ge true is =
        ap (λ b. is_eq (cond b Less (cond (time == at) Equal Greater))) ge ∙ ap (λ b. is_eq (cond b Equal Greater)) is
        ∙ sym (eq-eqb at time (sym (eqb-true time at is)))
    go false ge false is =
        ap (λ b. is_eq (cond b Less (cond (time == at) Equal Greater))) ge ∙ ap (λ b. is_eq (cond b Equal Greater)) is
        ∙ sym (ne_eqb at time (λ eq. eqb-false time at is (sym eq)))

or_none : (b : Bool) → (b || false) ≡ b
or_none true = refl
or_none false = refl

-- ---- first places, with one item more

module _ {X : Type 0} (p : X → Bool) where
  first_other : (i : ℕ) (xs : List X) (x : X) → p x ≡ false → position_from p i (xs ++ x ∷ []) ≡ position_from p i xs
  first_other i [] x other = ap (λ b. cond b (Some i) None) other
  first_other i (y ∷ xs) x other = ap (cond (p y) (Some i)) (first_other (i + 1) xs x other)

  first_here : (i : ℕ) (xs : List X) (x : X) → list_any p xs ≡ false → p x ≡ true → position_from p i (xs ++ x ∷ []) ≡ Some (i + length xs)
  first_here i [] x none here = ap (λ b. cond b (Some i) None) here ∙ ap Some (let e : i ≡ i + 0 = omega arith in e)
  first_here i (y ∷ xs) x none here =
      let parts = or_parts (p y) (list_any p xs) none in
      ap (λ b. cond b (Some i) (position_from p (i + 1) (xs ++ x ∷ []))) parts.0 ∙ first_here (i + 1) xs x parts.1 here
      ∙ ap Some (let e : i + 1 + length xs ≡ i + suc (length xs) = omega arith in e)

  first_none : (i : ℕ) (xs : List X) → list_any p xs ≡ false → position_from p i xs ≡ None
  first_none i [] none = refl
  first_none i (y ∷ xs) none =
      let parts = or_parts (p y) (list_any p xs) none in
      ap (λ b. cond b (Some i) (position_from p (i + 1) xs)) parts.0 ∙ first_none (i + 1) xs parts.1

-- ---- what is found at a time

module _ (time : ℕ) where
  abbrev at_time : List Rec → Option ℕ
  at_time records = find nat_cmp time (snapshots_of records)

  abbrev taken : List Rec → Bool
  taken records = list_any (is_snap_at time) records

  found_snap : (records : List Rec) (at : ℕ) → find nat_cmp time (with_snap (snapshots_of records) (length records + 1) (Snap at)) ≡ cond (at == time) (Some (length records + 1)) (at_time records)
  found_snap records at =
      find-put nat_cmp nat_cmp_total time at (length records + 1) (snapshots_of records)
      ∙ ap (λ b. cond b (Some (length records + 1)) (at_time records)) (tied time at)

  more_taken : (records : List Rec) (rec : Rec) → is_some (at_time records) ≡ taken records → is_some (at_time (records ++ rec ∷ [])) ≡ taken (records ++ rec ∷ [])
  more_taken records rec so_far =
      ap (λ s. is_some (find nat_cmp time s)) (snapshots_more records rec) ∙ by_kind rec ∙ sym (list_any-append (is_snap_at time) records (rec ∷ []))
    where
      on : (b : Bool) → is_some (cond b (Some (length records + 1)) (at_time records)) ≡ (taken records || (b || false))
      on true = sym (or_right (taken records) true refl)
      on false = so_far ∙ sym (or_none (taken records))

      by_kind : (r : Rec) → is_some (find nat_cmp time (with_snap (snapshots_of records) (length records + 1) r)) ≡ (taken records || taken (r ∷ []))
      by_kind (Put entry text) = so_far ∙ sym (or_none (taken records))
      by_kind (Delete path) = so_far ∙ sym (or_none (taken records))
      by_kind (Snap at) = ap is_some (found_snap records at) ∙ on (at == time)

  nothing : is_some (at_time []) ≡ false
  unfolding snapshots_of
  nothing = refl

  -- one is found exactly where a record took it
  pub is_taken : (records : List Rec) → is_some (at_time records) ≡ taken records
  is_taken records = whole_front (λ rs. is_some (at_time rs) ≡ taken rs) records nothing (λ n rec at so_far. more_taken (take n records) rec so_far)

  -- ---- its position

  abbrev place : List Rec → Option ℕ
  place records = option_map suc (position_from (is_snap_at time) 0 records)

  more_place : (owner : List ℕ) (records : List Rec) (rec : Rec) → Fits owner records rec → at_time records ≡ place records → at_time (records ++ rec ∷ []) ≡ place (records ++ rec ∷ [])
  more_place owner records rec fits so_far = ap (find nat_cmp time) (snapshots_more records rec) ∙ by_kind rec fits
    where
      on : (at : ℕ) → Fits owner records (Snap at) → (b : Bool) → (at == time) ≡ b → cond b (Some (length records + 1)) (at_time records) ≡ place (records ++ Snap at ∷ [])
      on at fits true is =
          let same : at ≡ time = eqb-true at time is in
          let none : list_any (is_snap_at time) records ≡ false = ap (λ t. list_any (is_snap_at t) records) (sym same) ∙ not_contained at records fits.new in
          ap Some (let e : length records + 1 ≡ suc (0 + length records) = omega arith in e) ∙ sym (ap (option_map suc) (first_here (is_snap_at time) 0 records (Snap at) none is))
      on at fits false is = so_far ∙ sym (ap (option_map suc) (first_other (is_snap_at time) 0 records (Snap at) is))

      by_kind : (r : Rec) → Fits owner records r → find nat_cmp time (with_snap (snapshots_of records) (length records + 1) r) ≡ place (records ++ r ∷ [])
      by_kind (Put entry text) fits = so_far ∙ sym (ap (option_map suc) (first_other (is_snap_at time) 0 records (Put entry text) refl))
      by_kind (Delete path) fits = so_far ∙ sym (ap (option_map suc) (first_other (is_snap_at time) 0 records (Delete path) refl))
      by_kind (Snap at) fits = found_snap records at ∙ on at fits (at == time) refl

  no_place : at_time [] ≡ None
  unfolding snapshots_of
  no_place = refl

  placed : (owner : List ℕ) (records : List Rec) → AreFitting owner records → at_time records ≡ place records
  placed owner records fitting = whole_front (λ rs. at_time rs ≡ place rs) records no_place (λ n rec at so_far. more_place owner (take n records) rec (fitting.each n rec at) so_far)

  -- at the time stands the position of the record
  pub snap_is : (owner : List ℕ) (records : List Rec) → AreFitting owner records → find nat_cmp time (snapshots_of records) ≡ snap_at records time
  unfolding snap_at
  snap_is owner records fitting = placed owner records fitting ∙ ap (option_map suc) (sym (position_from-zero (is_snap_at time) records))
