-- The positions of changes before, as they are kept.
use Rattle.std.proofs.Common.{◌≡◌, ◌≢◌, ℕ, zero, suc, ◌+◌, ◌-◌, ◌<◌, ◌≤◌, Bool, true, false, cond, List, [], ◌∷◌, ◌++◌, length, take, Option, Some, None, refl, sym, ap, ◌∙◌, inl, inr, arith}
use Rattle.std.specs.Prelude.{◌==◌, if◌then◌else◌, slice_get, unwrap_or}
use Rattle.std.specs.List.{range_with_len}
use Rattle.std.specs.Option.{option_and_then, option_map}
use Rattle.std.proofs.lemmas.Bool.{cases_lt, eqb-false, eqb-true}
use Rattle.std.proofs.lemmas.Option.{slice_get-map}
use Rattle.up_names.specs.PathNames.{PathName}
use Rattle.up_names.specs.PathOrder.{path_eq}
use Rattle.up_entry.specs.declared.records.Rec.{Rec}
use Rattle.up_log_tree.specs.Changes.{change_before, changes_some, last_change, path_of_change, record_at}
use Rattle.up_mem_tree.specs.Kept.{befores_of}
use Rattle.up_log_tree.proofs.Fronts.{whole_front}
use Rattle.up_log_tree.proofs.Paths.{some_none, some_same}
use Rattle.up_mem_tree.proofs.Named.{last_change-push}

range_at : (first len i : ℕ) → i < len → slice_get (range_with_len first len) i ≡ Some (first + i)
range_at first zero i lt = absurd (omega (arith, lt))
range_at first (suc len) zero lt = ap Some (let e : first ≡ first + 0 = omega arith in e)
range_at first (suc len) (suc i) lt = range_at (first + 1) len i (omega (arith, lt)) ∙ ap Some (let e : first + 1 + i ≡ first + suc i = omega arith in e)

range_past : (first len i : ℕ) → len ≤ i → slice_get (range_with_len first len) i ≡ None
range_past first zero i le = refl
range_past first (suc len) zero le = absurd (omega (arith, le))
range_past first (suc len) (suc i) le = range_past (first + 1) len i (omega (arith, le))

none_past : {X : Type 0} (xs : List X) (i : ℕ) → length xs ≤ i → slice_get xs i ≡ None
none_past [] i le = refl
none_past (x ∷ xs) zero le = absurd (omega (arith, le))
none_past (x ∷ xs) (suc i) le = none_past xs i (omega (arith, le))

module _ (records : List Rec) where
  kept_at : (i : ℕ) → i < length records → slice_get (befores_of records) i ≡ Some (unwrap_or (change_before records (suc i)) 0)
  kept_at i lt =
      slice_get-map (λ n. unwrap_or (change_before records n) 0) (range_with_len 1 (length records)) i
      ∙ ap (option_map (λ n. unwrap_or (change_before records n) 0)) (range_at 1 (length records) i lt)
      ∙ ap (λ n. Some (unwrap_or (change_before records n) 0)) (let e : 1 + i ≡ suc i = omega arith in e)

  kept_past : (i : ℕ) → length records ≤ i → slice_get (befores_of records) i ≡ None
  kept_past i le =
      slice_get-map (λ n. unwrap_or (change_before records n) 0) (range_with_len 1 (length records)) i
      ∙ ap (option_map (λ n. unwrap_or (change_before records n) 0)) (range_past 1 (length records) i le)

  -- ---- a position is never 0

  no_record : (i : ℕ) → length records ≤ i → change_before records (suc i) ≡ None
  unfolding change_before
  no_record i le = ap (λ o. option_and_then (last_change (take (suc i - 1) records)) (option_and_then path_of_change o)) (none_past records i le)

some_more : (path : PathName) (front : List Rec) (rec : Rec) → last_change front path ≢ Some 0 → last_change (front ++ rec ∷ []) path ≢ Some 0
some_more path front rec before is = go (changes_some (path_eq path) rec) refl
  where
    go : (b : Bool) → changes_some (path_eq path) rec ≡ b → ⊥
    go true here = let e : length front + 1 ≡ 0 = some_same (length front + 1) 0 (sym (last_change-push front rec path ∙ ap (λ b. cond b (Some (length front + 1)) (last_change front path)) here) ∙ is) in absurd (omega (arith, e))
    go false other = before (sym (last_change-push front rec path ∙ ap (λ b. cond b (Some (length front + 1)) (last_change front path)) other) ∙ is)

nothing_yet : (path : PathName) → last_change [] path ≢ Some 0
unfolding last_change
nothing_yet path is = some_none 0 (sym is)

pub not_zero : (records : List Rec) (path : PathName) → last_change records path ≢ Some 0
not_zero records path = whole_front (λ rs. last_change rs path ≢ Some 0) records (nothing_yet path) (λ n rec at so_far. some_more path (take n records) rec so_far)

before_not_zero : (records : List Rec) (n : ℕ) → change_before records n ≢ Some 0
unfolding change_before
before_not_zero records n = go (option_and_then path_of_change (record_at records n))
  where
    go : (o : Option PathName) → option_and_then (last_change (take (n - 1) records)) o ≢ Some 0
    go None is = some_none 0 (sym is)
    go (Some path) is = not_zero (take (n - 1) records) path is

-- ---- what is read

module _ (records : List Rec) (kept : List ℕ) (same : kept ≡ befores_of records) (i : ℕ) where
  pub read_none : slice_get kept i ≡ None → None ≡ change_before records (suc i)
  read_none none = elim (cases_lt i (length records)) [
    | inl lt ↦ absurd (some_none (unwrap_or (change_before records (suc i)) 0) (sym (kept_at records i lt) ∙ ap (λ l. slice_get l i) (sym same) ∙ none))
    | inr le ↦ sym (no_record records i le)
  ]

  value : (p : ℕ) → slice_get kept i ≡ Some p → p ≡ unwrap_or (change_before records (suc i)) 0
  value p is = elim (cases_lt i (length records)) [
    | inl lt ↦ some_same p (unwrap_or (change_before records (suc i)) 0) (sym is ∙ ap (λ l. slice_get l i) same ∙ kept_at records i lt)
    | inr le ↦ absurd (some_none p (sym is ∙ ap (λ l. slice_get l i) same ∙ kept_past records i le))
  ]

  pub read_zero : slice_get kept i ≡ Some 0 → None ≡ change_before records (suc i)
  read_zero is = go (change_before records (suc i)) refl
    where
      go : (o : Option ℕ) → change_before records (suc i) ≡ o → None ≡ change_before records (suc i)
      go None none = sym none
      go (Some p) some = absurd (before_not_zero records (suc i) (some ∙ ap Some (sym (value 0 is ∙ ap (λ o. unwrap_or o 0) some))))

  pub read_some : (p : ℕ) → p ≢ 0 → slice_get kept i ≡ Some p → Some p ≡ change_before records (suc i)
  read_some p other is = go (change_before records (suc i)) refl
    where
      go : (o : Option ℕ) → change_before records (suc i) ≡ o → Some p ≡ change_before records (suc i)
      go None none = absurd (other (value p is ∙ ap (λ o. unwrap_or o 0) none))
      go (Some q) some = ap Some (value p is ∙ ap (λ o. unwrap_or o 0) some) ∙ sym some

-- ---- by its position

pub none_at_zero : (records : List Rec) (n : ℕ) → n ≡ 0 → None ≡ change_before records n
unfolding change_before
none_at_zero records n is = sym (ap (λ k. option_and_then (last_change (take (n - 1) records)) (option_and_then path_of_change (record_at records k))) is)

module _ (records : List Rec) (kept : List ℕ) (same : kept ≡ befores_of records) (n : ℕ) (positive : n ≢ 0) where
  place : suc (n - 1) ≡ n
  place = omega (arith, positive)

  pub value_at : (p : ℕ) → Some p ≡ slice_get kept (n - 1) → (if p == 0 then None else Some p) ≡ change_before records n
  value_at p is = go (p == 0) refl ∙ ap (change_before records) place
    where
      go : (b : Bool) → (p == 0) ≡ b → (if p == 0 then None else Some p) ≡ change_before records (suc (n - 1))
      go true is_zero = ap (λ b. if b then None else Some p) is_zero ∙ read_zero records kept same (n - 1) (sym is ∙ ap Some (eqb-true p 0 is_zero))
      go false other = ap (λ b. if b then None else Some p) other ∙ read_some records kept same (n - 1) p (eqb-false p 0 other) (sym is)

  pub none_at : None ≡ slice_get kept (n - 1) → None ≡ change_before records n
  none_at none = read_none records kept same (n - 1) (sym none) ∙ ap (change_before records) place
