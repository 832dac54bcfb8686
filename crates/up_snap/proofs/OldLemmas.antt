-- What stood at a path, by the last change of it.
use Rattle.std.proofs.Common.{◌≡◌, ℕ, zero, suc, ◌+◌, ◌-◌, ◌<◌, ◌≤◌, Bool, true, false, cond, List, [], ◌∷◌, ◌++◌, length, take, drop, refl, sym, ap, ◌∙◌, arith, Option, Some, None}
use Rattle.std.specs.Prelude.{slice_get}
use Rattle.std.specs.Option.{option_and_then}
use Rattle.std.proofs.lemmas.Bool.{false≢true}
use Rattle.std.proofs.lemmas.List.{length-take-le, take_all}
use Rattle.std.proofs.lemmas.Option.{slice_get_within}
use Rattle.up_names.specs.PathNames.{PathName}
use Rattle.up_names.specs.PathOrder.{path_eq}
use Rattle.up_entry.specs.declared.records.Rec.{Rec}
use Rattle.up_entry.specs.declared.records.Rec.TheVariants.{Put, Delete, Snap}
use Rattle.up_mem_tree.proofs.Named.{last_change-none, last_change-push}
use Rattle.up_log_tree.specs.Changes.{change_before, changes_some, last_change, path_of_change, record_at}
use Rattle.up_log_tree.specs.Trees.{after_record, node_at, tree_at, tree_of}
use Rattle.up_log_tree.specs.declared.node.Node.{Node}
use Rattle.up_mem_tree.proofs.Lasts.{last_next, last_past}
use Rattle.up_log_tree.proofs.Fronts.{take_next, take_past}
use Rattle.up_log_tree.proofs.Paths.{path_eq_turned, path_same, some_none, some_same}
use Rattle.up_log_tree.proofs.Trees.{node_at-delete, node_at-empty, node_at-put, node_at-snap, tree_of-push}

module _ (records : List Rec) (path : PathName) where
  -- the last change among the first n records
  abbrev Last : ℕ → Option ℕ
  Last n = last_change (take n records) path

  abbrev changes : Rec → Bool
  changes rec = changes_some (path_eq path) rec

  -- a last change is one, and none comes behind it
  pub record IsLast (n at : ℕ) : Type 0 where
    pub place : ℕ
    pub position : at ≡ suc place
    pub within : at ≤ n
    pub rec : Rec
    pub there : slice_get records place ≡ Some rec
    pub one : changes rec ≡ true

  pub last_is : (n at : ℕ) → Last n ≡ Some at → IsLast n at
  last_is zero at h = absurd (some_none at (sym h ∙ last_change-none path))
  last_is (suc n) at h = go (slice_get records n) refl (λ k. last_is n at k)
    where
      more : IsLast n at → IsLast (suc n) at
      more was = record { place = was.place; position = was.position; within = omega (arith, was.within); rec = was.rec; there = was.there; one = was.one }

      by : (rec : Rec) → slice_get records n ≡ Some rec → (b : Bool) → changes rec ≡ b → cond b (Some (suc n)) (Last n) ≡ Some at → (Last n ≡ Some at → IsLast n at) → IsLast (suc n) at
      by rec is true e k ih =
          let same : suc n ≡ at = some_same (suc n) at k in
          record { place = n; position = sym same; within = omega (arith, same); rec = rec; there = is; one = e }
      by rec is false e k ih = more (ih k)

      go : (o : Option Rec) → slice_get records n ≡ o → (Last n ≡ Some at → IsLast n at) → IsLast (suc n) at
      go None is ih = more (ih (sym (last_past records path n is) ∙ h))
      go (Some rec) is ih = by rec is (changes rec) refl (sym (last_next records path n rec is) ∙ h) ih

  -- it is the last among fewer records too, where it is among them
  pub last_kept : (n k at : ℕ) → Last (n + k) ≡ Some at → at ≤ n → Last n ≡ Some at
  last_kept n zero at h low = ap Last (let e : n ≡ n + 0 = omega arith in e) ∙ h
  last_kept n (suc k) at h low = go (slice_get records (n + k)) refl (λ m. last_kept n k at m low)
    where
      h' : Last (suc (n + k)) ≡ Some at
      h' = ap Last (let e : suc (n + k) ≡ n + suc k = omega arith in e) ∙ h

      by : (rec : Rec) → (b : Bool) → cond b (Some (suc (n + k))) (Last (n + k)) ≡ Some at → (Last (n + k) ≡ Some at → Last n ≡ Some at) → Last n ≡ Some at
      by rec true m ih = let same : suc (n + k) ≡ at = some_same (suc (n + k)) at m in absurd (omega (arith, same, low))
      by rec false m ih = ih m

      go : (o : Option Rec) → slice_get records (n + k) ≡ o → (Last (n + k) ≡ Some at → Last n ≡ Some at) → Last n ≡ Some at
      go None is ih = ih (sym (last_past records path (n + k) is) ∙ h')
      go (Some rec) is ih = by rec (changes rec) (sym (last_next records path (n + k) rec is) ∙ h') ih

  -- where there is none, there is none among fewer
  pub none_kept : (n k : ℕ) → Last (n + k) ≡ None → Last n ≡ None
  none_kept n zero h = ap Last (let e : n ≡ n + 0 = omega arith in e) ∙ h
  none_kept n (suc k) h = go (slice_get records (n + k)) refl (λ m. none_kept n k m)
    where
      h' : Last (suc (n + k)) ≡ None
      h' = ap Last (let e : suc (n + k) ≡ n + suc k = omega arith in e) ∙ h

      by : (rec : Rec) → (b : Bool) → cond b (Some (suc (n + k))) (Last (n + k)) ≡ None → (Last (n + k) ≡ None → Last n ≡ None) → Last n ≡ None
      by rec true m ih = absurd (some_none (suc (n + k)) m)
      by rec false m ih = ih m

      go : (o : Option Rec) → slice_get records (n + k) ≡ o → (Last (n + k) ≡ None → Last n ≡ None) → Last n ≡ None
      go None is ih = ih (sym (last_past records path (n + k) is) ∙ h')
      go (Some rec) is ih = by rec (changes rec) (sym (last_next records path (n + k) rec is) ∙ h') ih

  -- ---- going back

  -- what is known of the change at hand: it is the last among so many records, that are no fewer
  pub record IsBack (n : ℕ) (last : Option ℕ) : Type 0 where
    pub more : ℕ
    pub is : last ≡ Last (n + more)

  pub back_first : (n : ℕ) (last : Option ℕ) → last ≡ last_change records path → IsBack n last
  back_first n last h = record { more = length records; is = h ∙ ap (λ rs. last_change rs path) (sym (take_all (n + length records) records (omega arith))) }

  changed : (rec : Rec) → changes rec ≡ true → path_of_change rec ≡ Some path
  changed (Put entry text) one = ap Some (sym (path_same path entry.name one))
  changed (Delete gone) one = ap Some (sym (path_same path gone one))
  changed (Snap time) one = absurd (false≢true one)

  before_is : (at place : ℕ) (rec : Rec) → at ≡ suc place → slice_get records place ≡ Some rec → changes rec ≡ true → change_before records at ≡ Last place
  unfolding change_before
  before_is at place rec is there one =
      ap (λ k. option_and_then (last_change (take (k - 1) records)) (option_and_then path_of_change (record_at records k))) is
      ∙ ap (λ o. option_and_then (last_change (take (suc place - 1) records)) (option_and_then path_of_change o)) there
      ∙ ap (option_and_then (last_change (take (suc place - 1) records))) (changed rec one)
      ∙ ap Last (let e : suc place - 1 ≡ place = omega arith in e)

  pub back_next : (n at : ℕ) (last next : Option ℕ) → IsBack n last → last ≡ Some at → n < at → next ≡ change_before records at → IsBack n next
  back_next n at last next so_far some later is =
      let found = last_is (n + so_far.more) at (sym so_far.is ∙ some) in
      let rest : found.place ≡ n + (found.place - n) = omega (arith, found.position, later) in
      record { more = found.place - n; is = is ∙ before_is at found.place found.rec found.position found.there found.one ∙ ap Last rest }

  pub back_here : (n at : ℕ) (last : Option ℕ) → IsBack n last → last ≡ Some at → at ≤ n → Some at ≡ last_change (take n records) path
  back_here n at last so_far some low = sym (last_kept n so_far.more at (sym so_far.is ∙ some) low)

  pub back_none : (n : ℕ) (last : Option ℕ) → IsBack n last → last ≡ None → None ≡ last_change (take n records) path
  back_none n last so_far none = sym (none_kept n so_far.more (sym so_far.is ∙ none))

-- ---- the elements behind the first four

module _ {X : Type 0} where
  dropped : (k i : ℕ) (xs : List X) (x : X) → k ≤ i → slice_get xs i ≡ Some x → drop k (take (suc i) xs) ≡ drop k (take i xs) ++ x ∷ []
  dropped zero i xs x le is = take_next i xs x is
  dropped (suc k) zero xs x le is = absurd (omega (arith, le))
  dropped (suc k) (suc i) [] x le is = absurd (some_none x (sym is))
  dropped (suc k) (suc i) (y ∷ ys) x le is = dropped k i ys x (omega (arith, le)) is

  pub dropped_next : (i : ℕ) (xs : List X) (x : X) → 4 ≤ i → slice_get xs i ≡ Some x → drop 4 (take i xs) ++ x ∷ [] ≡ drop 4 (take (i + 1) xs)
  dropped_next i xs x le is = sym (dropped 4 i xs x le is) ∙ ap (λ n. drop 4 (take n xs)) (let e : suc i ≡ i + 1 = omega arith in e)

  pub dropped_none : (xs : List X) → [] ≡ drop 4 (take 4 xs)
  dropped_none [] = refl
  dropped_none (a ∷ []) = refl
  dropped_none (a ∷ b ∷ []) = refl
  dropped_none (a ∷ b ∷ c ∷ []) = refl
  dropped_none (a ∷ b ∷ c ∷ d ∷ xs) = refl

  pub dropped_all : (i : ℕ) (xs : List X) → length xs ≤ i → drop 4 (take i xs) ≡ drop 4 xs
  dropped_all i xs le = ap (drop 4) (take_all i xs le)
