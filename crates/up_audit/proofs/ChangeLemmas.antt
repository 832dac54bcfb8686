-- When the last change of a path was followed by another. What stood there by its last change is found in the lemmas of snapshots
-- (`OldLemmas` of `up_snap`).
use Rattle.std.proofs.Common.{◌≡◌, ℕ, zero, suc, ◌+◌, ◌-◌, ◌≤◌, Bool, true, false, cond, length, take, refl, sym, ap, ◌∙◌, arith, Option, Some, None, List, ◌⊎◌, inl, inr}
use Rattle.std.specs.Prelude.{slice_get}
use Rattle.std.specs.Option.{option_and_then}
use Rattle.std.proofs.lemmas.Bool.{false≢true}
use Rattle.std.proofs.lemmas.List.{length-take-le}
use Rattle.std.proofs.lemmas.Option.{slice_get_within}
use Rattle.up_names.specs.PathNames.{PathName}
use Rattle.up_names.specs.PathOrder.{path_eq}
use Rattle.up_entry.specs.declared.records.Rec.{Rec}
use Rattle.up_entry.specs.declared.records.Rec.TheVariants.{Put, Delete, Snap}
use Rattle.up_mem_tree.proofs.Named.{last_change-push}
use Rattle.up_log_tree.specs.Changes.{change_before, changes_some, last_change, path_of_change}
use Rattle.up_log_tree.proofs.Fronts.{take_next, take_past}
use Rattle.up_log_tree.proofs.Paths.{path_same}

module _ (records : List Rec) (path : PathName) where
  -- the last change among the first n records
  abbrev pub Last : ℕ → Option ℕ
  Last n = last_change (take n records) path

  abbrev pub changes : Rec → Bool
  changes rec = changes_some (path_eq path) rec

  last_next : (n : ℕ) (rec : Rec) → slice_get records n ≡ Some rec → Last (suc n) ≡ cond (changes rec) (Some (suc n)) (Last n)
  last_next n rec is =
      ap (λ rs. last_change rs path) (take_next n records rec is) ∙ last_change-push (take n records) rec path
      ∙ ap (λ k. cond (changes rec) (Some k) (Last n)) (let e : length (take n records) ≡ n = length-take-le n records (let w = slice_get_within records n rec is in omega (arith, w)) in omega (arith, e))

  last_past : (n : ℕ) → slice_get records n ≡ None → Last (suc n) ≡ Last n
  last_past n is = ap (λ rs. last_change rs path) (take_past n records is)

  pub changed : (rec : Rec) → changes rec ≡ true → path_of_change rec ≡ Some path
  changed (Put entry text) one = ap Some (sym (path_same path entry.name one))
  changed (Delete gone) one = ap Some (sym (path_same path gone one))
  changed (Snap time) one = absurd (false≢true one)

  pub before_is : (place : ℕ) (rec : Rec) → slice_get records place ≡ Some rec → path_of_change rec ≡ Some path → change_before records (suc place) ≡ Last place
  unfolding change_before
  before_is place rec there one =
      ap (λ o. option_and_then (last_change (take (suc place - 1) records)) (option_and_then path_of_change o)) there
      ∙ ap (option_and_then (last_change (take (suc place - 1) records))) one
      ∙ ap Last (let e : suc place - 1 ≡ place = omega arith in e)

  -- A last change stays the last one, or another change follows it.
  pub record Followed (n at : ℕ) : Type 0 where
    pub place : ℕ
    pub behind : n ≤ place
    pub rec : Rec
    pub there : slice_get records place ≡ Some rec
    pub changes_it : path_of_change rec ≡ Some path
    pub before : change_before records (suc place) ≡ Some at

  pub stays_or_followed : (n k at : ℕ) → Last n ≡ Some at → (Last (n + k) ≡ Some at) ⊎ Followed n at
  stays_or_followed n zero at h = inl (ap Last (let e : n + 0 ≡ n = omega arith in e) ∙ h)
  stays_or_followed n (suc k) at h = by_last (stays_or_followed n k at h)
    where
      next : suc (n + k) ≡ n + suc k
      next = omega arith

      by_rec : (rec : Rec) → slice_get records (n + k) ≡ Some rec → (b : Bool) → changes rec ≡ b → Last (n + k) ≡ Some at → (Last (n + suc k) ≡ Some at) ⊎ Followed n at
      by_rec rec is true e here = inr (record { place = n + k; behind = omega arith; rec = rec; there = is; changes_it = changed rec e; before = before_is (n + k) rec is (changed rec e) ∙ here })
      by_rec rec is false e here = inl (ap Last (sym next) ∙ last_next (n + k) rec is ∙ ap (λ b. cond b (Some (suc (n + k))) (Last (n + k))) e ∙ here)

      by_place : (o : Option Rec) → slice_get records (n + k) ≡ o → Last (n + k) ≡ Some at → (Last (n + suc k) ≡ Some at) ⊎ Followed n at
      by_place None is here = inl (ap Last (sym next) ∙ last_past (n + k) is ∙ here)
      by_place (Some rec) is here = by_rec rec is (changes rec) refl here

      by_last : (Last (n + k) ≡ Some at) ⊎ Followed n at → (Last (n + suc k) ≡ Some at) ⊎ Followed n at
      by_last (inl here) = by_place (slice_get records (n + k)) refl here
      by_last (inr followed) = inr followed
