-- The last change of a Group file, as it is kept.
use Rattle.std.proofs.Common.{◌≡◌, ℕ, suc, ◌+◌, ◌-◌, ◌<◌, ◌≤◌, Bool, true, false, cond, List, [], ◌∷◌, ◌++◌, length, take, get_or, refl, sym, ap, subst, ◌∙◌, inl, inr, arith, Some, None}
use Rattle.std.specs.Prelude.{slice_get, unwrap_or}
use Rattle.std.specs.List.{last_or}
use Rattle.std.proofs.lemmas.Bool.{cases_lt}
use Rattle.std.proofs.lemmas.List.{length_push, take-append-le, take_all}
use Rattle.std.proofs.lemmas.Option.{get_or_from_slice_get}
use Rattle.up_entry.specs.declared.records.Rec.{Rec}
use Rattle.up_log_tree.specs.Changes.{changes_some, positions_of}
use Rattle.up_log_tree.specs.Rights.{is_group}
use Rattle.up_mem_tree.specs.Groups.{AreGroupChanges, last_group_change}
use Rattle.up_mem_tree.proofs.Named.{last_or-push, positions-push}
use Rattle.up_mem_tree.proofs.Pushed.{get_front, get_last}

-- one record more
pub last_group-push : (records : List Rec) (rec : Rec) → last_group_change (records ++ rec ∷ []) ≡ cond (changes_some is_group rec) (length records + 1) (last_group_change records)
unfolding last_group_change
last_group-push records rec = ap (λ ns. unwrap_or (last_or None ns) 0) (positions-push (changes_some is_group) 0 records rec) ∙ go (changes_some is_group rec)
  where
    go : (b : Bool) → unwrap_or (last_or None (cond b (positions_of (changes_some is_group) 0 records ++ (0 + length records + 1) ∷ []) (positions_of (changes_some is_group) 0 records))) 0
        ≡ cond b (length records + 1) (unwrap_or (last_or None (positions_of (changes_some is_group) 0 records)) 0)
    go true = ap (λ o. unwrap_or o 0) (last_or-push None (positions_of (changes_some is_group) 0 records) (0 + length records + 1)) ∙ (let e : 0 + length records + 1 ≡ length records + 1 = omega arith in e)
    go false = refl

-- of an empty log nothing is kept
pub grouped_none : (records : List Rec) (kept : List ℕ) → records ≡ [] → kept ≡ [] → AreGroupChanges records kept
grouped_none records kept none empty = record {
  size = ap length empty ∙ sym (ap length none);
  each = λ n lt. let e : length records ≡ 0 = ap length none in absurd (omega (arith, lt, e));
}

-- and with one record more what it makes
pub grouped_more : (records : List Rec) (kept now : List ℕ) (rec : Rec) (last : ℕ) → AreGroupChanges records kept → last ≡ last_group_change (records ++ rec ∷ []) → now ≡ kept ++ last ∷ [] → AreGroupChanges (records ++ rec ∷ []) now
grouped_more records kept now rec last are is pushed = subst (AreGroupChanges (records ++ rec ∷ [])) (sym pushed) (record {
  size = length_push kept last ∙ (ap (λ n. n + 1) are.size ∙ sym (length_push records rec));
  each = by;
})
  where
    by : (n : ℕ) → n < length (records ++ rec ∷ []) → slice_get (kept ++ last ∷ []) n ≡ Some (last_group_change (take (suc n) (records ++ rec ∷ [])))
    by n lt = elim (cases_lt n (length records)) [
      | inl low ↦
          get_front kept (last ∷ []) n (omega (arith, low, are.size))
          ∙ (are.each n low ∙ ap (λ rs. Some (last_group_change rs)) (sym (take-append-le (suc n) records (rec ∷ []) (omega (arith, low)))))
      | inr high ↦
          let long : length (records ++ rec ∷ []) ≡ length records + 1 = length_push records rec in
          let at : n ≡ length kept = omega (arith, lt, high, long, are.size) in
          ap (slice_get (kept ++ last ∷ [])) at
          ∙ (get_last kept last ∙ ap Some (is ∙ ap last_group_change (sym (take_all (suc n) (records ++ rec ∷ []) (omega (arith, high, long))))))
    ]

-- ---- what is read

pub grouped_zero : (records : List Rec) (n : ℕ) → n ≡ 0 → 0 ≡ last_group_change (take n records)
unfolding last_group_change
grouped_zero records n is = sym (ap (λ k. last_group_change (take k records)) is)

pub grouped_at : (records : List Rec) (kept : List ℕ) (n : ℕ) → AreGroupChanges records kept → (n ≡ 0 → ⊥) → n ≤ length records → get_or kept (n - 1) 0 ≡ last_group_change (take n records)
grouped_at records kept n are some within =
    let next : suc (n - 1) ≡ n = omega (arith, some) in
    get_or_from_slice_get kept (n - 1) (last_group_change (take (suc (n - 1)) records)) 0 (are.each (n - 1) (omega (arith, some, within)))
    ∙ ap (λ k. last_group_change (take k records)) next

-- ---- the next one

module _ (records : List Rec) (rec : Rec) (n : ℕ) (all : n ≡ length records) (test : Bool) (is : test ≡ changes_some is_group rec) where
  pub next_changed : test ≡ true → n + 1 ≡ last_group_change (records ++ rec ∷ [])
  next_changed changed = ap (λ m. m + 1) all ∙ sym (last_group-push records rec ∙ ap (λ b. cond b (length records + 1) (last_group_change records)) (sym is ∙ changed))

  pub next_same : (last : ℕ) → last ≡ last_group_change (take n records) → test ≡ false → last ≡ last_group_change (records ++ rec ∷ [])
  next_same last at other =
      at ∙ (ap last_group_change (take_all n records (omega (arith, all)))
      ∙ sym (last_group-push records rec ∙ ap (λ b. cond b (length records + 1) (last_group_change records)) (sym is ∙ other)))
