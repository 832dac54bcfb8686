-- A search from the groups that were met, group by group.
use Rattle.std.proofs.Common.{◌≡◌, ℕ, ◌+◌, ◌<◌, ◌≤◌, Bool, true, false, ◌||◌, List, [], ◌∷◌, ◌++◌, length, take, refl, inl, inr, sym, ap, subst, ◌∙◌, arith, Option, Some, None, slice_get, add-one, get_or, drop, append_assoc}
use Rattle.std.specs.Prelude.{Contains, filter, if◌then◌else◌}
use Rattle.std.specs.List.{list_any}
use Rattle.std.proofs.lemmas.Bool.{cases_lt}
use Rattle.std.proofs.lemmas.List.{take_all, take-append-le, take-append-drop}
use Rattle.std.proofs.lemmas.List.Elements.{filter_more, filter-append}
use Rattle.std.proofs.lemmas.List.Sums.{fold-append}
use Rattle.std.proofs.lemmas.List.Folds.{list_any_more}
use Rattle.std.proofs.lemmas.Option.{slice_get_within, slice_get-get_or, get_or_from_slice_get}
use Rattle.up_names.specs.declared.items.Item.{Item}
use Rattle.up_names.specs.PathNames.{PathName}
use Rattle.up_policy.specs.Members.{has_user, is_user, items_in, groups_in}
use Rattle.up_policy.specs.Reached.{met_after, after_look, nameable, reached, with_path, with_paths, AddsPart}
use Rattle.up_policy.proofs.PathLists.{Contains-at, front_of_with_paths}
use Rattle.up_policy.proofs.ReachedLemmas.{Lists, look_at, met_short, reached_is, met_reached, front_of_reached}
use Rattle.up_policy.proofs.VerdictLemmas.{any_at}

-- the first n of the met groups were looked at
pub record Looked (texts : PathName → Option (List Item)) (starts : List PathName) (n : ℕ) (met : List PathName) : Type 0 where
  pub met_is : met ≡ met_after texts starts n

-- and none of them has the user
pub record Without (texts : PathName → Option (List Item)) (user : List ℕ) (n : ℕ) (met : List PathName) : Type 0 where
  pub none : list_any (has_user texts user) (take n met) ≡ false

-- before the first look
pub looked_start : (texts : PathName → Option (List Item)) (starts met : List PathName) → met ≡ with_paths [] starts → Looked texts starts 0 met
looked_start texts starts met h = record { met_is = h }

pub without_start : (texts : PathName → Option (List Item)) (user : List ℕ) (met : List PathName) → Without texts user 0 met
without_start texts user met = record { none = refl }

-- a look at the next
pub looked_more : (texts : PathName → Option (List Item)) (starts : List PathName) (n : ℕ) (met now : List PathName) (group : PathName) (items : List Item) → Looked texts starts n met → Some group ≡ slice_get met n → items ≡ items_in texts group → now ≡ with_paths met (groups_in items) → Looked texts starts (n + 1) now
looked_more texts starts n met now group items looked at text added = record {
  met_is = added ∙ (ap (λ found. with_paths met (groups_in found)) text ∙ (sym (look_at texts n met group (sym at)) ∙ (ap (after_look texts n) looked.met_is ∙ ap (met_after texts starts) (sym (add-one n)))));
}

-- what was met keeps its place
same_front : (n : ℕ) (met now : List PathName) (group : PathName) (names : List PathName) → Some group ≡ slice_get met n → now ≡ with_paths met names → take (n + 1) now ≡ take (n + 1) met
same_front n met now group names at added =
    let within : n < length met = slice_get_within met n group (sym at) in
    let front = front_of_with_paths met names in
    ap (take (n + 1)) (added ∙ front.1) ∙ take-append-le (n + 1) met front.0 (omega arith)

pub without_more : (texts : PathName → Option (List Item)) (user : List ℕ) (n : ℕ) (met now : List PathName) (group : PathName) (items : List Item) (has : Bool) → Without texts user n met → Some group ≡ slice_get met n → items ≡ items_in texts group → now ≡ with_paths met (groups_in items) → has ≡ list_any (is_user user) items → has ≡ false → Without texts user (n + 1) now
without_more texts user n met now group items has without at text added tested lacks =
    let within : n < length met = slice_get_within met n group (sym at) in
    record {
      none = ap (list_any (has_user texts user)) (same_front n met now group (groups_in items) at added)
          ∙ (list_any_more (has_user texts user) met n group within
          ∙ (ap (λ b. b || has_user texts user (get_or met n group)) without.none
          ∙ (ap (has_user texts user) (get_or_from_slice_get met n group group (sym at))
          ∙ (ap (list_any (is_user user)) (sym text) ∙ (sym tested ∙ lacks)))));
    }

-- Of the first n met groups those that pass were added to a list.
pub record Added (passes : PathName → Bool) (old : List PathName) (n : ℕ) (met now : List PathName) : Type 0 where
  pub now_is : now ≡ with_paths old (filter passes (take n met))

pub added_start : (passes : PathName → Bool) (old met : List PathName) → Added passes old 0 met old
added_start passes old met = record { now_is = refl }

-- the next was added, where it passes
pub added_more : (passes : PathName → Bool) (old : List PathName) (n : ℕ) (met now next : List PathName) (group : PathName) → Added passes old n met now → Some group ≡ slice_get met n → next ≡ (if passes group then with_path now group else now) → Added passes old (n + 1) met next
added_more passes old n met now next group before at next_is =
    let within : n < length met = slice_get_within met n group (sym at) in
    record {
      now_is = next_is
          ∙ (ap (λ (all : List PathName). if passes group then with_path all group else all) before.now_is
          ∙ sym (ap (with_paths old) (filter_more passes met n group within ∙ ap (λ g. filter passes (take n met) ++ (if passes g then g ∷ [] else [])) (get_or_from_slice_get met n group group (sym at)))
          ∙ (fold-append with_path old (filter passes (take n met)) (if passes group then group ∷ [] else []) ∙ one_more (with_paths old (filter passes (take n met))) (passes group))));
    }
  where
    one_more : (all : List PathName) (b : Bool) → with_paths all (if b then group ∷ [] else []) ≡ (if b then with_path all group else all)
    one_more all true = refl
    one_more all false = refl

-- and its text's groups were met
pub added_met : (passes : PathName → Bool) (old : List PathName) (n : ℕ) (met then_met now : List PathName) (group : PathName) (names : List PathName) → Added passes old (n + 1) met now → Some group ≡ slice_get met n → then_met ≡ with_paths met names → Added passes old (n + 1) then_met now
added_met passes old n met then_met now group names before at added = record {
  now_is = before.now_is ∙ ap (λ front. with_paths old (filter passes front)) (sym (same_front n met then_met group names at added));
}

past_end : (n : ℕ) (met : List PathName) → slice_get met n ≡ None → length met ≤ n
past_end n met past = elim (cases_lt n (length met)) [
  | inl within ↦ absurd (no_place n met within past)
  | inr past ↦ past
]
  where
    no_place : (n : ℕ) (met : List PathName) → n < length met → slice_get met n ≡ None → ⊥
    no_place n [] within none = absurd (omega arith)
    no_place n (group ∷ met) within none = let e : Some (get_or (group ∷ met) n group) ≡ None = sym (slice_get-get_or (group ∷ met) n group within) ∙ none in cc

module _ (texts : PathName → Option (List Item)) (starts listed : List PathName) (lists : Lists texts listed) where
  -- there is something to look at only within the groups that can be met
  pub looked_within : (n : ℕ) (met : List PathName) (group : PathName) → Looked texts starts n met → Some group ≡ slice_get met n → n < length (nameable texts listed starts)
  looked_within n met group looked at =
      let within : n < length met = slice_get_within met n group (sym at) in
      let short : length met ≤ length (nameable texts listed starts) = subst (λ (all : List PathName). length all ≤ length (nameable texts listed starts)) (sym looked.met_is) (met_short texts starts listed lists n) in
      omega arith

  -- nothing is left to look at: the met groups are those that are reached
  looked_all : (n : ℕ) (met : List PathName) → Looked texts starts n met → None ≡ slice_get met n → met ≡ reached texts listed starts
  looked_all n met looked past = looked.met_is ∙ sym (reached_is texts starts listed lists n (subst (λ (all : List PathName). length all ≤ n) looked.met_is (past_end n met (sym past))))

  -- the next has the user
  pub found_user : (user : List ℕ) (n : ℕ) (met : List PathName) (group : PathName) (items : List Item) (has : Bool) → Looked texts starts n met → Some group ≡ slice_get met n → items ≡ items_in texts group → has ≡ list_any (is_user user) items → has ≡ true → true ≡ list_any (has_user texts user) (reached texts listed starts)
  found_user user n met group items has looked at text tested holds =
      sym (any_at (has_user texts user) (reached texts listed starts) group
      (met_reached texts starts listed lists n group (subst (λ (all : List PathName). Contains all group) looked.met_is (Contains-at met n group (sym at))))
      (ap (list_any (is_user user)) (sym text) ∙ (sym tested ∙ holds)))

  -- nothing is left to look at, and none has the user
  pub found_none : (user : List ℕ) (n : ℕ) (met : List PathName) → Looked texts starts n met → Without texts user n met → None ≡ slice_get met n → false ≡ list_any (has_user texts user) (reached texts listed starts)
  found_none user n met looked without past =
      sym (ap (list_any (has_user texts user)) (sym (looked_all n met looked past) ∙ sym (take_all n met (past_end n met (sym past)))) ∙ without.none)

  -- nothing is left to look at: all that pass were added
  pub added_all : (passes : PathName → Bool) (old : List PathName) (n : ℕ) (met now : List PathName) → Looked texts starts n met → Added passes old n met now → None ≡ slice_get met n → now ≡ with_paths old (filter passes (reached texts listed starts))
  added_all passes old n met now looked added past =
      added.now_is ∙ ap (λ groups. with_paths old (filter passes groups)) (take_all n met (past_end n met (sym past)) ∙ looked_all n met looked past)

  -- some of those that pass were added, the first of them
  pub added_part : (passes : PathName → Bool) (old : List PathName) (n k : ℕ) (met now : List PathName) → Looked texts starts n met → Added passes old k met now → AddsPart old now (filter passes (reached texts listed starts))
  added_part passes old n k met now looked added =
      let front = front_of_reached texts starts listed lists n in
      let kept = filter passes (take k met) in
      let rest = filter passes (drop k met ++ front.0) in
      let whole : filter passes (reached texts listed starts) ≡ kept ++ rest =
      ap (filter passes) (front.1 ∙ (ap (λ all. all ++ front.0) (sym looked.met_is ∙ sym (take-append-drop k met)) ∙ append_assoc (take k met) (drop k met) front.0))
      ∙ filter-append passes (take k met) (drop k met ++ front.0) in
      (length kept, added.now_is ∙ ap (with_paths old) (sym (ap (take (length kept)) whole ∙ (take-append-le (length kept) kept rest (omega arith) ∙ take_all (length kept) kept (omega arith)))))
