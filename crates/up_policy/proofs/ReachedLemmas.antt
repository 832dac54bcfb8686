-- The search that keeps the groups already met agrees with lists of groups, cycles included.
use Rattle.std.proofs.Common.{◌≡◌, ℕ, zero, suc, ◌+◌, ◌<◌, ◌≤◌, List, [], ◌∷◌, ◌++◌, length, refl, sym, ap, subst, ◌∙◌, ◌⊎◌, inl, inr, arith, Option, Some, None, slice_get, append-nil, append_assoc, get_or, unwrap_or}
use Rattle.std.specs.Prelude.{Contains, IsTrue, IsSome}
use Rattle.std.specs.List.{flat_map, IsDistinct}
use Rattle.std.proofs.lemmas.Bool.{cases_lt}
use Rattle.std.proofs.lemmas.List.Elements.{Contains-append_left, Contains-append_right}
use Rattle.std.proofs.lemmas.Map.Made.{length-le_from_is_member}
use Rattle.std.proofs.lemmas.Option.{slice_get_within, slice_get_past, slice_get-get_or}
use Rattle.up_names.specs.declared.items.Item.{Item}
use Rattle.up_names.specs.PathNames.{PathName}
use Rattle.up_names.specs.PathOrder.{path_eq}
use Rattle.up_names.specs.PathOrderLaws.{path_eq_equivalence}
use Rattle.up_policy.specs.Members.{Chain, IsMember, groups_in, names_in, has_user}
use Rattle.up_policy.specs.Reached.{after_look, met_after, nameable, reached, IsReached, with_paths}
use Rattle.up_policy.proofs.PathLists.{no_member, place_of, Contains-at, slice_get-front, Contains-flat_map, Contains-from_among, among_from_Contains, front_of_with_paths, with_paths-has, with_paths-cases, with_paths-distinct}

-- each group that has a text is listed
pub record Lists (texts : PathName → Option (List Item)) (listed : List PathName) : Type 0 where
  pub all : (group : PathName) → IsSome (texts group) → Contains listed group

module _ (texts : PathName → Option (List Item)) where
  -- the list after a look at what stood there
  abbrev looked : List PathName → Option PathName → List PathName
  looked met None = met
  looked met (Some group) = with_paths met (names_in texts group)

  looked_is : (n : ℕ) (met : List PathName) (found : Option PathName) → slice_get met n ≡ found → after_look texts n met ≡ looked met found
  looked_is n met found h = ap (looked met) h

  -- nothing stands there
  pub look_past : (n : ℕ) (met : List PathName) → slice_get met n ≡ None → after_look texts n met ≡ met
  look_past n met h = ap (looked met) h

  pub look_at : (n : ℕ) (met : List PathName) (group : PathName) → slice_get met n ≡ Some group → after_look texts n met ≡ with_paths met (names_in texts group)
  look_at n met group h = ap (looked met) h

  -- what stands at a place, or nothing
  at_place : (met : List PathName) (n : ℕ) → ((group : PathName) × (slice_get met n ≡ Some group)) ⊎ (slice_get met n ≡ None)
  at_place met n = from (slice_get met n) refl
    where
      from : (found : Option PathName) → slice_get met n ≡ found → ((group : PathName) × (slice_get met n ≡ Some group)) ⊎ (slice_get met n ≡ None)
      from (Some group) h = inl (group, h)
      from None h = inr h

  none_distinct : IsDistinct path_eq []
  unfolding IsDistinct
  none_distinct = tt

  module _ (starts : List PathName) where
    -- no group is met twice
    pub met_distinct : (n : ℕ) → IsDistinct path_eq (met_after texts starts n)
    met_distinct zero = with_paths-distinct [] starts none_distinct
    met_distinct (suc n) =
        let met = met_after texts starts n in
        elim (at_place met n) [
          | inl found ↦ subst (IsDistinct path_eq) (sym (look_at n met found.0 found.1)) (with_paths-distinct met (names_in texts found.0) (met_distinct n))
          | inr past ↦ subst (IsDistinct path_eq) (sym (look_past n met past)) (met_distinct n)
        ]

    -- a look keeps what was met, at its places
    front_of_next : (n : ℕ) → (behind : List PathName) × (met_after texts starts (suc n) ≡ met_after texts starts n ++ behind)
    front_of_next n =
        let met = met_after texts starts n in
        elim (at_place met n) [
          | inl found ↦ let front = front_of_with_paths met (names_in texts found.0) in (front.0, look_at n met found.0 found.1 ∙ front.1)
          | inr past ↦ ([], look_past n met past ∙ sym (append-nil met))
        ]

    next_keeps : (n : ℕ) (group : PathName) → Contains (met_after texts starts n) group → Contains (met_after texts starts (suc n)) group
    next_keeps n group h =
        let front = front_of_next n in
        subst (λ all. Contains all group) (sym front.1) (Contains-append_left (met_after texts starts n) front.0 group h)

    next_stands : (n k : ℕ) (group : PathName) → slice_get (met_after texts starts n) k ≡ Some group → slice_get (met_after texts starts (suc n)) k ≡ Some group
    next_stands n k group h =
        let front = front_of_next n in
        ap (λ all. slice_get all k) front.1 ∙ slice_get-front (met_after texts starts n) front.0 k group h

    -- what stands at a place after a look stood there before it, if something did
    next_stood : (n k : ℕ) (group : PathName) → k < length (met_after texts starts n) → slice_get (met_after texts starts (suc n)) k ≡ Some group → slice_get (met_after texts starts n) k ≡ Some group
    next_stood n k group within h = elim (at_place (met_after texts starts n) k) [
      | inl found ↦ found.1 ∙ (sym (next_stands n k found.0 found.1) ∙ h)
      | inr past ↦ absurd (let e : Some (get_or (met_after texts starts n) k group) ≡ None = sym (slice_get-get_or (met_after texts starts n) k group within) ∙ past in cc)
    ]

    -- Each group that was looked at has the groups that its text names in the list.
    pub looked_closed : (n k : ℕ) (group next : PathName) → k < n → slice_get (met_after texts starts n) k ≡ Some group → Contains (names_in texts group) next → Contains (met_after texts starts n) next
    looked_closed zero k group next below at named = absurd (omega arith)
    looked_closed (suc n) k group next below at named =
        let met = met_after texts starts n in
        elim (at_place met n) [
          | inl found ↦ elim (cases_lt k n) [
            | inl lower ↦ next_keeps n next (looked_closed n k group next lower (next_stood n k group (let e : n < length met = slice_get_within met n found.0 found.1 in omega arith) at) named)
            | inr here ↦
                let same : k ≡ n = omega arith in
                let found_is : Some found.0 ≡ Some group = sym (next_stands n n found.0 found.1) ∙ (ap (slice_get (met_after texts starts (suc n))) (sym same) ∙ at) in
                let group_is : found.0 ≡ group = cc in
                subst (λ all. Contains all next) (sym (look_at n met found.0 found.1)) (with_paths-has met (names_in texts found.0) next (subst (λ g. Contains (names_in texts g) next) (sym group_is) named))
          ]
          | inr past ↦
              let stays : met_after texts starts (suc n) ≡ met = look_past n met past in
              let stood : slice_get met k ≡ Some group = ap (λ all. slice_get all k) (sym stays) ∙ at in
              elim (cases_lt k n) [
                | inl lower ↦ subst (λ all. Contains all next) (sym stays) (looked_closed n k group next lower stood named)
                | inr here ↦ let same : k ≡ n = omega arith in absurd (let e : Some group ≡ None = sym stood ∙ (ap (slice_get met) same ∙ past) in cc)
              ]
        ]

    -- A group that was met and has the user is reached from one of the first groups, to which the user then belongs:
    -- the group whose text added it goes before it in the list of groups.
    pub met_sound : (user : List ℕ) (n : ℕ) (group : PathName) → Contains (met_after texts starts n) group → IsMember texts user group → (first : PathName) × Contains starts first × IsMember texts user first
    met_sound user zero group h member = elim (with_paths-cases [] starts group h) [
      | inl none ↦ absurd (no_member group none)
      | inr there ↦ (group, there, member)
    ]
    met_sound user (suc n) group h member =
        let met = met_after texts starts n in
        elim (at_place met n) [
          | inl found ↦ elim (with_paths-cases met (names_in texts found.0) group (subst (λ all. Contains all group) (look_at n met found.0 found.1) h)) [
            | inl old ↦ met_sound user n group old member
            | inr named ↦ met_sound user n found.0 (Contains-at met n found.0 found.1) (group ∷ member.0, (named, member.1))
          ]
          | inr past ↦ met_sound user n group (subst (λ all. Contains all group) (look_past n met past) h) member
        ]

    -- A list of groups that begins in a list where nothing is left to look at ends in it.
    pub chain_ends : (user : List ℕ) (n : ℕ) → length (met_after texts starts n) ≤ n → (first : PathName) (behind : List PathName) → Contains (met_after texts starts n) first → Chain texts user first behind → (last : PathName) × Contains (met_after texts starts n) last × IsTrue (has_user texts user last)
    chain_ends user n whole first [] h chain = (first, h, chain)
    chain_ends user n whole first (next ∷ behind) h chain =
        let met = met_after texts starts n in
        let place = place_of met first h in
        let within : place.0 < length met = slice_get_within met place.0 first place.1 in
        chain_ends user n whole next behind (looked_closed n place.0 first next (omega arith) place.1 chain.0) chain.1

    -- nothing is left to look at: the list stays
    pub met_stays : (n m : ℕ) → length (met_after texts starts n) ≤ n → n ≤ m → met_after texts starts m ≡ met_after texts starts n
    met_stays n zero whole le = let e : zero ≡ n = omega arith in ap (met_after texts starts) e
    met_stays n (suc m) whole le = elim (cases_lt m n) [
      | inl last ↦ let e : suc m ≡ n = omega arith in ap (met_after texts starts) e
      | inr further ↦
          let before = met_stays n m whole further in
          let short : length (met_after texts starts m) ≤ m = subst (λ (all : List PathName). length all ≤ m) (sym before) (omega arith) in
          look_past m (met_after texts starts m) (slice_get_past (met_after texts starts m) m short) ∙ before
    ]

    -- Two ways to reach the groups give one list.
    pub reached_once : (a b : List PathName) → IsReached texts starts a → IsReached texts starts b → a ≡ b
    reached_once a b h k =
        let a_whole : length (met_after texts starts h.0) ≤ h.0 = subst (λ (all : List PathName). length all ≤ h.0) h.1 h.2 in
        let b_whole : length (met_after texts starts k.0) ≤ k.0 = subst (λ (all : List PathName). length all ≤ k.0) k.1 k.2 in
        elim (cases_lt h.0 k.0) [
          | inl less ↦ h.1 ∙ (sym (met_stays h.0 k.0 a_whole (omega arith)) ∙ sym k.1)
          | inr more ↦ h.1 ∙ (met_stays k.0 h.0 b_whole more ∙ sym k.1)
        ]

    -- what was met stays met
    pub met_kept : (n m : ℕ) (group : PathName) → n ≤ m → Contains (met_after texts starts n) group → Contains (met_after texts starts m) group
    met_kept n zero group le h = let e : n ≡ zero = omega arith in subst (λ k. Contains (met_after texts starts k) group) e h
    met_kept n (suc m) group le h = elim (cases_lt m n) [
      | inl last ↦ let e : n ≡ suc m = omega arith in subst (λ k. Contains (met_after texts starts k) group) e h
      | inr further ↦ next_keeps m group (met_kept n m group further h)
    ]

    met_front : (n m : ℕ) → n ≤ m → (behind : List PathName) × (met_after texts starts m ≡ met_after texts starts n ++ behind)
    met_front n zero le = let e : zero ≡ n = omega arith in ([], ap (met_after texts starts) e ∙ sym (append-nil (met_after texts starts n)))
    met_front n (suc m) le = elim (cases_lt m n) [
      | inl last ↦ let e : suc m ≡ n = omega arith in ([], ap (met_after texts starts) e ∙ sym (append-nil (met_after texts starts n)))
      | inr further ↦
          let before = met_front n m further in
          let more = front_of_next m in
          (before.0 ++ more.0, more.1 ∙ (ap (λ all. all ++ more.0) before.1 ∙ append_assoc (met_after texts starts n) before.0 more.0))
    ]

    module _ (listed : List PathName) (lists : Lists texts listed) where
      -- a group that a text names can be met
      named_nameable : (group next : PathName) → Contains (names_in texts group) next → Contains (nameable texts listed starts) next
      named_nameable group next h = from (texts group) refl
        where
          from : (found : Option (List Item)) → texts group ≡ found → Contains (nameable texts listed starts) next
          from None none = absurd (no_member next (subst (λ (all : List PathName). Contains all next) (ap (λ found. groups_in (unwrap_or found [])) none) h))
          from (Some items) some = Contains-append_right starts (flat_map (names_in texts) listed) next (Contains-flat_map (names_in texts) listed group next (lists.all group (rw some refl)) h)

      pub met_nameable : (n : ℕ) (group : PathName) → Contains (met_after texts starts n) group → Contains (nameable texts listed starts) group
      met_nameable zero group h = elim (with_paths-cases [] starts group h) [
        | inl none ↦ absurd (no_member group none)
        | inr there ↦ Contains-append_left starts (flat_map (names_in texts) listed) group there
      ]
      met_nameable (suc n) group h =
          let met = met_after texts starts n in
          elim (at_place met n) [
            | inl found ↦ elim (with_paths-cases met (names_in texts found.0) group (subst (λ all. Contains all group) (look_at n met found.0 found.1) h)) [
              | inl old ↦ met_nameable n group old
              | inr named ↦ named_nameable found.0 group named
            ]
            | inr past ↦ met_nameable n group (subst (λ all. Contains all group) (look_past n met past) h)
          ]

      -- no more groups are met than can be
      pub met_short : (n : ℕ) → length (met_after texts starts n) ≤ length (nameable texts listed starts)
      met_short n = length-le_from_is_member path_eq_equivalence (met_after texts starts n) (nameable texts listed starts) (met_distinct n) (λ q h. among_from_Contains (nameable texts listed starts) q (met_nameable n q (Contains-from_among (met_after texts starts n) q h)))

      -- the reached list is reached
      pub reached_whole : IsReached texts starts (reached texts listed starts)
      unfolding reached
      reached_whole = (length (nameable texts listed starts), refl, met_short (length (nameable texts listed starts)))

      pub reached_is : (n : ℕ) → length (met_after texts starts n) ≤ n → reached texts listed starts ≡ met_after texts starts n
      reached_is n whole = reached_once (reached texts listed starts) (met_after texts starts n) reached_whole (n, refl, whole)

      -- what was met is reached
      pub met_reached : (n : ℕ) (group : PathName) → Contains (met_after texts starts n) group → Contains (reached texts listed starts) group
      unfolding reached
      met_reached n group h =
          let all = length (nameable texts listed starts) in
          elim (cases_lt n all) [
            | inl less ↦ met_kept n all group (omega arith) h
            | inr more ↦ subst (λ met. Contains met group) (met_stays all n (met_short all) more) h
          ]

      -- A reached group that has the user is reached from one of the first groups, to which the user then belongs.
      pub reached_sound : (user : List ℕ) (group : PathName) → Contains (reached texts listed starts) group → IsMember texts user group → (first : PathName) × Contains starts first × IsMember texts user first
      unfolding reached
      reached_sound user group h member = met_sound user (length (nameable texts listed starts)) group h member

      -- Where the user belongs to one of the first groups, a reached group has the user.
      pub reached_ends : (user : List ℕ) (first : PathName) → Contains starts first → IsMember texts user first → (last : PathName) × Contains (reached texts listed starts) last × IsTrue (has_user texts user last)
      unfolding reached
      reached_ends user first h member =
          let all = length (nameable texts listed starts) in
          chain_ends user all (met_short all) first member.0 (met_kept 0 all first (omega arith) (with_paths-has [] starts first h)) member.1

      -- what was met stands in front of what is reached
      pub front_of_reached : (n : ℕ) → (behind : List PathName) × (reached texts listed starts ≡ met_after texts starts n ++ behind)
      unfolding reached
      front_of_reached n =
          let all = length (nameable texts listed starts) in
          elim (cases_lt n all) [
            | inl less ↦ met_front n all (omega arith)
            | inr more ↦ ([], sym (met_stays all n (met_short all) more) ∙ sym (append-nil (met_after texts starts n)))
          ]
