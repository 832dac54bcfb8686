-- Who reads by the rules of a text are those who are meant, and exactly those have the right to read.
use Rattle.std.proofs.Common.{◌≡◌, ◌≢◌, ℕ, zero, suc, ◌<◌, ◌≤◌, Bool, true, false, not, ◌&&◌, ◌||◌, List, [], ◌∷◌, ◌++◌, length, refl, sym, ap, subst, ◌∙◌, ◌⊎◌, inl, inr, arith, Option, Some, None, slice_get, unwrap_or, is_none, Contains, ◌↔◌, IsTrue, bytes_eq, filter}
use Rattle.std.specs.List.{flat_map, list_any}
use Rattle.std.specs.List.Sorted.{IsStrictlySortedBy}
use Rattle.std.specs.Map.{keys_of}
use Rattle.std.specs.Prelude.{if◌then◌else◌}
use Rattle.std.proofs.lemmas.Bool.{cases_Bool, cases_lt, false≢true, or_cases}
use Rattle.std.proofs.lemmas.List.Elements.{Contains-append_left, Contains-append_right, Contains-append_cases}
use Rattle.std.proofs.lemmas.List.Folds.{list_any-append}
use Rattle.std.proofs.lemmas.Option.{slice_get_within}
use Rattle.std.proofs.lemmas.Slice.Eq.{bytes_eq-Decides}
use Rattle.up_names.specs.Texts.{UserName}
use Rattle.up_names.specs.UserNames.{base_of}
use Rattle.up_names.specs.declared.items.Item.{Item}
use Rattle.up_names.specs.declared.items.Item.TheVariants.{Everyone, Domain, User, Group}
use Rattle.up_names.specs.PathNames.{PathName}
use Rattle.up_names.specs.PathOrder.{path_cmp}
use Rattle.up_names.specs.PathOrderLaws.{path_cmp_total, path_exact}
use Rattle.up_rights.specs.declared.Right.TheVariants.{Read}
use Rattle.up_access.specs.declared.Rule.{Rule}
use Rattle.up_policy.specs.Governors.{IsGovernor, governor}
use Rattle.up_policy.specs.Laws.{ListsGroups}
use Rattle.up_policy.specs.Loadings.{Loading}
use Rattle.up_policy.specs.Members.{groups_in, has_user, is_user, items_in, names_in, text_of}
use Rattle.up_policy.specs.Reached.{after_look, met_after, nameable, reached, with_paths}
use Rattle.up_policy.specs.Trees.{GroupTexts, TreeFacts, owns_snapshots}
use Rattle.up_policy.specs.Verdicts.{HasRight, grants, is_control, items_for, right_test, text_decides, without_text}
use Rattle.up_policy.proofs.GovernorLemmas.{governor_is_one}
use Rattle.up_policy.proofs.PathLists.{Contains-at, Contains-cons, Contains-flat_map, Contains-head, Contains-behind, no_member, place_of, with_paths-cases, with_paths-has}
use Rattle.up_policy.proofs.ReachedLemmas.{Lists, look_at, look_past, looked_closed, met_kept, met_short}
use Rattle.up_policy.proofs.VerdictLemmas.{among_group, any_at, at_any, group_among, lists_texts, right_Decides}
use Rattle.up_share.specs.Orders.{in_order, item_cmp}
use Rattle.up_share.proofs.ExactLemmas.{item_cmp_exact}
use Rattle.up_share.specs.OrderLaws.{item_cmp_total}
use Rattle.up_share.specs.Readers.{AreReaders, AreUnread, IsMet, IsReader, IsUnread, Leads, StandsIn, governing_rules, is_plain, lacking, lacks_text, met_groups, readers, readers_by, standing, unread}
use Rattle.up_share.proofs.SetLemmas.{in_order_has, in_order_strictly}

-- an element of the parts, and of the part in which it stands
Contains-part : {X Y : Type 0} (f : X → List Y) (xs : List X) (y : Y) → Contains (flat_map f xs) y → (x : X) × Contains xs x × Contains (f x) y
Contains-part f [] y h = absurd (no_member y h)
Contains-part f (x ∷ xs) y h = elim (Contains-append_cases (f x) (flat_map f xs) y h) [
  | inl here ↦ (x, Contains-head x xs, here)
  | inr there ↦ let found = Contains-part f xs y there in (found.0, Contains-behind x found.0 xs found.1, found.2)
]

-- an element of those that pass
pub passing : {X : Type 0} (test : X → Bool) (xs : List X) (x : X) → Contains (filter test xs) x → Contains xs x × (test x ≡ true)
passing test [] x h = absurd (no_member x h)
passing test (y ∷ ys) x h = go (test y) refl (λ k. passing test ys x k) h
  where
    go : (b : Bool) → test y ≡ b → (Contains (filter test ys) x → Contains ys x × (test x ≡ true)) → Contains (if b then y ∷ filter test ys else filter test ys) x → Contains (y ∷ ys) x × (test x ≡ true)
    go true is later k = elim (Contains-cons y x (filter test ys) k) [
      | inl same ↦ (subst (Contains (y ∷ ys)) same (Contains-head y ys), subst (λ z. test z ≡ true) same is)
      | inr there ↦ let rest = later there in (Contains-behind y x ys rest.0, rest.1)
    ]
    go false is later k = let rest = later k in (Contains-behind y x ys rest.0, rest.1)

pub passes : {X : Type 0} (test : X → Bool) (xs : List X) (x : X) → Contains xs x → test x ≡ true → Contains (filter test xs) x
passes test [] x h is = absurd (no_member x h)
passes test (y ∷ ys) x h is = go (test y) refl (λ there. passes test ys x there is)
  where
    go : (b : Bool) → test y ≡ b → (Contains ys x → Contains (filter test ys) x) → Contains (if b then y ∷ filter test ys else filter test ys) x
    go true known later = elim (Contains-cons y x ys h) [
      | inl same ↦ subst (Contains (y ∷ filter test ys)) same (Contains-head y (filter test ys))
      | inr there ↦ Contains-behind y x (filter test ys) (later there)
    ]
    go false known later = elim (Contains-cons y x ys h) [
      | inl same ↦ absurd (false≢true (sym known ∙ (ap test same ∙ is)))
      | inr there ↦ later there
    ]

module _ (texts : GroupTexts) where
  -- one group more at the end
  leads_on : (first : PathName) (behind : List PathName) (last next : PathName) → Leads texts first behind last → Contains (names_in texts last) next → Leads texts first (behind ++ next ∷ []) next
  leads_on first [] last next h named = (subst (λ group. Contains (names_in texts group) next) (sym h) named, refl)
  leads_on first (group ∷ behind) last next h named = (h.0, leads_on group behind last next h.1 named)

  module _ (starts : List PathName) where
    -- what stands at a place, or nothing
    at_place : (met : List PathName) (n : ℕ) → ((group : PathName) × (slice_get met n ≡ Some group)) ⊎ (slice_get met n ≡ None)
    at_place met n = from (slice_get met n) refl
      where
        from : (found : Option PathName) → slice_get met n ≡ found → ((group : PathName) × (slice_get met n ≡ Some group)) ⊎ (slice_get met n ≡ None)
        from (Some group) h = inl (group, h)
        from None h = inr h

    -- a list of groups leads to each group that is met
    met_led : (n : ℕ) (group : PathName) → Contains (met_after texts starts n) group → (first : PathName) × (behind : List PathName) × Contains starts first × Leads texts first behind group
    met_led zero group h = elim (with_paths-cases [] starts group h) [
      | inl none ↦ absurd (no_member group none)
      | inr there ↦ (group, [], there, refl)
    ]
    met_led (suc n) group h =
        let met = met_after texts starts n in
        elim (at_place met n) [
          | inl found ↦ elim (with_paths-cases met (names_in texts found.0) group (subst (λ all. Contains all group) (look_at texts n met found.0 found.1) h)) [
            | inl old ↦ met_led n group old
            | inr named ↦ let led = met_led n found.0 (Contains-at met n found.0 found.1) in (led.0, led.1 ++ group ∷ [], led.2, leads_on led.0 led.1 found.0 group led.3 named)
          ]
          | inr past ↦ met_led n group (subst (λ all. Contains all group) (look_past texts n met past) h)
        ]

    -- a list of groups that begins in a list where nothing is left to look at stays in it
    led_met : (n : ℕ) → length (met_after texts starts n) ≤ n → (first : PathName) (behind : List PathName) (last : PathName) → Contains (met_after texts starts n) first → Leads texts first behind last → Contains (met_after texts starts n) last
    led_met n whole first [] last h leads = subst (Contains (met_after texts starts n)) leads h
    led_met n whole first (next ∷ behind) last h leads =
        let met = met_after texts starts n in
        let place = place_of met first h in
        let within : place.0 < length met = slice_get_within met place.0 first place.1 in
        led_met n whole next behind last (looked_closed texts starts n place.0 first next (omega arith) place.1 leads.0) leads.1

    module _ (listed : List PathName) (lists : Lists texts listed) where
      pub reached_led : (group : PathName) → Contains (reached texts listed starts) group → (first : PathName) × (behind : List PathName) × Contains starts first × Leads texts first behind group
      unfolding reached
      reached_led group h = met_led (length (nameable texts listed starts)) group h

      pub led_reached : (first : PathName) (behind : List PathName) (group : PathName) → Contains starts first → Leads texts first behind group → Contains (reached texts listed starts) group
      unfolding reached
      led_reached first behind group h leads =
          let all = length (nameable texts listed starts) in
          led_met all (met_short texts starts listed lists all) first behind group (met_kept texts starts 0 all first (omega arith) (with_paths-has [] starts first h)) leads

-- the rules that govern
governs : (tree : TreeFacts) (path : PathName) (rules : List Rule) → IsGovernor tree path (Some rules) → governing_rules tree path ≡ rules
governs tree path rules h = ap (λ found. unwrap_or found []) (sym ((governor_is_one tree path (Some rules)).0 h))

module _ (tree : TreeFacts) (listed : List PathName) (loaded : Loading) (path : PathName) (lists : ListsGroups tree listed) where
  abbrev texts : GroupTexts
  texts = text_of tree loaded

  -- what stands in a text that governs, or there is no such text and nothing stands in it
  by_governor : {P : List Rule → Type 0} → P (governing_rules tree path) → (P [] → ⊥) → (rules : List Rule) × IsGovernor tree path (Some rules) × P rules
  by_governor {P = P} h none = from (governor tree path) refl h
    where
      from : (found : Option (List Rule)) → governor tree path ≡ found → P (unwrap_or found []) → (rules : List Rule) × IsGovernor tree path (Some rules) × P rules
      from None is k = absurd (none k)
      from (Some rules) is k = (rules, (governor_is_one tree path (Some rules)).1 (sym is), k)

  module _ (rules : List Rule) where
    met_is : (group : PathName) → Contains (met_groups tree listed loaded rules) group ↔ IsMet texts rules group
    unfolding met_groups
    met_is group = (
      λ h. let led = reached_led texts (groups_in (items_for Read rules)) (listed ++ keys_of loaded) (lists_texts tree listed loaded lists) group h in
          (led.0, led.1, among_group (items_for Read rules) led.0 led.2, led.3),
      λ h. led_reached texts (groups_in (items_for Read rules)) (listed ++ keys_of loaded) (lists_texts tree listed loaded lists) h.0 h.1 group (group_among (items_for Read rules) h.0 h.2) h.3,
    )

    stands_is : (item : Item) → Contains (standing tree listed loaded rules) item ↔ StandsIn texts rules item
    unfolding standing
    stands_is item = (
      λ h. elim (Contains-append_cases (items_for Read rules) (flat_map (items_in texts) (met_groups tree listed loaded rules)) item h) [
        | inl named ↦ inl named
        | inr there ↦ let found = Contains-part (items_in texts) (met_groups tree listed loaded rules) item there in inr (found.0, (met_is found.0).0 found.1, found.2)
      ],
      λ h. elim h [
        | inl named ↦ Contains-append_left (items_for Read rules) (flat_map (items_in texts) (met_groups tree listed loaded rules)) item named
        | inr there ↦ Contains-append_right (items_for Read rules) (flat_map (items_in texts) (met_groups tree listed loaded rules)) item (Contains-flat_map (items_in texts) (met_groups tree listed loaded rules) there.0 item ((met_is there.0).1 there.1) there.2)
      ],
    )

  none_stands : (item : Item) → (is_plain item ≡ true) × StandsIn texts [] item → ⊥
  none_stands item h = elim h.1 [
    | inl named ↦ no_member item named
    | inr there ↦ no_member (Group there.1.0) there.1.2
  ]

  -- ---- who is told are those who are meant

  reader_is : (item : Item) → Contains (readers tree listed loaded path) item ↔ IsReader tree loaded path item
  unfolding readers_by
  reader_is item =
      let rules = governing_rules tree path in
      let plain = filter is_plain (standing tree listed loaded rules) in
      let has = in_order_has item_cmp item_cmp_total item_cmp_exact (User tree.owner ∷ plain) item in (
        λ h. elim (Contains-cons (User tree.owner) item plain (has.0 h)) [
          | inl owner ↦ inl (sym owner)
          | inr there ↦
              let both = passing is_plain (standing tree listed loaded rules) item there in
              let found = by_governor {P = λ rules. (is_plain item ≡ true) × StandsIn texts rules item} (both.1, (stands_is rules item).0 both.0) (none_stands item) in
              inr (found.0, found.1, found.2.0, found.2.1)
        ],
        λ h. has.1 (elim h [
          | inl owner ↦ subst (Contains (User tree.owner ∷ plain)) (sym owner) (Contains-head (User tree.owner) plain)
          | inr there ↦ Contains-behind (User tree.owner) item plain
              (passes is_plain (standing tree listed loaded rules) item
              ((stands_is rules item).1 (subst (λ rs. StandsIn texts rs item) (sym (governs tree path there.0 there.1)) there.3)) there.2)
        ]),
      )

  ordered : IsStrictlySortedBy item_cmp (readers tree listed loaded path)
  unfolding readers_by
  ordered = in_order_strictly item_cmp item_cmp_total item_cmp_exact (User tree.owner ∷ filter is_plain (standing tree listed loaded (governing_rules tree path)))

  pub are_readers : AreReaders tree loaded path (readers tree listed loaded path)
  are_readers = record { members = reader_is; order = ordered }

  -- ---- which groups are unread

  lacks_is : (group : PathName) → (lacks_text tree loaded group ≡ true) ↔ ((group.owner ≢ tree.owner) × (texts group ≡ None))
  lacks_is group = (
    λ h. let both = and_both (not (bytes_eq group.owner tree.owner)) (is_none (texts group)) h in
        (λ same. false≢true (sym (ap not ((bytes_eq-Decides group.owner tree.owner).1 same)) ∙ both.0), none_is (texts group) both.1),
    λ h. and_of (not (bytes_eq group.owner tree.owner)) (is_none (texts group)) (other (bytes_eq group.owner tree.owner) refl h.0) (ap is_none h.1),
  )
    where
      and_both : (a b : Bool) → (a && b) ≡ true → (a ≡ true) × (b ≡ true)
      and_both true b h = (refl, h)
      and_both false b h = absurd (false≢true h)

      and_of : (a b : Bool) → a ≡ true → b ≡ true → (a && b) ≡ true
      and_of true b h k = k
      and_of false b h k = absurd (false≢true h)

      none_is : (found : Option (List Item)) → is_none found ≡ true → found ≡ None
      none_is None h = refl
      none_is (Some items) h = absurd (false≢true h)

      other : (own : Bool) → bytes_eq group.owner tree.owner ≡ own → group.owner ≢ tree.owner → not own ≡ true
      other false is apart = refl
      other true is apart = absurd (apart ((bytes_eq-Decides group.owner tree.owner).0 is))

  unread_is : (group : PathName) → Contains (unread tree listed loaded path) group ↔ IsUnread tree loaded path group
  unfolding lacking
  unread_is group =
      let rules = governing_rules tree path in
      let met = met_groups tree listed loaded rules in
      let has = in_order_has path_cmp path_cmp_total path_exact (filter (lacks_text tree loaded) met) group in (
        λ h.
            let both = passing (lacks_text tree loaded) met group (has.0 h) in
            let found = by_governor {P = λ rules. IsMet texts rules group} ((met_is rules group).0 both.0) (λ none. no_member (Group none.0) none.2) in
            let lacks = (lacks_is group).0 both.1 in
            (found.0, found.1, found.2, lacks.0, lacks.1),
        λ h. has.1 (passes (lacks_text tree loaded) met group ((met_is rules group).1 (subst (λ rs. IsMet texts rs group) (sym (governs tree path h.0 h.1)) h.2)) ((lacks_is group).1 (h.3, h.4))),
      )

  pub are_unread : AreUnread tree loaded path (unread tree listed loaded path)
  are_unread = record { members = unread_is; order = in_order_strictly path_cmp path_cmp_total path_exact (lacking tree listed loaded (governing_rules tree path)) }

  -- ---- who has the right to read

  module _ (user : UserName) where
    -- one list has an item of the user where the other has
    any_within : (one other : List Item) → ((item : Item) → Contains one item → is_plain item ≡ true → Contains other item) → list_any (is_user user) one ≡ true → list_any (is_user user) other ≡ true
    any_within one other within h =
        let found = at_any (is_user user) one h in
        any_at (is_user user) other found.0 (within found.0 found.1 (plain found.0 found.2)) found.2
      where
        plain : (item : Item) → is_user user item ≡ true → is_plain item ≡ true
        plain Everyone is = refl
        plain (Domain domain) is = refl
        plain (User name) is = refl
        plain (Group group) is = absurd (false≢true is)

    both_ways : (a b : Bool) → (a ≡ true → b ≡ true) → (b ≡ true → a ≡ true) → a ≡ b
    both_ways true b f g = sym (f refl)
    both_ways false true f g = g refl
    both_ways false false f g = refl

    -- what is told of the user is what stands there
    told_is : (rules : List Rule) → list_any (is_user user) (readers_by tree listed loaded rules) ≡ (bytes_eq tree.owner user || list_any (is_user user) (standing tree listed loaded rules))
    unfolding readers_by
    told_is rules =
        let plain = filter is_plain (standing tree listed loaded rules) in
        let has = in_order_has item_cmp item_cmp_total item_cmp_exact (User tree.owner ∷ plain) in
        both_ways (list_any (is_user user) (in_order item_cmp (User tree.owner ∷ plain))) (list_any (is_user user) (User tree.owner ∷ standing tree listed loaded rules))
        (any_within (in_order item_cmp (User tree.owner ∷ plain)) (User tree.owner ∷ standing tree listed loaded rules) (λ item h is.
        elim (Contains-cons (User tree.owner) item plain ((has item).0 h)) [
          | inl owner ↦ subst (Contains (User tree.owner ∷ standing tree listed loaded rules)) owner (Contains-head (User tree.owner) (standing tree listed loaded rules))
          | inr there ↦ Contains-behind (User tree.owner) item (standing tree listed loaded rules) (passing is_plain (standing tree listed loaded rules) item there).0
        ]))
        (any_within (User tree.owner ∷ standing tree listed loaded rules) (in_order item_cmp (User tree.owner ∷ plain)) (λ item h is.
        (has item).1 (elim (Contains-cons (User tree.owner) item (standing tree listed loaded rules) h) [
          | inl owner ↦ subst (Contains (User tree.owner ∷ plain)) owner (Contains-head (User tree.owner) plain)
          | inr there ↦ Contains-behind (User tree.owner) item plain (passes is_plain (standing tree listed loaded rules) item there is)
        ])))

    any_joined : (groups : List PathName) → list_any (is_user user) (flat_map (items_in texts) groups) ≡ list_any (has_user texts user) groups
    any_joined [] = refl
    any_joined (group ∷ groups) =
        list_any-append (is_user user) (items_in texts group) (flat_map (items_in texts) groups)
        ∙ ap (λ b. has_user texts user group || b) (any_joined groups)

    -- what stands there is what grants
    standing_grants : (rules : List Rule) → list_any (is_user user) (standing tree listed loaded rules) ≡ grants texts (listed ++ keys_of loaded) user (items_for Read rules)
    unfolding standing met_groups grants
    standing_grants rules =
        let met = reached texts (listed ++ keys_of loaded) (groups_in (items_for Read rules)) in
        list_any-append (is_user user) (items_for Read rules) (flat_map (items_in texts) met)
        ∙ ap (λ b. list_any (is_user user) (items_for Read rules) || b) (any_joined met)

    turned : bytes_eq tree.owner user ≡ bytes_eq user tree.owner
    turned = both_ways (bytes_eq tree.owner user) (bytes_eq user tree.owner)
        (λ h. (bytes_eq-Decides user tree.owner).1 (sym ((bytes_eq-Decides tree.owner user).0 h)))
        (λ h. (bytes_eq-Decides tree.owner user).1 (sym ((bytes_eq-Decides user tree.owner).0 h)))

    -- without a text that governs nothing stands there
    none_grants : grants texts (listed ++ keys_of loaded) user [] ≡ false
    none_grants = sym (standing_grants []) ∙ not_any (list_any (is_user user) (standing tree listed loaded [])) refl
      where
        not_any : (b : Bool) → list_any (is_user user) (standing tree listed loaded []) ≡ b → list_any (is_user user) (standing tree listed loaded []) ≡ false
        not_any false is = is
        not_any true is =
            let found = at_any (is_user user) (standing tree listed loaded []) is in
            absurd (elim ((stands_is [] found.0).0 found.1) [
              | inl named ↦ no_member found.0 named
              | inr there ↦ no_member (Group there.1.0) there.1.2
            ])

    -- the test of read, by who owns the tree and by the text that governs
    abbrev tested : Bool → Bool → Bool → Option (List Rule) → Bool
    tested snapshots own control found = elim (if snapshots then Some (bytes_eq user (base_of tree.owner)) else if own && true then Some true else if control && false then Some (bytes_eq user tree.owner) else None) [
      | Some answer ↦ answer
      | None ↦ text_decides tree listed loaded user Read found
    ]

    by_case : (snapshots own control : Bool) (found : Option (List Rule)) → snapshots ≡ false → bytes_eq user tree.owner ≡ own → tested snapshots own control found ≡ (own || grants texts (listed ++ keys_of loaded) user (items_for Read (unwrap_or found [])))
    unfolding text_decides
    by_case true own control found is own_is = absurd (false≢true (sym is))
    by_case false true control found is own_is = refl
    by_case false false true None is own_is = own_is ∙ sym none_grants
    by_case false false true (Some rules) is own_is = refl
    by_case false false false None is own_is = own_is ∙ sym none_grants
    by_case false false false (Some rules) is own_is = refl

    pub reads_where : owns_snapshots tree.owner ≡ false → right_test tree listed loaded user Read path ≡ list_any (is_user user) (readers tree listed loaded path)
    unfolding right_test without_text
    reads_where plain =
        by_case (owns_snapshots tree.owner) (bytes_eq user tree.owner) (is_control path) (governor tree path) plain refl
        ∙ (ap (λ b. b || grants texts (listed ++ keys_of loaded) user (items_for Read (governing_rules tree path))) (sym turned)
        ∙ (ap (λ b. bytes_eq tree.owner user || b) (sym (standing_grants (governing_rules tree path)))
        ∙ sym (told_is (governing_rules tree path))))

    pub holds_where : owns_snapshots tree.owner ≡ false → IsTrue (list_any (is_user user) (readers tree listed loaded path)) ↔ HasRight tree loaded user Read path
    holds_where plain =
        let decides = right_Decides tree listed loaded user Read lists path in (
          λ h. decides.0 (reads_where plain ∙ h),
          λ h. sym (reads_where plain) ∙ decides.1 h,
        )
