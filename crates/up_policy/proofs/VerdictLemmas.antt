-- The test of a right holds exactly where the user has the right.
use Rattle.std.proofs.Common.{◌≡◌, ℕ, ◌+◌, Bool, true, false, not, ◌&&◌, List, [], ◌∷◌, ◌++◌, refl, sym, ap, subst, ◌∙◌, ◌⊎◌, inl, inr, Option, Some, None, Decides, bytes_eq}
use Rattle.std.specs.Prelude.{Contains, IsTrue, IsSome, MatchBool, MatchOption, ◌↔◌, if◌then◌else◌, ⊤, is_some, Result, Ok, Err, IfOk}
use Rattle.std.specs.List.{list_any, cons_option}
use Rattle.std.specs.Map.{keys_of}
use Rattle.std.specs.Option.{option_and_then}
use Rattle.std.proofs.lemmas.Bool.{or_cases, or_left, or_right, cases_Bool}
use Rattle.std.proofs.lemmas.Bool.Decides.{Decides-and}
use Rattle.std.proofs.lemmas.List.Elements.{Contains-append_left, Contains-append_right, Contains-append_cases}
use Rattle.std.proofs.lemmas.List.Folds.{Any-from_list_any, list_any-from_Any}
use Rattle.std.proofs.lemmas.Map.Made.{is_some-lookup}
use Rattle.std.proofs.lemmas.Slice.Eq.{bytes_eq-Decides}
use Rattle.up_names.specs.declared.items.Item.{Item}
use Rattle.up_names.specs.declared.items.Item.TheVariants.{Everyone, Domain, User, Group}
use Rattle.up_names.specs.UserNames.{base_of}
use Rattle.up_names.specs.PathNames.{PathName}
use Rattle.up_names.specs.PathOrder.{path_eq}
use Rattle.up_rights.specs.declared.Right.{Right}
use Rattle.up_rights.specs.declared.Right.TheVariants.{Read, Write, List as ListRight, Create, Delete}
use Rattle.up_rights.specs.RightSets.{Rights, has_right, no_rights, with_right}
use Rattle.up_access.specs.declared.Rule.{Rule}
use Rattle.up_policy.specs.declared.load_answer.LoadAnswer.{LoadAnswer}
use Rattle.up_policy.specs.Trees.{TreeFacts, owns_snapshots}
use Rattle.up_policy.specs.Loadings.{text_in, answer_for, loaded_text}
use Rattle.up_policy.specs.Governors.{Governs, governor, first_text, prefixes}
use Rattle.up_policy.specs.Members.{text_of, is_user, group_in, groups_in, has_user, IsMember}
use Rattle.up_policy.specs.Reached.{reached}
use Rattle.up_policy.specs.Verdicts.{only_looks, is_control, Means, Grants, HasRight, items_by, items_for, grants, text_decides, without_text, right_test, rights_held}
use Rattle.up_policy.specs.Laws.{ListsGroups, TestIsRight, ReachedIsReached}
use Rattle.up_policy.proofs.PathLists.{no_member, Contains-cons, Contains-head, Contains-behind, Contains-flat_map, Contains-from_among}
use Rattle.up_policy.proofs.ReachedLemmas.{Lists, reached_sound, reached_ends, reached_whole}
use Rattle.up_policy.proofs.GovernorLemmas.{governs_text, governs_once}

-- an element that passes, and a test of all
pub any_at : {X : Type 0} (p : X → Bool) (xs : List X) (x : X) → Contains xs x → p x ≡ true → list_any p xs ≡ true
any_at p xs x h passes = list_any-from_Any p xs (h.0, x, h.1, h.2, passes)

pub at_any : {X : Type 0} (p : X → Bool) (xs : List X) → list_any p xs ≡ true → (x : X) × Contains xs x × (p x ≡ true)
at_any p xs h = let found = Any-from_list_any p xs h in (found.1, (found.0, found.2, found.3), found.4)

-- the groups among items
pub group_among : (items : List Item) (group : PathName) → Contains items (Group group) → Contains (groups_in items) group
group_among [] group h = absurd (no_member (Group group) h)
group_among (item ∷ items) group h = elim (Contains-cons item (Group group) items h) [
  | inl same ↦ subst (λ i. Contains (cons_option (group_in i) (groups_in items)) group) (sym same) (Contains-head group (groups_in items))
  | inr there ↦ behind (group_in item) (group_among items group there)
]
  where
    behind : (first : Option PathName) → Contains (groups_in items) group → Contains (cons_option first (groups_in items)) group
    behind None h = h
    behind (Some other) h = Contains-behind other group (groups_in items) h

pub among_group : (items : List Item) (group : PathName) → Contains (groups_in items) group → Contains items (Group group)
among_group [] group h = absurd (no_member group h)
among_group (Group other ∷ items) group h = elim (Contains-cons other group (groups_in items) h) [
  | inl same ↦ subst (λ g. Contains (Group other ∷ items) (Group g)) same (Contains-head (Group other) items)
  | inr there ↦ Contains-behind (Group other) (Group group) items (among_group items group there)
]
among_group (Everyone ∷ items) group h = Contains-behind Everyone (Group group) items (among_group items group h)
among_group (Domain domain ∷ items) group h = Contains-behind (Domain domain) (Group group) items (among_group items group h)
among_group (User name ∷ items) group h = Contains-behind (User name) (Group group) items (among_group items group h)

holds_items : (rule : Rule) (right : Right) (item : Item) → has_right rule.rights right ≡ true → Contains rule.items item → Contains (items_by right rule) item
holds_items rule right item holds h = subst (λ b. Contains (if b then rule.items else []) item) (sym holds) h

items_holds : (rule : Rule) (right : Right) (item : Item) → Contains (items_by right rule) item → (has_right rule.rights right ≡ true) × Contains rule.items item
items_holds rule right item h = elim (cases_Bool (has_right rule.rights right)) [
  | inl holds ↦ (holds, subst (λ b. Contains (if b then rule.items else []) item) holds h)
  | inr lacks ↦ absurd (no_member item (subst (λ b. Contains (if b then rule.items else []) item) lacks h))
]

pub item_for : (right : Right) (rules : List Rule) (rule : Rule) (item : Item) → Contains rules rule → has_right rule.rights right ≡ true → Contains rule.items item → Contains (items_for right rules) item
item_for right rules rule item h holds k = Contains-flat_map (items_by right) rules rule item h (holds_items rule right item holds k)

pub for_item : (right : Right) (rules : List Rule) (item : Item) → Contains (items_for right rules) item → (rule : Rule) × Contains rules rule × (has_right rule.rights right ≡ true) × Contains rule.items item
for_item right [] item h = absurd (no_member item h)
for_item right (rule ∷ rules) item h = elim (Contains-append_cases (items_by right rule) (items_for right rules) item h) [
  | inl here ↦ let held = items_holds rule right item here in (rule, Contains-head rule rules, held.0, held.1)
  | inr there ↦ let found = for_item right rules item there in (found.0, Contains-behind rule found.0 rules found.1, found.2, found.3)
]

module _ (texts : PathName → Option (List Item)) (user : List ℕ) where
  -- an item that is the user means it
  user_means : (item : Item) → is_user user item ≡ true → Means texts user item
  user_means Everyone h = h
  user_means (Domain domain) h = h
  user_means (User name) h = h
  user_means (Group path) h = absurd (cc)

  -- an item that means the user is the user, or a group of the user
  means_user : (item : Item) → Means texts user item → (is_user user item ≡ true) ⊎ ((group : PathName) × (item ≡ Group group) × IsMember texts user group)
  means_user Everyone h = inl h
  means_user (Domain domain) h = inl h
  means_user (User name) h = inl h
  means_user (Group path) h = inr (path, refl, h)

  module _ (rules : List Rule) (right : Right) where
    granted : (rule : Rule) (item : Item) → Contains rules rule → has_right rule.rights right ≡ true → Contains rule.items item → Means texts user item → Grants texts rules user right
    granted rule item h holds k means = (h.0, rule, h.1, h.2, (holds, (k.0, item, k.1, k.2, means)))

    granted_for : (item : Item) → Contains (items_for right rules) item → Means texts user item → Grants texts rules user right
    granted_for item h means =
        let found = for_item right rules item h in
        granted found.0 item found.1 found.2 found.3 means

    module _ (listed : List PathName) (lists : Lists texts listed) where
      -- a test that holds grants
      grants_sound : grants texts listed user (items_for right rules) ≡ true → Grants texts rules user right
      unfolding grants
      grants_sound h = elim (or_cases (list_any (is_user user) (items_for right rules)) (list_any (has_user texts user) (reached texts listed (groups_in (items_for right rules)))) h) [
        | inl plain ↦ let found = at_any (is_user user) (items_for right rules) plain in granted_for found.0 found.1 (user_means found.0 found.2)
        | inr followed ↦
            let starts = groups_in (items_for right rules) in
            let found = at_any (has_user texts user) (reached texts listed starts) followed in
            let first = reached_sound texts starts listed lists user found.0 found.1 ([], found.2) in
            granted_for (Group first.0) (among_group (items_for right rules) first.0 first.1) first.2
      ]

      grants_complete : Grants texts rules user right → grants texts listed user (items_for right rules) ≡ true
      unfolding grants
      grants_complete h =
          let rule = h.1 in
          let held = h.4.1 in
          let item = held.1 in
          let among : Contains (items_for right rules) item = item_for right rules rule item (h.0, h.2, h.3) h.4.0 (held.0, held.2, held.3) in
          elim (means_user item held.4) [
            | inl plain ↦ or_left (list_any (is_user user) (items_for right rules)) (list_any (has_user texts user) (reached texts listed (groups_in (items_for right rules)))) (any_at (is_user user) (items_for right rules) item among plain)
            | inr followed ↦
                let starts = groups_in (items_for right rules) in
                let first : Contains starts followed.0 = group_among (items_for right rules) followed.0 (subst (Contains (items_for right rules)) followed.1 among) in
                let last = reached_ends texts starts listed lists user followed.0 first followed.2 in
                or_right (list_any (is_user user) (items_for right rules)) (list_any (has_user texts user) (reached texts listed starts)) (any_at (has_user texts user) (reached texts listed starts) last.0 last.1 last.2)
          ]

      pub grants_Decides : Decides (grants texts listed user (items_for right rules)) (Grants texts rules user right)
      grants_Decides = (grants_sound, grants_complete)

-- the groups that the tree lists and the names of the loading list every group that has a text
pub lists_texts : (tree : TreeFacts) (listed : List PathName) (loaded : List (PathName × LoadAnswer)) → ListsGroups tree listed → Lists (text_of tree loaded) (listed ++ keys_of loaded)
lists_texts tree listed loaded lists = record { all = λ group some. from group (bytes_eq group.owner tree.owner) refl some }
  where
    of_loaded : (group : PathName) → IsSome (loaded_text loaded group) → Contains (keys_of loaded) group
    of_loaded group some = Contains-from_among (keys_of loaded) group (sym (is_some-lookup (path_eq group) loaded) ∙ answered (answer_for loaded group) some)
      where
        answered : (answer : Option LoadAnswer) → IsSome (option_and_then text_in answer) → is_some answer ≡ true
        answered None h = h
        answered (Some answer) h = refl

    from : (group : PathName) (own : Bool) → bytes_eq group.owner tree.owner ≡ own → IsSome (text_of tree loaded group) → Contains (listed ++ keys_of loaded) group
    from group true own some = Contains-append_left listed (keys_of loaded) group (lists group (subst (λ b. IsSome (if b then tree.group group else loaded_text loaded group)) own some))
    from group false own some = Contains-append_right listed (keys_of loaded) group (of_loaded group (subst (λ b. IsSome (if b then tree.group group else loaded_text loaded group)) own some))

-- case by case
itself_Decides : (b : Bool) → Decides b (IsTrue b)
itself_Decides b = (λ h. h, λ h. h)

module _ (tree : TreeFacts) (listed : List PathName) (loaded : List (PathName × LoadAnswer)) (user : List ℕ) (right : Right) (lists : ListsGroups tree listed) where
  -- the last two cases, by the text that governs
  abbrev ByText : Option (List Rule) → Type 0
  ByText text = MatchOption text (user ≡ tree.owner) (λ rules. Grants (text_of tree loaded) rules user right)

  by_text_Decides : (text : Option (List Rule)) → Decides (text_decides tree listed loaded user right text) (ByText text)
  unfolding text_decides
  by_text_Decides None = bytes_eq-Decides user tree.owner
  by_text_Decides (Some rules) = grants_Decides (text_of tree loaded) user rules right (listed ++ keys_of loaded) (lists_texts tree listed loaded lists)

  governed_Decides : (path : PathName) → Decides (text_decides tree listed loaded user right (first_text tree.access (prefixes path))) ((text : Option (List Rule)) × Governs tree.access path text × ByText text)
  governed_Decides path =
      let found = first_text tree.access (prefixes path) in
      let governs = governs_text tree.access path in (
        λ h. (found, governs, (by_text_Decides found).0 h),
        λ h. (by_text_Decides found).1 (subst ByText (governs_once tree.access path h.0 found h.1 governs) h.2),
      )

  -- what is decided without the text, or else by the text
  abbrev or_text : Option Bool → Option (List Rule) → Bool
  or_text found text = elim found [ Some answer ↦ answer | None ↦ text_decides tree listed loaded user right text ]

  not_snapshots : (path : PathName) (own changes : Bool) → Decides
      (or_text (if own then Some true else if changes then Some (bytes_eq user tree.owner) else None) (first_text tree.access (prefixes path)))
      (MatchBool own ⊤ (MatchBool changes (user ≡ tree.owner) ((text : Option (List Rule)) × Governs tree.access path text × ByText text)))
  not_snapshots path true changes = (λ _. tt, λ _. refl)
  not_snapshots path false true = bytes_eq-Decides user tree.owner
  not_snapshots path false false = governed_Decides path

  -- by whether the tree is a snapshot tree
  by_snapshots : (path : PathName) (snapshots : Bool) → Decides
      (or_text
      (if snapshots then Some (only_looks right && bytes_eq user (base_of tree.owner))
      else if bytes_eq user tree.owner && only_looks right then Some true
      else if is_control path && not (only_looks right) then Some (bytes_eq user tree.owner)
      else None)
      (if snapshots then None else first_text tree.access (prefixes path)))
      (MatchBool snapshots (IsTrue (only_looks right) × (user ≡ base_of tree.owner))
      (MatchBool (bytes_eq user tree.owner && only_looks right) ⊤
      (MatchBool (is_control path && not (only_looks right)) (user ≡ tree.owner)
      ((text : Option (List Rule)) × Governs tree.access path text × ByText text))))
  by_snapshots path true = Decides-and (only_looks right) (bytes_eq user (base_of tree.owner)) (itself_Decides (only_looks right)) (bytes_eq-Decides user (base_of tree.owner))
  by_snapshots path false = not_snapshots path (bytes_eq user tree.owner && only_looks right) (is_control path && not (only_looks right))

  pub right_Decides : (path : PathName) → Decides (right_test tree listed loaded user right path) (HasRight tree loaded user right path)
  unfolding right_test without_text governor
  right_Decides path = by_snapshots path (owns_snapshots tree.owner)

module _ (tree : TreeFacts) (listed : List PathName) (loaded : List (PathName × LoadAnswer)) (user : List ℕ) (path : PathName) (lists : ListsGroups tree listed) where
  -- an answer that is the test's holds exactly where the user has the right
  answer_means : (right : Right) (answer : Bool) → answer ≡ right_test tree listed loaded user right path → IsTrue answer ↔ HasRight tree loaded user right path
  answer_means right answer same =
      let decides = right_Decides tree listed loaded user right lists path in
      (λ h. decides.0 (sym same ∙ h), λ h. same ∙ decides.1 h)

  -- the same of an answer that may be missing
  pub answer_means_ok : {E : Type 0} (right : Right) (result : Result Bool E) → IfOk result (λ answer. answer ≡ right_test tree listed loaded user right path) → IfOk result (λ answer. IsTrue answer ↔ HasRight tree loaded user right path)
  answer_means_ok right (Ok answer) same = answer_means right answer same
  answer_means_ok right (Err fault) same = tt

  -- the set of the rights that are held has each of them
  held_has : (right : Right) → has_right (rights_held tree listed loaded user path) right ≡ right_test tree listed loaded user right path
  unfolding rights_held
  held_has Read = refl
  held_has Write = refl
  held_has ListRight = refl
  held_has Create = refl
  held_has Delete = refl

  pub rights_mean_ok : {E : Type 0} (result : Result Rights E) → IfOk result (λ rights. rights ≡ rights_held tree listed loaded user path) → IfOk result (λ rights. (right : Right) → IsTrue (has_right rights right) ↔ HasRight tree loaded user right path)
  rights_mean_ok (Ok rights) same = λ right. answer_means right (has_right rights right) (ap (λ held. has_right held right) same ∙ held_has right)
  rights_mean_ok (Err fault) same = tt

-- a right more, where it is held
abbrev pub with_held : Rights → Right → Bool → Rights
with_held rights right held = if held then with_right rights right else rights

pub all_held : (r w l c d : Bool) → with_held (with_held (with_held (with_held (with_held no_rights Read r) Write w) ListRight l) Create c) Delete d ≡ record { read = r; write = w; list = l; create = c; delete = d }
all_held r w l c d =
    ap (λ rights. with_held (with_held (with_held (with_held rights Write w) ListRight l) Create c) Delete d) (first r)
    ∙ (ap (λ rights. with_held (with_held (with_held rights ListRight l) Create c) Delete d) (second r w)
    ∙ (ap (λ rights. with_held (with_held rights Create c) Delete d) (third r w l)
    ∙ (ap (λ rights. with_held rights Delete d) (fourth r w l c) ∙ fifth r w l c d)))
  where
    first : (r : Bool) → with_held no_rights Read r ≡ record { read = r; write = false; list = false; create = false; delete = false }
    first true = refl
    first false = refl

    second : (r w : Bool) → with_held (record { read = r; write = false; list = false; create = false; delete = false }) Write w ≡ record { read = r; write = w; list = false; create = false; delete = false }
    second r true = refl
    second r false = refl

    third : (r w l : Bool) → with_held (record { read = r; write = w; list = false; create = false; delete = false }) ListRight l ≡ record { read = r; write = w; list = l; create = false; delete = false }
    third r w true = refl
    third r w false = refl

    fourth : (r w l c : Bool) → with_held (record { read = r; write = w; list = l; create = false; delete = false }) Create c ≡ record { read = r; write = w; list = l; create = c; delete = false }
    fourth r w l true = refl
    fourth r w l false = refl

    fifth : (r w l c d : Bool) → with_held (record { read = r; write = w; list = l; create = c; delete = false }) Delete d ≡ record { read = r; write = w; list = l; create = c; delete = d }
    fifth r w l c true = refl
    fifth r w l c false = refl

-- the laws

pub test_is_right : TestIsRight
test_is_right tree listed loaded user right path lists = right_Decides tree listed loaded user right lists path

pub reached_whole_of : ReachedIsReached
reached_whole_of tree listed loaded starts lists = reached_whole (text_of tree loaded) starts (listed ++ keys_of loaded) (lists_texts tree listed loaded lists)
