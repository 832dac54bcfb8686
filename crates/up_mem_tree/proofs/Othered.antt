-- The groups of other owners that texts name, as they are kept.
use Rattle.std.proofs.Common.{◌≡◌, ◌≢◌, ◌⊎◌, ℕ, zero, suc, ◌+◌, ◌<◌, ◌≤◌, Bool, true, false, cond, ◌||◌, List, [], ◌∷◌, ◌++◌, length, take, get_or, refl, sym, ap, subst, ◌∙◌, inl, inr, arith, Option, Some, None, Result, Ok, Err, append-nil, ltb-true, ◌==◌, is_some}
use Rattle.std.specs.Prelude.{Contains, IfSome, MatchOption, OnOk, nat_lt, slice_get, if◌then◌else◌}
use Rattle.std.specs.List.{list_any}
use Rattle.std.specs.FinMap.Entries.{find, is_some-find}
use Rattle.std.specs.Map.{keys_of}
use Rattle.std.specs.Option.{option_and_then, option_map}
use Rattle.std.specs.Ordering.{eq_by_cmp, nat_cmp}
use Rattle.std.proofs.lemmas.Map.Views.{Contains-from_any}
use Rattle.std.proofs.lemmas.Bool.{and_parts, cases_lt, eqb-true, false≢true}
use Rattle.std.proofs.lemmas.Grind.{flat_map-append}
use Rattle.std.proofs.lemmas.List.{length_push, take-append-le, take_all}
use Rattle.std.proofs.lemmas.List.Elements.{Contains-append_cases, filter_map-append}
use Rattle.std.proofs.lemmas.Option.{slice_get-get_or}
use Rattle.up_names.specs.PathNames.{PathName, control_of, is_under, parent_of}
use Rattle.up_names.specs.PathOrder.{path_cmp, path_eq}
use Rattle.up_names.specs.declared.items.Item.{Item}
use Rattle.up_names.specs.declared.paths.Control.{Control}
use Rattle.up_names.specs.declared.paths.Control.TheVariants.{Access, Group, Ordinary}
use Rattle.up_access.specs.declared.Rule.{Rule}
use Rattle.up_entry.specs.declared.records.Rec.{Rec}
use Rattle.up_entry.specs.declared.records.Rec.TheVariants.{Put, Delete, Snap}
use Rattle.up_policy.specs.Members.{group_in, groups_in}
use Rattle.up_policy.specs.Reached.{groups_named}
use Rattle.up_policy.proofs.PathLists.{Contains-behind, Contains-cons, Contains-head, no_member}
use Rattle.up_log_tree.specs.declared.node.Node.{Node}
use Rattle.up_log_tree.specs.Changes.{changes_some, last_change, path_of_change}
use Rattle.up_log_tree.specs.Orders.{has_path as has}
use Rattle.up_log_tree.specs.Rights.{access_path, facts_of, is_group, is_group_file, items_of, rules_of}
use Rattle.up_log_tree.specs.Trees.{Tree, after_record, node_at, tree_at, tree_of}
use Rattle.up_log_tree.proofs.Fronts.{take_next, whole_front}
use Rattle.up_log_tree.proofs.Paths.{parent_extended, path_eq_itself, path_same, some_none, some_same}
use Rattle.up_log_tree.proofs.Trees.{tree_of-push}
use Rattle.up_mem_tree.specs.declared.history.Change.{Change}
use Rattle.up_mem_tree.specs.declared.kept.Kept.{Kept}
use Rattle.up_mem_tree.specs.declared.others.Named.{Named}
use Rattle.up_mem_tree.specs.declared.gone.Naming.{Naming}
use Rattle.up_mem_tree.specs.declared.others.Others.{Others}
use Rattle.up_mem_tree.specs.declared.steps.ParentStep.{ParentStep}
use Rattle.up_mem_tree.specs.declared.steps.Step.{Step}
use Rattle.up_mem_tree.specs.Kept.{IsStepFor, paths_of, slots_of}
use Rattle.up_mem_tree.specs.Namings.{ChangesPath, IsFirstNaming, IsFirstNow, IsFirstOf, IsFrom}
use Rattle.up_mem_tree.specs.Others.{AreNamed, AreNamedAt, AreNamedBy, Grows, HasAccessOthers, HasAllOthers, HasGroupOthers, HasOthers, HasParentOthers, HasStepOthers, HasTested, HasTextsOthers, KeepsPaths, Releases, is_foreign, kept_of, named_at, named_by, named_then, names_now, was_then}
use Rattle.up_mem_tree.specs.Slots.{Known}
use Rattle.up_mem_tree.specs.Steps.{IsAboveOf, access_change, group_change, group_file, own_id}
use Rattle.up_mem_tree.proofs.Held.{by_at, has_at, has_by, numbered}
use Rattle.up_mem_tree.proofs.Meeting.{front_changes, group_only, last_changes}
use Rattle.up_mem_tree.proofs.SnapTimes.{tied}
use Rattle.up_mem_tree.proofs.Named.{last_change-none, last_change-push}
use Rattle.up_mem_tree.proofs.RecordChanges.{access_control, access_here, access_other, group_here, group_never, group_other, last_more}
use Rattle.up_mem_tree.proofs.Texts.{access-is, group-is}
use Rattle.up_mem_tree.proofs.Within.{step_at}

-- ---- what these groups have

module _ (test : PathName → Bool) where
  pub none_tested : (paths : List PathName) → HasTested test paths []
  none_tested paths group there passes = absurd (no_member group there)

  pub tested_still : (old new groups : List PathName) → KeepsPaths old new → HasTested test old groups → HasTested test new groups
  tested_still old new groups kept has_them group there passes = kept.each group (has_them group there passes)

  pub both_tested : (paths xs ys : List PathName) → HasTested test paths xs → HasTested test paths ys → HasTested test paths (xs ++ ys)
  both_tested paths xs ys one two group there passes = elim (Contains-append_cases xs ys group there) [ inl h ↦ one group h passes | inr h ↦ two group h passes ]

  -- one group, by what was tested
  pub one_tested : (paths : List PathName) (group : PathName) → (test group ≡ true → has paths group ≡ true) → HasTested test paths (group ∷ [])
  one_tested paths group known q there passes = elim (Contains-cons group q [] there) [
    | inl same ↦ subst (λ p. has paths p ≡ true) same (known (subst (λ p. test p ≡ true) (sym same) passes))
    | inr none ↦ absurd (no_member q none)
  ]

  -- it does not pass
  pub one_fails : (paths : List PathName) (group : PathName) → test group ≡ false → HasTested test paths (group ∷ [])
  one_fails paths group fails = one_tested paths group (λ passes. absurd (false≢true (sym fails ∙ passes)))

  -- ---- one more of a list

  module _ {X : Type 0} (named : List X → List PathName) (apart : (xs ys : List X) → named (xs ++ ys) ≡ named xs ++ named ys) where
    next_tested : (xs : List X) (i : ℕ) (x : X) → i < length xs → x ≡ get_or xs i x → (old new : List PathName) → KeepsPaths old new → HasTested test old (named (take i xs)) → HasTested test new (named (x ∷ [])) →
        HasTested test new (named (take (i + 1) xs))
    next_tested xs i x within is old new kept before one =
        let at : slice_get xs i ≡ Some x = slice_get-get_or xs i x within ∙ ap Some (sym is) in
        let taken : take (i + 1) xs ≡ take i xs ++ x ∷ [] = ap (λ m. take m xs) (let e : i + 1 ≡ suc i = omega arith in e) ∙ take_next i xs x at in
        subst (HasTested test new) (sym (ap named taken ∙ apart (take i xs) (x ∷ [])))
        (both_tested new (named (take i xs)) (named (x ∷ [])) (tested_still old new (named (take i xs)) kept before) one)

  pub items_next : (items : List Item) (i : ℕ) (item : Item) → i < length items → item ≡ get_or items i item → (old new : List PathName) → KeepsPaths old new → HasTested test old (groups_in (take i items)) →
      HasTested test new (groups_in (item ∷ [])) → HasTested test new (groups_in (take (i + 1) items))
  items_next = next_tested groups_in (filter_map-append group_in)

  pub rules_next : (rules : List Rule) (i : ℕ) (rule : Rule) → i < length rules → rule ≡ get_or rules i rule → (old new : List PathName) → KeepsPaths old new → HasTested test old (groups_named (take i rules)) →
      HasTested test new (groups_in rule.items) → HasTested test new (groups_named (take (i + 1) rules))
  rules_next rules i rule within is old new kept before one =
      next_tested groups_named (flat_map-append (λ (rule : Rule). groups_in rule.items)) rules i rule within is old new kept before
      (subst (HasTested test new) (sym (append-nil (groups_in rule.items))) one)

  -- all of them
  pub items_all : (items : List Item) (i : ℕ) (paths : List PathName) → length items ≤ i → HasTested test paths (groups_in (take i items)) → HasTested test paths (groups_in items)
  items_all items i paths past told = subst (λ xs. HasTested test paths (groups_in xs)) (take_all i items past) told

  pub rules_all : (rules : List Rule) (i : ℕ) (paths : List PathName) → length rules ≤ i → HasTested test paths (groups_named (take i rules)) → HasTested test paths (groups_named rules)
  rules_all rules i paths past told = subst (λ xs. HasTested test paths (groups_named xs)) (take_all i rules past) told

module _ (owner : List ℕ) where
  -- a group of the owner's
  pub group_own : (others : Others) (position : ℕ) (group : PathName) (b : Bool) → b ≡ is_foreign owner group → b ≡ false → HasOthers owner (named_by others position) (group ∷ [])
  group_own others position group b is fails = one_fails (is_foreign owner) (named_by others position) group (sym is ∙ fails)

  -- a group of another owner that the record at the position names
  pub group_noted : {E : Type 0} (result : Result (Unit {0}) E) (old others : Others) (position : ℕ) (group : PathName) (id : ℕ) →
      OnOk result ((g : PathName) → find path_cmp g old.numbers.entries ≡ Some id → names_now position (kept_of others g) ≡ true) → find path_cmp group old.numbers.entries ≡ Some id → OnOk result (HasOthers owner (named_by others position) (group ∷ []))
  group_noted (Ok done) old others position group id noted found = one_tested (is_foreign owner) (named_by others position) group (λ foreign. has_by others position group ∙ noted group found)
  group_noted (Err fault) old others position group id noted found = tt

  -- ---- what a step has, once there are more paths

  pub access_still : (access : Option (Change (List Rule))) (old new : List PathName) → KeepsPaths old new → HasAccessOthers owner old access → HasAccessOthers owner new access
  access_still None old new kept told = tt
  access_still (Some change) old new kept told = by change.text told
    where
      by : (text : Option (List Rule)) → IfSome text (λ rules. HasOthers owner old (groups_named rules)) → IfSome text (λ rules. HasOthers owner new (groups_named rules))
      by None told = tt
      by (Some rules) told = tested_still (is_foreign owner) old new (groups_named rules) kept told

  pub parent_still : (parent : Option ParentStep) (old new : List PathName) → KeepsPaths old new → HasParentOthers owner old parent → HasParentOthers owner new parent
  parent_still None old new kept told = tt
  parent_still (Some step) old new kept told = access_still step.access old new kept told

  pub texts_told : {E : Type 0} (result : Result (Unit {0}) E) (step : Step) (old new : List PathName) → KeepsPaths old new → HasParentOthers owner old step.parent → OnOk result (HasGroupOthers owner new step.group) →
      OnOk result (HasTextsOthers owner new step)
  texts_told (Ok done) step old new kept parent group = record { parent = parent_still step.parent old new kept parent; group = group }
  texts_told (Err fault) step old new kept parent group = tt

  -- of the new text of an Access file
  pub access_told : {E : Type 0} (result : Result (Unit {0}) E) (paths : List PathName) (access : Option (Change (List Rule))) (change : Change (List Rule)) (text rules : List Rule) → access ≡ Some change → change.text ≡ Some text → rules ≡ text →
      OnOk result (HasOthers owner paths (groups_named rules)) → OnOk result (HasAccessOthers owner paths access)
  access_told (Ok done) paths access change text rules some told same added =
      subst (HasAccessOthers owner paths) (sym some)
      (subst (λ t. IfSome t (λ rules. HasOthers owner paths (groups_named rules))) (sym told) (subst (λ rs. HasOthers owner paths (groups_named rs)) same added))
  access_told (Err fault) paths access change text rules some told same added = tt

-- ---- the positions of last changes

-- none is behind the last record
last_within : (records : List Rec) (q : PathName) (p : ℕ) → last_change records q ≡ Some p → p ≤ length records
last_within records q = whole_front (λ rs. (p : ℕ) → last_change rs q ≡ Some p → p ≤ length rs) records
    (λ p is. absurd (some_none p (sym is ∙ last_change-none q)))
    (λ n rec at so_far p is. go (take n records) rec p (changes_some (path_eq q) rec) so_far (sym (last_change-push (take n records) rec q) ∙ is))
  where
    go : (front : List Rec) (rec : Rec) (p : ℕ) (b : Bool) → ((p : ℕ) → last_change front q ≡ Some p → p ≤ length front) → cond b (Some (length front + 1)) (last_change front q) ≡ Some p → p ≤ length (front ++ rec ∷ [])
    go front rec p true so_far is = let e : length front + 1 ≡ p = some_same (length front + 1) p is in omega (arith, e, length_push front rec)
    go front rec p false so_far is = let l : p ≤ length front = so_far p is in omega (arith, l, length_push front rec)

-- paths that were last changed by one record are one
last_apart : (records : List Rec) (a b : PathName) (p : ℕ) → last_change records a ≡ Some p → last_change records b ≡ Some p → a ≡ b
last_apart records a b = whole_front (λ rs. (p : ℕ) → last_change rs a ≡ Some p → last_change rs b ≡ Some p → a ≡ b) records
    (λ p one two. absurd (some_none p (sym one ∙ last_change-none a)))
    (λ n rec at so_far p one two.
    go (take n records) rec p (changes_some (path_eq a) rec) (changes_some (path_eq b) rec) refl refl so_far
    (sym (last_change-push (take n records) rec a) ∙ one) (sym (last_change-push (take n records) rec b) ∙ two))
  where
    same_changed : (rec : Rec) → changes_some (path_eq a) rec ≡ true → changes_some (path_eq b) rec ≡ true → a ≡ b
    same_changed (Put entry text) one two = path_same a entry.name one ∙ sym (path_same b entry.name two)
    same_changed (Delete path) one two = path_same a path one ∙ sym (path_same b path two)
    same_changed (Snap time) one two = absurd (false≢true one)

    late : (front : List Rec) (q : PathName) (p : ℕ) → Some (length front + 1) ≡ Some p → last_change front q ≡ Some p → ⊥
    late front q p here there =
        let e : length front + 1 ≡ p = some_same (length front + 1) p here in
        let w : p ≤ length front = last_within front q p there in
        omega (arith, e, w)

    go : (front : List Rec) (rec : Rec) (p : ℕ) (x y : Bool) → changes_some (path_eq a) rec ≡ x → changes_some (path_eq b) rec ≡ y → ((p : ℕ) → last_change front a ≡ Some p → last_change front b ≡ Some p → a ≡ b) →
        cond x (Some (length front + 1)) (last_change front a) ≡ Some p → cond y (Some (length front + 1)) (last_change front b) ≡ Some p → a ≡ b
    go front rec p true true ha hb so_far one two = same_changed rec ha hb
    go front rec p true false ha hb so_far one two = absurd (late front b p one two)
    go front rec p false true ha hb so_far one two = absurd (late front a p two one)
    go front rec p false false ha hb so_far one two = so_far p one two

-- ---- an empty log

empty_node : (n : ℕ) (q : PathName) → node_at (tree_at [] n) q ≡ None
unfolding node_at tree_of
empty_node zero q = refl
empty_node (suc n) q = refl

no_access : (owner : List ℕ) (n : ℕ) (dir : PathName) (rules : List Rule) → (facts_of owner (tree_at [] n)).access dir ≡ Some rules → ⊥
no_access owner n dir rules some = some_none rules (sym some ∙ (access-is owner (tree_at [] n) dir ∙ ap (option_map (rules_of owner)) (empty_node n (access_path dir))))

no_group : (owner : List ℕ) (n : ℕ) (path : PathName) (items : List Item) → (facts_of owner (tree_at [] n)).group path ≡ Some items → ⊥
no_group owner n path items some = some_none items (sym some ∙ (group-is owner (tree_at [] n) path
    ∙ ap (λ o. option_map (items_of owner) (elim o as (λ _. Option Node) [ None ↦ None | Some node ↦ if is_group_file path node then Some node else None ])) (empty_node n path)))

pub others_none : (owner : List ℕ) (records : List Rec) (others : Others) → records ≡ [] → AreNamed owner records others
others_none owner records others none = subst (λ rs. AreNamed owner rs others) (sym none) (record {
  access_then = λ n dir rules less some. absurd (no_access owner n dir rules some);
  groups_then = λ n path items less some. absurd (no_group owner n path items some);
  access_now = λ dir rules some. absurd (no_access owner 0 dir rules some);
  groups_now = λ path items some. absurd (no_group owner 0 path items some);
})

-- a key is there
key_there : (es : List (ℕ × (Unit {0}))) (p : ℕ) → is_some (find nat_cmp p es) ≡ true → Contains (keys_of es) p
key_there es p h = Contains-from_any exact p (keys_of es) (sym (is_some-find nat_cmp p es) ∙ h)
  where
    exact : (a b : ℕ) → eq_by_cmp nat_cmp a b ≡ true → a ≡ b
    exact a b t = sym (eqb-true b a (sym (tied a b) ∙ t))

-- ---- what is known of all texts

module _ (owner : List ℕ) (others : Others) where
  at_of : (o : Option ℕ) (groups : List PathName) (n : ℕ) → AreNamedBy owner others o groups → AreNamedAt owner others n o groups
  at_of None groups n told = told
  at_of (Some position) groups n told = λ group there foreign. by_at others position n group (told group there foreign)

  -- a group of those, by the position of the record
  known_at : (o : Option ℕ) (groups : List PathName) (n : ℕ) (group : PathName) → AreNamedAt owner others n o groups → Contains groups group → is_foreign owner group ≡ true → (p : ℕ) × (o ≡ Some p) × (has (named_at others n p) group ≡ true)
  known_at None groups n group told there foreign = absurd told
  known_at (Some p) groups n group told there foreign = (p, refl, told group there foreign)

  module _ (records : List Rec) (told : AreNamed owner records others) where
    whole : (n : ℕ) → length records ≤ n → take n records ≡ records
    whole n late = take_all n records late

    access_at : (n : ℕ) (dir : PathName) (rules : List Rule) → (facts_of owner (tree_at records n)).access dir ≡ Some rules → AreNamedAt owner others n (last_change (take n records) (access_path dir)) (groups_named rules)
    access_at n dir rules some = elim (cases_lt n (length records)) [
      | inl low ↦ told.access_then n dir rules low some
      | inr high ↦
          subst (λ rs. AreNamedAt owner others n (last_change rs (access_path dir)) (groups_named rules)) (sym (whole n high))
          (at_of (last_change records (access_path dir)) (groups_named rules) n (told.access_now dir rules (ap (λ t. (facts_of owner t).access dir) (behind n high) ∙ some)))
    ]
      where
        behind : (n : ℕ) → length records ≤ n → tree_at records (length records) ≡ tree_at records n
        behind n late = ap tree_of (take_all (length records) records (omega arith) ∙ sym (take_all n records late))

    group_at : (n : ℕ) (path : PathName) (items : List Item) → (facts_of owner (tree_at records n)).group path ≡ Some items → AreNamedAt owner others n (last_change (take n records) path) (groups_in items)
    group_at n path items some = elim (cases_lt n (length records)) [
      | inl low ↦ told.groups_then n path items low some
      | inr high ↦
          subst (λ rs. AreNamedAt owner others n (last_change rs path) (groups_in items)) (sym (whole n high))
          (at_of (last_change records path) (groups_in items) n (told.groups_now path items (ap (λ t. (facts_of owner t).group path) (behind n high) ∙ some)))
    ]
      where
        behind : (n : ℕ) → length records ≤ n → tree_at records (length records) ≡ tree_at records n
        behind n late = ap tree_of (take_all (length records) records (omega arith) ∙ sym (take_all n records late))

    -- each of them has a number
    pub has_all : HasAllOthers owner records (keys_of others.numbers.entries)
    has_all = record {
      access = λ n dir rules some group there foreign.
          let known = known_at (last_change (take n records) (access_path dir)) (groups_named rules) n group (access_at n dir rules some) there foreign in
          numbered others n known.0 group known.2;
      groups = λ n path items some group there foreign.
          let known = known_at (last_change (take n records) path) (groups_in items) n group (group_at n path items some) there foreign in
          numbered others n known.0 group known.2;
    }

    -- ---- where a group can be met

    -- what a record's text had named after m records is one of its texts in force, or of those that were replaced later
    module _ (group : PathName) (above n m : ℕ) (less : above < n) (le : n ≤ m) where
      gone_after : (p : ℕ) (texts : List Naming) → list_any (was_then m p) texts ≡ true → (text : Naming) × Contains texts text × (text.by ≡ p) × (m < text.until)
      gone_after p [] h = absurd (false≢true h)
      gone_after p (t ∷ texts) h = by (was_then m p t) refl h (gone_after p texts)
        where
          one : was_then m p t ≡ true → (text : Naming) × Contains (t ∷ texts) text × (text.by ≡ p) × (m < text.until)
          one passes = let both = and_parts (t.by == p) (nat_lt m t.until) passes in (t, Contains-head t texts, eqb-true t.by p both.0, ltb-true m t.until both.1)

          by : (b : Bool) → was_then m p t ≡ b → (b || list_any (was_then m p) texts) ≡ true → (list_any (was_then m p) texts ≡ true → (text : Naming) × Contains texts text × (text.by ≡ p) × (m < text.until)) →
              (text : Naming) × Contains (t ∷ texts) text × (text.by ≡ p) × (m < text.until)
          by true passes h rest = one passes
          by false fails h rest = let found = rest h in (found.0, Contains-behind t found.0 texts found.1, found.2, found.3)

      -- so what is found over those is the first
      met_by : (path file changed : PathName) (first : Option ℕ) (named : Named) (after : List Naming) (groups : List PathName) → kept_of others group ≡ Some named → named.until ≤ above →
          ((text : Naming) → Contains named.gone text → above < text.until → Contains after text) → IsFirstNow records (keys_of named.by.entries) path above first → IsFirstOf records after path above first →
          ChangesPath records n changed → is_under changed path ≡ true → AreNamedAt owner others m (last_change (take m records) file) groups → Contains groups group → is_foreign owner group ≡ true →
          ((is_group file ≡ true) ⊎ ((dir : PathName) × (file ≡ access_path dir) × (is_under changed dir ≡ true))) → IsFrom first n
      met_by path file changed first named after groups kept late of_gone of_now of_after is under told there foreign reaches =
          let known = known_at (last_change (take m records) file) groups m group told there foreign in
          let changes : ChangesPath records known.0 file = front_changes records m known.0 file (last_changes (take m records) file known.0 known.1) in
          by known.0 changes (is_some (find nat_cmp known.0 named.by.entries)) (nat_lt m named.until) (list_any (was_then m known.0) named.gone) refl refl refl
          (sym (ap (named_then m known.0) kept) ∙ (sym (has_at others m known.0 group) ∙ known.2))
        where
          by : (p : ℕ) → ChangesPath records p file → (x y z : Bool) → is_some (find nat_cmp p named.by.entries) ≡ x → nat_lt m named.until ≡ y → list_any (was_then m p) named.gone ≡ z → (x || y || z) ≡ true → IsFrom first n
          by p changes true y z now early later h =
              of_now p (key_there named.by.entries p now) n changed less is under (record { lasts = inl refl; file = file; is = changes; reaches = reaches })
          by p changes false true z now early later h = absurd (let l : m < named.until = ltb-true m named.until early in omega (arith, l, late, less, le))
          by p changes false false true now early later h =
              let text = gone_after p named.gone later in
              let last : n < text.0.until = let l = text.3 in omega (arith, l, le) in
              of_after text.0 (of_gone text.0 text.1 (omega (arith, last, less))) n changed less is under
              (record { lasts = inr last; file = file; is = subst (λ k. ChangesPath records k file) (sym text.2) changes; reaches = reaches })
          by p changes false false false now early later h = absurd (false≢true h)

    -- what is found over the texts of a group is the first
    pub first_told : (group path : PathName) (above : ℕ) (first : Option ℕ) (named : Named) (after : List Naming) → kept_of others group ≡ Some named → named.until ≤ above →
        ((text : Naming) → Contains named.gone text → above < text.until → Contains after text) → IsFirstNow records (keys_of named.by.entries) path above first → IsFirstOf records after path above first →
        is_foreign owner group ≡ true → IsFirstNaming owner records group path above first
    first_told group path above first named after kept late of_gone of_now of_after foreign = record {
      each = λ n m changed less le is under meets. elim meets [
        | inl here ↦
            met_by group above n m less le path (access_path here.dir) changed first named after (groups_named here.rules) kept late of_gone of_now of_after is under (access_at m here.dir here.rules here.text) here.named foreign
            (inr (here.dir, refl, here.above))
        | inr inside ↦
            met_by group above n m less le path inside.file changed first named after (groups_in inside.items) kept late of_gone of_now of_after is under (group_at m inside.file inside.items inside.text) inside.named foreign
            (inl (group_only owner records m inside.file inside.items inside.text))
      ];
    }

    -- of a group that no text names, or has named
    pub first_nowhere : (group path : PathName) (above : ℕ) → kept_of others group ≡ None → is_foreign owner group ≡ true → IsFirstNaming owner records group path above None
    first_nowhere group path above none foreign = record {
      each = λ n m changed less le is under meets. elim meets [
        | inl here ↦ unknown m (access_path here.dir) (groups_named here.rules) (access_at m here.dir here.rules here.text) here.named
        | inr inside ↦ unknown m inside.file (groups_in inside.items) (group_at m inside.file inside.items inside.text) inside.named
      ];
    }
      where
        unknown : (m : ℕ) (file : PathName) (groups : List PathName) → AreNamedAt owner others m (last_change (take m records) file) groups → Contains groups group → ⊥
        unknown m file groups told there =
            let known = known_at (last_change (take m records) file) groups m group told there foreign in
            false≢true (sym (ap (named_then m known.0) none) ∙ (sym (has_at others m known.0 group) ∙ known.2))

-- ---- more is known

module _ (owner : List ℕ) (old new : Others) where
  -- of a record that is not the one whose text is replaced
  by_still : (replaced : Option ℕ) (until : ℕ) → Releases replaced until old new → (o : Option ℕ) (groups : List PathName) → ((p : ℕ) → o ≡ Some p → replaced ≢ Some p) → AreNamedBy owner old o groups → AreNamedBy owner new o groups
  by_still replaced until passes None groups other told = told
  by_still replaced until passes (Some p) groups other told = λ group there foreign. (passes.by p (other p refl)).each group (told group there foreign)

  by_more : Grows old new → (o : Option ℕ) (groups : List PathName) → AreNamedBy owner old o groups → AreNamedBy owner new o groups
  by_more grows None groups told = told
  by_more grows (Some p) groups told = λ group there foreign. (grows.by p).each group (told group there foreign)

  at_more : Grows old new → (n : ℕ) (o : Option ℕ) (groups : List PathName) → AreNamedAt owner old n o groups → AreNamedAt owner new n o groups
  at_more grows n None groups told = told
  at_more grows n (Some p) groups told = λ group there foreign. (grows.at n p).each group (told group there foreign)

  -- before the text was replaced
  at_still : (replaced : Option ℕ) (until : ℕ) → Releases replaced until old new → (n : ℕ) → n < until → (o : Option ℕ) (groups : List PathName) → AreNamedAt owner old n o groups → AreNamedAt owner new n o groups
  at_still replaced until passes n less None groups told = told
  at_still replaced until passes n less (Some p) groups told = λ group there foreign. (passes.at n p less).each group (told group there foreign)

  pub named_more : (records : List Rec) → Grows old new → AreNamed owner records old → AreNamed owner records new
  named_more records grows told = record {
    access_then = λ n dir rules less some. at_more grows n (last_change (take n records) (access_path dir)) (groups_named rules) (told.access_then n dir rules less some);
    groups_then = λ n path items less some. at_more grows n (last_change (take n records) path) (groups_in items) (told.groups_then n path items less some);
    access_now = λ dir rules some. by_more grows (last_change records (access_path dir)) (groups_named rules) (told.access_now dir rules some);
    groups_now = λ path items some. by_more grows (last_change records path) (groups_in items) (told.groups_now path items some);
  }

-- ---- one record more

module _ (owner : List ℕ) (records : List Rec) (rec : Rec) (old new : Others) (told : AreNamed owner records old) where
  abbrev more : List Rec
  more = records ++ rec ∷ []

  abbrev last : Tree
  last = tree_at more (length records + 1)

  -- what holds at the end, and before, always holds
  by_last : (replaced : Option ℕ) → Releases replaced (length records + 1) old new →
      ((dir : PathName) (rules : List Rule) → (facts_of owner last).access dir ≡ Some rules → AreNamedBy owner new (last_change more (access_path dir)) (groups_named rules)) →
      ((path : PathName) (items : List Item) → (facts_of owner last).group path ≡ Some items → AreNamedBy owner new (last_change more path) (groups_in items)) → AreNamed owner more new
  by_last replaced passes access groups = record {
    access_then = λ n dir rules less some.
        let early : n < length records + 1 = omega (arith, less, long) in
        subst (λ rs. AreNamedAt owner new n (last_change rs (access_path dir)) (groups_named rules)) (sym (front n (omega (arith, early))))
        (at_still owner old new replaced (length records + 1) passes n early (last_change (take n records) (access_path dir)) (groups_named rules)
        (access_at owner old records told n dir rules (sym (ap (λ t. (facts_of owner t).access dir) (before n (omega (arith, early)))) ∙ some)));
    groups_then = λ n path items less some.
        let early : n < length records + 1 = omega (arith, less, long) in
        subst (λ rs. AreNamedAt owner new n (last_change rs path) (groups_in items)) (sym (front n (omega (arith, early))))
        (at_still owner old new replaced (length records + 1) passes n early (last_change (take n records) path) (groups_in items)
        (group_at owner old records told n path items (sym (ap (λ t. (facts_of owner t).group path) (before n (omega (arith, early)))) ∙ some)));
    access_now = λ dir rules some. access dir rules (subst (λ k. (facts_of owner (tree_at more k)).access dir ≡ Some rules) long some);
    groups_now = λ path items some. groups path items (subst (λ k. (facts_of owner (tree_at more k)).group path ≡ Some items) long some);
  }
    where
      long : length more ≡ length records + 1
      long = length_push records rec

      front : (n : ℕ) → n ≤ length records → take n more ≡ take n records
      front n early = take-append-le n records (rec ∷ []) early

      before : (n : ℕ) → n ≤ length records → tree_at more n ≡ tree_at records n
      before n early = ap tree_of (front n early)

  -- a record that changes nothing
  others_quiet : ((tree : Tree) → after_record tree rec ≡ tree) → ((q : PathName) → last_change more q ≡ last_change records q) → Releases None (length records + 1) old new → AreNamed owner more new
  others_quiet quiet unchanged passes = by_last None passes
      (λ dir rules some.
      subst (λ o. AreNamedBy owner new o (groups_named rules)) (sym (unchanged (access_path dir)))
      (by_still owner old new None (length records + 1) passes (last_change records (access_path dir)) (groups_named rules) (λ p is none. some_none p (sym none))
      (told.access_now dir rules (sym (ap (λ t. (facts_of owner t).access dir) same) ∙ some))))
      (λ path items some.
      subst (λ o. AreNamedBy owner new o (groups_in items)) (sym (unchanged path))
      (by_still owner old new None (length records + 1) passes (last_change records path) (groups_in items) (λ p is none. some_none p (sym none))
      (told.groups_now path items (sym (ap (λ t. (facts_of owner t).group path) same) ∙ some))))
    where
      long : length more ≡ length records + 1
      long = length_push records rec

      same : last ≡ tree_at records (length records)
      same = ap tree_of (take_all (length records + 1) more (omega (arith, long))) ∙ (tree_of-push records rec ∙ (quiet (tree_of records) ∙ sym (ap tree_of (take_all (length records) records (omega arith)))))

  -- a record that changes a path
  module _ (path : PathName) (after : Option Node) (names : path_of_change rec ≡ Some path)
      (stands : (tree : Tree) (q : PathName) → node_at (after_record tree rec) q ≡ cond (path_eq q path) after (node_at tree q))
      (passes : Releases (last_change records path) (length records + 1) old new) where
    -- the path itself is known by the new record
    changed : (q : PathName) (groups : List PathName) → path_eq q path ≡ true → HasOthers owner (named_by old (length records + 1)) groups → AreNamedBy owner new (last_change more q) groups
    changed q groups e has_them =
        subst (λ o. AreNamedBy owner new o groups) (sym (last_more owner records rec path after names stands q ∙ ap (λ b. cond b (Some (length records + 1)) (last_change records q)) e))
        (λ group there foreign. (passes.by (length records + 1) (λ is. let w : length records + 1 ≤ length records = last_within records path (length records + 1) is in omega (arith, w))).each group (has_them group there foreign))

    -- another is known by the record that it was known by
    unchanged : (q : PathName) (groups : List PathName) → path_eq q path ≡ false → AreNamedBy owner old (last_change records q) groups → AreNamedBy owner new (last_change more q) groups
    unchanged q groups e has_them =
        subst (λ o. AreNamedBy owner new o groups) (sym (last_more owner records rec path after names stands q ∙ ap (λ b. cond b (Some (length records + 1)) (last_change records q)) e))
        (by_still owner old new (last_change records path) (length records + 1) passes (last_change records q) groups
        (λ p is replaced. false≢true (sym e ∙ subst (λ r. path_eq q r ≡ true) (last_apart records q path p is replaced) (path_eq_itself q))) has_them)

    others_changed : ((rules : List Rule) → control_of path ≡ Access → (dir : PathName) → parent_of path ≡ Some dir → option_map (rules_of owner) after ≡ Some rules → HasOthers owner (named_by old (length records + 1)) (groups_named rules)) →
        ((items : List Item) → option_map (items_of owner) (group_file path after) ≡ Some items → is_group path ≡ true → HasOthers owner (named_by old (length records + 1)) (groups_in items)) → AreNamed owner more new
    others_changed access_told group_told = by_last (last_change records path) passes
        (λ dir rules. access_by dir rules (path_eq (access_path dir) path) refl)
        (λ q items. group_by q items (path_eq q path) refl)
      where
        access_by : (dir : PathName) (rules : List Rule) (b : Bool) → path_eq (access_path dir) path ≡ b → (facts_of owner last).access dir ≡ Some rules → AreNamedBy owner new (last_change more (access_path dir)) (groups_named rules)
        access_by dir rules true e some =
            let same : access_path dir ≡ path = path_same (access_path dir) path e in
            changed (access_path dir) (groups_named rules) e
            (access_told rules (sym (ap control_of same) ∙ access_control dir) dir (sym (ap parent_of same) ∙ parent_extended dir _)
            (sym (access_here owner records rec path after names stands dir same) ∙ some))
        access_by dir rules false e some =
            unchanged (access_path dir) (groups_named rules) e
            (told.access_now dir rules
            (sym (access_other owner records rec path after names stands dir (λ same. false≢true (sym e ∙ subst (λ p. path_eq (access_path dir) p ≡ true) same (path_eq_itself (access_path dir))))) ∙ some))

        is_one : (items : List Item) (b : Bool) → is_group path ≡ b → (facts_of owner last).group path ≡ Some items → is_group path ≡ true
        is_one items true e some = e
        is_one items false e some = absurd (some_none items (sym some ∙ group_never owner last path e))

        here : (items : List Item) → (facts_of owner last).group path ≡ Some items → HasOthers owner (named_by old (length records + 1)) (groups_in items)
        here items some = group_told items (sym (group_here owner records rec path after names stands) ∙ some) (is_one items (is_group path) refl some)

        group_by : (q : PathName) (items : List Item) (b : Bool) → path_eq q path ≡ b → (facts_of owner last).group q ≡ Some items → AreNamedBy owner new (last_change more q) (groups_in items)
        group_by q items true e some = changed q (groups_in items) e (here items (sym (ap (facts_of owner last).group (path_same q path e)) ∙ some))
        group_by q items false e some =
            unchanged q (groups_in items) e
            (told.groups_now q items
            (sym (group_other owner records rec path after names stands q (λ same. false≢true (sym e ∙ subst (λ p. path_eq q p ≡ true) same (path_eq_itself q)))) ∙ some))

-- what becomes of a Group file is told by its step
group_by_step : (owner : List ℕ) (paths : List PathName) (path : PathName) (after : Option Node) (at : ℕ) (step : Step) → HasStepOthers owner paths (Some step) → step.group ≡ group_change owner path after at →
    (items : List Item) → option_map (items_of owner) (group_file path after) ≡ Some items → is_group path ≡ true → HasOthers owner paths (groups_in items)
group_by_step owner paths path after at step told group items some one = go (control_of path) refl
  where
    go : (k : Control) → control_of path ≡ k → HasOthers owner paths (groups_in items)
    go Group is =
        subst (λ text. IfSome text (λ items. HasOthers owner paths (groups_in items))) some
        (subst (HasGroupOthers owner paths)
        (group ∙ ap (λ k. elim k as (λ _. Option (Change (List Item))) [ Group ↦ Some (record { position = at; text = option_map (items_of owner) (group_file path after) }) | Access ↦ None | Ordinary ↦ None ]) is)
        told.group)
    go Access is = absurd (false≢true (sym (ap (λ k. elim k as (λ _. Bool) [ Group ↦ true | Access ↦ false | Ordinary ↦ false ]) is) ∙ one))
    go Ordinary is = absurd (false≢true (sym (ap (λ k. elim k as (λ _. Bool) [ Group ↦ true | Access ↦ false | Ordinary ↦ false ]) is) ∙ one))

-- the text that a directory gets is told by its step
access_by_step : (owner : List ℕ) (paths : List PathName) (path : PathName) (after : Option Node) (at : ℕ) (d : Option PathName) (dir : PathName) → d ≡ Some dir → control_of path ≡ Access → (parent : Option ParentStep) →
    MatchOption d (parent ≡ None) (λ dir. MatchOption parent ⊥ (λ (p : ParentStep). p.access ≡ access_change owner path after at)) → HasParentOthers owner paths parent → (rules : List Rule) → option_map (rules_of owner) after ≡ Some rules →
    HasOthers owner paths (groups_named rules)
access_by_step owner paths path after at None dir up named parent is told rules some = absurd (some_none dir (sym up))
access_by_step owner paths path after at (Some d) dir up named None is told rules some = absurd is
access_by_step owner paths path after at (Some d) dir up named (Some parent) is told rules some =
    subst (λ text. IfSome text (λ rules. HasOthers owner paths (groups_named rules))) some
    (subst (HasAccessOthers owner paths)
    (is ∙ ap (λ k. elim k as (λ _. Option (Change (List Rule))) [ Access ↦ Some (record { position = at; text = option_map (rules_of owner) after }) | Group ↦ None | Ordinary ↦ None ]) named)
    told)

-- a directory's texts, of all that its step says
texts_of_step : (owner : List ℕ) (records : List Rec) (rec : Rec) (path : PathName) (after : Option Node) (paths : List PathName) (slots : List Known) (own : ℕ) (d : Option PathName) (parent : Option ParentStep) →
    MatchOption d (parent ≡ None) (λ dir. MatchOption parent ⊥ (IsAboveOf owner records rec path after paths slots own dir)) →
    MatchOption d (parent ≡ None) (λ dir. MatchOption parent ⊥ (λ (p : ParentStep). p.access ≡ access_change owner path after (length records + 1)))
texts_of_step owner records rec path after paths slots own None parent is = is
texts_of_step owner records rec path after paths slots own (Some dir) None is = is
texts_of_step owner records rec path after paths slots own (Some dir) (Some parent) is = is.texts

changed_more : (kept : Kept) (rec : Rec) (step : Step) (old new : Others) → IsStepFor kept rec (Some step) → AreNamed kept.owner kept.log.items old →
    HasStepOthers kept.owner (named_by old (length kept.log.items + 1)) (Some step) →
    Releases (option_and_then (last_change kept.log.items) (path_of_change rec)) (length kept.log.items + 1) old new → AreNamed kept.owner (kept.log.items ++ rec ∷ []) new
changed_more kept rec step old new is before told passes =
    let at = step_at kept rec step is in
    let of = at.step_in.0 in
    let paths = named_by old (length kept.log.items + 1) in
    others_changed kept.owner kept.log.items rec old new before at.path at.after at.names at.stands
    (subst (λ o. Releases (option_and_then (last_change kept.log.items) o) (length kept.log.items + 1) old new) at.names passes)
    (λ rules named dir up some. access_by_step kept.owner paths at.path at.after (length kept.log.items + 1) (parent_of at.path) dir up named step.parent
    (texts_of_step kept.owner kept.log.items rec at.path at.after (paths_of kept) (slots_of kept) (own_id (slots_of kept) step.own) (parent_of at.path) step.parent of.above) told.parent rules some)
    (group_by_step kept.owner paths at.path at.after (length kept.log.items + 1) step told of.group)

snap_same : (time : ℕ) (tree : Tree) → after_record tree (Snap time) ≡ tree
unfolding after_record
snap_same time tree = refl

-- the groups of the record that was made ready are known by its position, those of the text that it replaces were released, and it is entered
pub others_more : (kept : Kept) (rec : Rec) (step : Option Step) (old new : Others) → IsStepFor kept rec step → AreNamed kept.owner kept.log.items old →
    HasStepOthers kept.owner (named_by old (length kept.log.items + 1)) step →
    Releases (option_and_then (last_change kept.log.items) (path_of_change rec)) (length kept.log.items + 1) old new → AreNamed kept.owner (kept.log.items ++ rec ∷ []) new
others_more kept (Put entry text) None old new is before told passes = absurd is
others_more kept (Put entry text) (Some step) old new is before told passes = changed_more kept (Put entry text) step old new is before told passes
others_more kept (Delete gone) None old new is before told passes = absurd is
others_more kept (Delete gone) (Some step) old new is before told passes = changed_more kept (Delete gone) step old new is before told passes
others_more kept (Snap time) step old new is before told passes =
    others_quiet kept.owner kept.log.items (Snap time) old new before (snap_same time) (λ q. last_change-push kept.log.items (Snap time) q) passes
