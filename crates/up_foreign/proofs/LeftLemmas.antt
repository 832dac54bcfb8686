-- What is left while a Watch passes its changes: each group that can be needed is, and what is passed over needs none that is not found.
use Rattle.std.proofs.Common.{◌≡◌, ◌⊎◌, ℕ, zero, suc, ◌+◌, ◌-◌, ◌<◌, ◌≤◌, Bool, true, false, not, cond, ◌&&◌, ◌||◌, List, [], ◌∷◌, ◌++◌, length, take, drop, refl, sym, ap, subst, ◌∙◌, inl, inr, arith, Option, Some, None, Result, Ok, Err, is_some}
use Rattle.std.specs.Prelude.{Contains, OnOk, slice_get}
use Rattle.std.specs.List.{flat_map}
use Rattle.std.specs.Map.{keys_of}
use Rattle.std.specs.Cmp.{tied_itself}
use Rattle.std.specs.FinMap.Entries.{find, find-put, find-where_key, put, where_key}
use Rattle.std.specs.Option.{option_and_then}
use Rattle.std.specs.Ordering.{eq_by_cmp, is_eq}
use Rattle.std.specs.Str.{bytes_eq}
use Rattle.std.proofs.lemmas.Bool.{cases_lt, false≢true}
use Rattle.std.proofs.lemmas.List.{take_all}
use Rattle.std.proofs.lemmas.List.Elements.{Contains-append_cases, filter_map-append}
use Rattle.std.proofs.lemmas.Option.{get_or_from_slice_get, slice_get_within}
use Rattle.up_names.specs.PathNames.{PathName, is_under}
use Rattle.up_names.specs.PathOrder.{path_cmp, path_eq}
use Rattle.up_names.specs.PathOrderLaws.{path_cmp_eq, path_cmp_total, path_exact}
use Rattle.up_names.specs.declared.items.Item.{Item}
use Rattle.up_entry.specs.declared.records.Rec.{Rec}
use Rattle.up_policy.specs.Loadings.{Loading, answer_for, loaded_text, text_in}
use Rattle.up_policy.specs.Members.{group_in, groups_in}
use Rattle.up_policy.specs.Reached.{with_paths}
use Rattle.up_policy.proofs.PathLists.{Contains-cons, Contains-from_among, no_member, with_paths-keeps}
use Rattle.up_log_tree.specs.Changes.{changes_some, changes_under, path_of_change, positions_of, record_at}
use Rattle.up_log_tree.specs.Orders.{has_path as has}
use Rattle.up_log_tree.specs.Trees.{tree_at, tree_of}
use Rattle.up_log_tree.proofs.Fronts.{take_next}
use Rattle.up_log_tree.proofs.Paths.{path_same, some_none, some_same}
use Rattle.up_log_tree.proofs.Trees.{has_key}
use Rattle.up_answers.specs.Needs.{Place}
use Rattle.up_mem_tree.specs.MemTrees.{TreeLog}
use Rattle.up_mem_tree.specs.Namings.{ChangesPath, IsFirstNaming, IsFrom}
use Rattle.up_mem_tree.specs.Others.{HasAllOthers, is_foreign}
use Rattle.up_foreign.specs.Foreign.{IsOwnChange, needed_in, places_at}
use Rattle.up_foreign.specs.Reaching.{AreLeft, AreLeftWhereMet, CoversNeeds, HasReadOnes, IsLeftAt, IsLeftWhereMet, IsNeededBy, IsRising, IsSoon, KeepsLeft, MayCover, is_unanswered}
use Rattle.up_foreign.specs.declared.left.Left.{Left}
use Rattle.up_foreign.proofs.EventLemmas.{own_at, own_changes, position_next}
use Rattle.up_foreign.proofs.NotedLemmas.{same_with}
use Rattle.up_foreign.proofs.ReachLemmas.{needed_known}

-- ---- what is left stays left

pub left_all : (left : List (PathName × ℕ)) → KeepsLeft left left
left_all left = record { each = λ n group there. there }

pub left_then : (one two three : List (PathName × ℕ)) → KeepsLeft one two → KeepsLeft two three → KeepsLeft one three
left_then one two three first last = record { each = λ n group there. last.each n group (first.each n group there) }

-- a group is put at a position that is not behind the one at which it was
module _ (old new : List (PathName × ℕ)) (group : PathName) (first : ℕ) (is : new ≡ put path_cmp group first old) where
  put_is : (q : PathName) → find path_cmp q new ≡ cond (eq_by_cmp path_cmp q group) (Some first) (find path_cmp q old)
  put_is q = ap (find path_cmp q) is ∙ find-put path_cmp path_cmp_total q group first old

  pub put_left : ((n : ℕ) → IsLeftAt old n group → first ≤ n) → KeepsLeft old new
  put_left early = record { each = λ n q there. subst (λ o. IsFrom o n) (sym (put_is q)) (go n q (eq_by_cmp path_cmp q group) refl there) }
    where
      go : (n : ℕ) (q : PathName) (b : Bool) → eq_by_cmp path_cmp q group ≡ b → IsLeftAt old n q → IsFrom (cond b (Some first) (find path_cmp q old)) n
      go n q true same there = early n (subst (IsLeftAt old n) (path_same q group (path_cmp_eq q group ∙ same)) there)
      go n q false other there = there

  pub put_here : (from : ℕ) → first ≤ from → (n : ℕ) → from ≤ n → IsLeftAt new n group
  put_here from early n late =
      let found : find path_cmp group new ≡ Some first = put_is group ∙ ap (λ o. cond (is_eq o) (Some first) (find path_cmp group old)) (tied_itself path_cmp_total group) in
      subst (λ o. IsFrom o n) (sym found) (omega (arith, early, late))

-- ---- groups that are left everywhere

module _ (owner : List ℕ) (loaded : Loading) where
  pub none_left : (left : List (PathName × ℕ)) → AreLeft owner loaded left []
  none_left left group there wanted n = absurd (no_member group there)

  pub still_left : (old new : List (PathName × ℕ)) (groups : List PathName) → KeepsLeft old new → AreLeft owner loaded old groups → AreLeft owner loaded new groups
  still_left old new groups kept told group there wanted n = kept.each n group (told group there wanted n)

  both_left : (left : List (PathName × ℕ)) (xs ys : List PathName) → AreLeft owner loaded left xs → AreLeft owner loaded left ys → AreLeft owner loaded left (xs ++ ys)
  both_left left xs ys one two group there wanted n = elim (Contains-append_cases xs ys group there) [ inl h ↦ one group h wanted n | inr h ↦ two group h wanted n ]

  -- one group
  pub one_left : (left : List (PathName × ℕ)) (group : PathName) → ((n : ℕ) → IsLeftAt left n group) → AreLeft owner loaded left (group ∷ [])
  one_left left group there q among wanted n = elim (Contains-cons group q [] among) [
    | inl same ↦ subst (IsLeftAt left n) same (there n)
    | inr none ↦ absurd (no_member q none)
  ]

  pub one_left_ok : {E : Type 0} (result : Result (Unit {0}) E) (left : List (PathName × ℕ)) (copy group : PathName) → copy ≡ group → OnOk result ((n : ℕ) → 0 ≤ n → IsLeftAt left n copy) → OnOk result (AreLeft owner loaded left (group ∷ []))
  one_left_ok (Ok done) left copy group same there = one_left left group (λ n. subst (IsLeftAt left n) same (there n (omega arith)))
  one_left_ok (Err fault) left copy group same there = tt

  -- one that has an answer
  pub one_answered : (left : List (PathName × ℕ)) (group : PathName) (b : Bool) → b ≡ is_unanswered owner loaded group → b ≡ false → AreLeft owner loaded left (group ∷ [])
  one_answered left group b is fails q among wanted n = elim (Contains-cons group q [] among) [
    | inl same ↦ absurd (false≢true (sym (sym is ∙ fails) ∙ subst (λ p. is_unanswered owner loaded p ≡ true) (sym same) wanted))
    | inr none ↦ absurd (no_member q none)
  ]

  -- one item more
  pub items_left : (items : List Item) (i : ℕ) (item : Item) → slice_get items i ≡ Some item → (old new : List (PathName × ℕ)) → KeepsLeft old new → AreLeft owner loaded old (groups_in (take i items)) →
      AreLeft owner loaded new (groups_in (item ∷ [])) → AreLeft owner loaded new (groups_in (take (i + 1) items))
  items_left items i item at old new kept before one =
      let taken : take (i + 1) items ≡ take i items ++ item ∷ [] = ap (λ m. take m items) (let e : i + 1 ≡ suc i = omega arith in e) ∙ take_next i items item at in
      subst (AreLeft owner loaded new) (sym (ap groups_in taken ∙ filter_map-append group_in (take i items) (item ∷ [])))
      (both_left new (groups_in (take i items)) (groups_in (item ∷ [])) (still_left old new (groups_in (take i items)) kept before) one)

  pub items_all_left : (items : List Item) (i : ℕ) (left : List (PathName × ℕ)) → length items ≤ i → AreLeft owner loaded left (groups_in (take i items)) → AreLeft owner loaded left (groups_in items)
  items_all_left items i left past told = subst (λ xs. AreLeft owner loaded left (groups_in xs)) (take_all i items past) told

  -- ---- of loaded texts

  -- one loaded text
  pub text_left : {E : Type 0} (name : PathName) (result : Result (Unit {0}) E) (items text : List Item) (left : List (PathName × ℕ)) → Some text ≡ loaded_text loaded name → items ≡ text →
      OnOk result (AreLeft owner loaded left (groups_in items)) → OnOk result (HasReadOnes owner loaded name left)
  text_left name (Ok done) items text left is same added = λ all at. subst (λ xs. AreLeft owner loaded left (groups_in xs)) (same ∙ some_same text all (is ∙ at)) added
  text_left name (Err fault) items text left is same added = tt

  pub text_unread : (name : PathName) (left : List (PathName × ℕ)) → None ≡ loaded_text loaded name → HasReadOnes owner loaded name left
  text_unread name left none = λ items at. absurd (some_none items (sym at ∙ sym none))

  -- the first loaded texts
  abbrev pub HaveReadOnes : List (PathName × ℕ) → ℕ → Type 0
  HaveReadOnes left i = (j : ℕ) (name : PathName) → j < i → slice_get (keys_of loaded) j ≡ Some name → HasReadOnes owner loaded name left

  pub read_none : (left : List (PathName × ℕ)) → HaveReadOnes left 0
  read_none left = λ j name less at. absurd (omega (arith, less))

  pub read_next : (i : ℕ) (name : PathName) → Some name ≡ slice_get (keys_of loaded) i → (old new : List (PathName × ℕ)) → KeepsLeft old new → HaveReadOnes old i → HasReadOnes owner loaded name new → HaveReadOnes new (i + 1)
  read_next i name is old new kept before one = λ j other less at items text. elim (cases_lt j i) [
    | inl low ↦ still_left old new (groups_in items) kept (before j other low at items text)
    | inr high ↦
        let here : j ≡ i = omega (arith, less, high) in
        let same : name ≡ other = some_same name other (is ∙ (ap (slice_get (keys_of loaded)) (sym here) ∙ at)) in
        (subst (λ p. HasReadOnes owner loaded p new) same one) items text
  ]

-- a text that was loaded has a name among them
named_at : (loaded : Loading) (name : PathName) (items : List Item) → loaded_text loaded name ≡ Some items → (j : ℕ) × (slice_get (keys_of loaded) j ≡ Some name)
named_at [] name items h = absurd (some_none items (sym h))
named_at (pair ∷ loaded) name items h = go (path_eq name pair.0) refl h (named_at loaded name items)
  where
    go : (b : Bool) → path_eq name pair.0 ≡ b → option_and_then text_in (cond b (Some pair.1) (answer_for loaded name)) ≡ Some items → (loaded_text loaded name ≡ Some items → (j : ℕ) × (slice_get (keys_of loaded) j ≡ Some name)) →
        (j : ℕ) × (slice_get (keys_of (pair ∷ loaded)) j ≡ Some name)
    go true same h rest = (0, ap Some (sym (path_same name pair.0 same)))
    go false apart h rest = let later = rest h in (suc later.0, later.1)

short : {X : Type 0} (n : ℕ) (xs : List X) → None ≡ slice_get xs n → length xs ≤ n
short n [] h = omega arith
short zero (x ∷ xs) h = absurd (some_none x (sym h))
short (suc n) (x ∷ xs) h = let e = short n xs h in omega (arith, e)

pub read_end : (owner : List ℕ) (loaded : Loading) (i : ℕ) (left : List (PathName × ℕ)) → None ≡ slice_get (keys_of loaded) i → HaveReadOnes owner loaded left i → (name : PathName) → HasReadOnes owner loaded name left
read_end owner loaded i left none told name = λ items text.
    let at = named_at loaded name items text in
    elim (cases_lt at.0 i) [
      | inl low ↦ told at.0 name low at.1 items text
      | inr high ↦ absurd (omega (arith, high, slice_get_within (keys_of loaded) at.0 name at.1, short i (keys_of loaded) none))
    ]

-- ---- groups that are left where they can be met

module _ (tree : TreeLog) (loaded : Loading) (path : PathName) (above : ℕ) where
  pub none_met : (left : List (PathName × ℕ)) → AreLeftWhereMet tree loaded path above left []
  none_met left group there = absurd (no_member group there)

  still_met : (old new : List (PathName × ℕ)) (group : PathName) → KeepsLeft old new → IsLeftWhereMet tree loaded path above old group → IsLeftWhereMet tree loaded path above new group
  still_met old new group kept told = record { each = λ wanted n m changed less le is under meets. kept.each n group (told.each wanted n m changed less le is under meets) }

  pub met_ok : {E : Type 0} (result : Result (Unit {0}) E) (old new : List (PathName × ℕ)) (groups : List PathName) → KeepsLeft old new → AreLeftWhereMet tree loaded path above old groups → OnOk result (AreLeftWhereMet tree loaded path above new groups)
  met_ok (Ok done) old new groups kept told = λ group there. still_met old new group kept (told group there)
  met_ok (Err fault) old new groups kept told = tt

  only_one : (left : List (PathName × ℕ)) (group : PathName) → IsLeftWhereMet tree loaded path above left group → AreLeftWhereMet tree loaded path above left (group ∷ [])
  only_one left group told q there = elim (Contains-cons group q [] there) [
    | inl same ↦ subst (IsLeftWhereMet tree loaded path above left) same told
    | inr none ↦ absurd (no_member q none)
  ]

  -- one that has an answer
  pub met_answered : (left : List (PathName × ℕ)) (group : PathName) (owner : List ℕ) (b : Bool) → owner ≡ tree.owner → b ≡ is_unanswered owner loaded group → b ≡ false → AreLeftWhereMet tree loaded path above left (group ∷ [])
  met_answered left group owner b same is fails = only_one left group (record { each = λ wanted n m changed less le it under meets. absurd (false≢true (sym (sym is ∙ fails) ∙ subst (λ o. is_unanswered o loaded group ≡ true) (sym same) wanted)) })

  is_other : (a b : Bool) → (not a && b) ≡ true → not a ≡ true
  is_other true b h = absurd (false≢true h)
  is_other false b h = refl

  foreign_of : (group : PathName) → is_unanswered tree.owner loaded group ≡ true → is_foreign tree.owner group ≡ true
  foreign_of group wanted = is_other (bytes_eq group.owner tree.owner) _ wanted

  -- one that can be met at none of the changes
  pub met_nowhere : (left : List (PathName × ℕ)) (group : PathName) (first : Option ℕ) → first ≡ None → (is_foreign tree.owner group ≡ true → IsFirstNaming tree.owner tree.log group path above first) → AreLeftWhereMet tree loaded path above left (group ∷ [])
  met_nowhere left group first none told = only_one left group (record {
    each = λ wanted n m changed less le is under meets.
        absurd (subst (λ o. IsFrom o n) none ((told (foreign_of group wanted)).each n m changed less le is under meets));
  })

  -- one that can be met from a position on
  pub met_from : {E : Type 0} (result : Result (Unit {0}) E) (left : List (PathName × ℕ)) (copy group : PathName) (first : Option ℕ) (from : ℕ) → copy ≡ group → first ≡ Some from →
      (is_foreign tree.owner group ≡ true → IsFirstNaming tree.owner tree.log group path above first) → OnOk result ((n : ℕ) → from ≤ n → IsLeftAt left n copy) → OnOk result (AreLeftWhereMet tree loaded path above left (group ∷ []))
  met_from (Ok done) left copy group first from same some told there = only_one left group (record {
    each = λ wanted n m changed less le is under meets.
        subst (IsLeftAt left n) same (there n (subst (λ o. IsFrom o n) some ((told (foreign_of group wanted)).each n m changed less le is under meets)));
  })
  met_from (Err fault) left copy group first from same some told there = tt

  -- one group more of a list
  pub met_next : (groups : List PathName) (i : ℕ) (group : PathName) → Some group ≡ slice_get groups i → (old new : List (PathName × ℕ)) → KeepsLeft old new → AreLeftWhereMet tree loaded path above old (take i groups) →
      AreLeftWhereMet tree loaded path above new (group ∷ []) → AreLeftWhereMet tree loaded path above new (take (i + 1) groups)
  met_next groups i group is old new kept before one =
      subst (AreLeftWhereMet tree loaded path above new) (sym (ap (λ m. take m groups) (let e : i + 1 ≡ suc i = omega arith in e) ∙ take_next i groups group (sym is)))
      (λ q there. elim (Contains-append_cases (take i groups) (group ∷ []) q there) [
        | inl h ↦ still_met old new q kept (before q h)
        | inr h ↦ one q h
      ])

  pub met_end : (groups : List PathName) (i : ℕ) (left : List (PathName × ℕ)) → None ≡ slice_get groups i → AreLeftWhereMet tree loaded path above left (take i groups) → AreLeftWhereMet tree loaded path above left groups
  met_end groups i left none told = subst (AreLeftWhereMet tree loaded path above left) (take_all i groups (short i groups none)) told

  -- ---- all that can be needed

  -- all that the tree's texts name and all that loaded texts name
  pub covers_all : (others : List PathName) (left : List (PathName × ℕ)) → HasAllOthers tree.owner tree.log others → AreLeftWhereMet tree loaded path above left others → ((name : PathName) → HasReadOnes tree.owner loaded name left) →
      CoversNeeds tree loaded path above left []
  covers_all others left told own read = record {
    each = λ n group need. inl (
        needed_known tree.owner tree.log others loaded need.m need.changed (IsLeftAt left n) told
        (λ q has_it wanted meets. (own q (Contains-from_among others q has_it)).each wanted n need.m need.changed need.late need.later need.is need.under meets)
        (λ q name items text named wanted. read name items text q named wanted n) group need.needed);
  }

  -- a name is taken out
  covers_without : (old new : List (PathName × ℕ)) (names : List PathName) (name : PathName) → Contains names name → new ≡ where_key path_cmp (λ other. not (eq_by_cmp path_cmp name other)) old →
      CoversNeeds tree loaded path above old names → CoversNeeds tree loaded path above new names
  covers_without old new names name known is covers = record { each = λ n group need. by n group (covers.each n group need) }
    where
      by : (n : ℕ) (q : PathName) → IsLeftAt old n q ⊎ Contains names q → IsLeftAt new n q ⊎ Contains names q
      by n q (inr there) = inr there
      by n q (inl there) = go (path_eq name q) refl
        where
          go : (b : Bool) → path_eq name q ≡ b → IsLeftAt new n q ⊎ Contains names q
          go true same = inr (subst (Contains names) (path_same name q same) known)
          go false apart = inl (subst (λ o. IsFrom o n) (sym (found apart)) there)
            where
              found : path_eq name q ≡ false → find path_cmp q new ≡ find path_cmp q old
              found apart =
                  ap (find path_cmp q) is
                  ∙ (find-where_key path_cmp (λ other. not (eq_by_cmp path_cmp name other)) q (λ x t. ap (λ other. not (eq_by_cmp path_cmp name other)) (sym (path_exact q x t))) old
                  ∙ ap (λ b. cond (not b) (find path_cmp q old) None) (sym (path_cmp_eq name q) ∙ apart))

  -- what is left after that was left before
  fewer_soon : (old new : List (PathName × ℕ)) (name : PathName) (soon : ℕ) → new ≡ where_key path_cmp (λ other. not (eq_by_cmp path_cmp name other)) old → IsSoon old soon → IsSoon new soon
  fewer_soon old new name soon is early n q there = early n q (go (eq_by_cmp path_cmp name q) (subst (λ o. IsFrom o n) found there))
    where
      found : find path_cmp q new ≡ cond (not (eq_by_cmp path_cmp name q)) (find path_cmp q old) None
      found = ap (find path_cmp q) is ∙ find-where_key path_cmp (λ other. not (eq_by_cmp path_cmp name other)) q (λ x t. ap (λ other. not (eq_by_cmp path_cmp name other)) (sym (path_exact q x t))) old

      go : (b : Bool) → IsFrom (cond (not b) (find path_cmp q old) None) n → IsLeftAt old n q
      go true none = absurd none
      go false there = there

  pub taken_out : (old new : Left) (names : List PathName) (name : PathName) → Contains names name → new.groups.entries ≡ where_key path_cmp (λ other. not (eq_by_cmp path_cmp name other)) old.groups.entries →
      new.soon ≡ old.soon → new.whole ≡ old.whole → MayCover tree loaded path above old names → MayCover tree loaded path above new names
  taken_out old new names name known is soon whole may = record {
    covers = λ all. covers_without old.groups.entries new.groups.entries names name known is (may.covers (sym whole ∙ all));
    soon = subst (IsSoon new.groups.entries) (sym soon) (fewer_soon old.groups.entries new.groups.entries name old.soon is may.soon);
  }

  -- the first position is looked for anew
  pub soon_anew : (old new : Left) (names : List PathName) → new.groups.entries ≡ old.groups.entries → new.whole ≡ old.whole → IsSoon new.groups.entries new.soon → MayCover tree loaded path above old names → MayCover tree loaded path above new names
  soon_anew old new names same whole soon may = record {
    covers = λ all. subst (λ left. CoversNeeds tree loaded path above left names) (sym same) (may.covers (sym whole ∙ all));
    soon = soon;
  }

  -- names in front of none, and more names
  pub may_cover_any : (left : Left) (names : List PathName) → MayCover tree loaded path above left [] → MayCover tree loaded path above left names
  may_cover_any left names may = record {
    covers = λ all. record { each = λ n q need. elim ((may.covers all).each n q need) [ inl there ↦ inl there | inr none ↦ absurd (no_member q none) ] };
    soon = may.soon;
  }

  pub may_cover_more : (left : Left) (names more now : List PathName) → now ≡ with_paths names more → MayCover tree loaded path above left names → MayCover tree loaded path above left now
  may_cover_more left names more now is may = record {
    covers = λ all. record { each = λ n q need. elim ((may.covers all).each n q need) [ inl there ↦ inl there | inr there ↦ inr (subst (λ ns. Contains ns q) (sym is) (with_paths-keeps names more q there)) ] };
    soon = may.soon;
  }

  -- what is passed over needs nothing that is not found
  pub passed_found : (left : Left) (names : List PathName) → left.whole ≡ true → MayCover tree loaded path above left names → (n : ℕ) (group : PathName) → n < left.soon → IsNeededBy tree loaded path above n group → Contains names group
  passed_found left names whole may n group less need = elim ((may.covers whole).each n group need) [
    | inl there ↦ absurd (let late : left.soon ≤ n = may.soon n group there in omega (arith, less, late))
    | inr there ↦ there
  ]

-- ---- the first position of those that are left

-- it is not behind that of a group, for each of the first
abbrev pub AreSoon : List (PathName × ℕ) → ℕ → ℕ → Type 0
AreSoon left i soon = (j n : ℕ) (group : PathName) → j < i → slice_get (keys_of left) j ≡ Some group → IsLeftAt left n group → soon ≤ n

pub soon_none : (left : List (PathName × ℕ)) (soon : ℕ) → AreSoon left 0 soon
soon_none left soon = λ j n group less at there. absurd (omega (arith, less))

pub soon_next : (left : List (PathName × ℕ)) (i : ℕ) (group : PathName) (from old new : ℕ) → slice_get (keys_of left) i ≡ Some group → find path_cmp group left ≡ Some from → new ≤ old → new ≤ from → AreSoon left i old → AreSoon left (i + 1) new
soon_next left i group from old new at found less lower before = λ j n other low here there. elim (cases_lt j i) [
  | inl early ↦ let e : old ≤ n = before j n other early here there in omega (arith, e, less)
  | inr late ↦
      let same_place : j ≡ i = omega (arith, low, late) in
      let same : other ≡ group = some_same other group (sym here ∙ (ap (slice_get (keys_of left)) same_place ∙ at)) in
      let e : from ≤ n = subst (λ o. IsFrom o n) found (subst (IsLeftAt left n) same there) in
      omega (arith, e, lower)
]

-- the group at a place
pub key_there : (left : List (PathName × ℕ)) (i : ℕ) → i < length left → (group : PathName) × (slice_get (keys_of left) i ≡ Some group)
key_there [] i within = absurd (omega (arith, within))
key_there (e ∷ left) zero within = (e.0, refl)
key_there (e ∷ left) (suc i) within = key_there left i (omega (arith, within))

-- a group that is left has a place
placed : (left : List (PathName × ℕ)) (group : PathName) (n : ℕ) → IsLeftAt left n group → (j : ℕ) × (slice_get (keys_of left) j ≡ Some group)
placed left group n there = at (keys_of left) (has_key left group ∙ some (find path_cmp group left) there)
  where
    some : (o : Option ℕ) → IsFrom o n → is_some o ≡ true
    some None none = absurd none
    some (Some from) there = refl

    at : (paths : List PathName) → has paths group ≡ true → (j : ℕ) × (slice_get paths j ≡ Some group)
    at [] h = absurd (false≢true h)
    at (p ∷ paths) h = go (path_eq group p) refl h (at paths)
      where
        go : (b : Bool) → path_eq group p ≡ b → (b || has paths group) ≡ true → (has paths group ≡ true → (j : ℕ) × (slice_get paths j ≡ Some group)) → (j : ℕ) × (slice_get (p ∷ paths) j ≡ Some group)
        go true same h rest = (0, ap Some (sym (path_same group p same)))
        go false apart h rest = let found = rest h in (suc found.0, found.1)

pub soon_end : (left : List (PathName × ℕ)) (i soon : ℕ) → length left ≤ i → AreSoon left i soon → IsSoon left soon
soon_end left i soon past told = λ n group there.
    let at = placed left group n there in
    let within : at.0 < length (keys_of left) = slice_get_within (keys_of left) at.0 group at.1 in
    let long : length (keys_of left) ≡ length left = length_keys left in
    told at.0 n group (omega (arith, within, long, past)) at.1 there
  where
    length_keys : (es : List (PathName × ℕ)) → length (keys_of es) ≡ length es
    length_keys [] = refl
    length_keys (e ∷ es) = ap suc (length_keys es)

-- ---- positions that rise

module _ (test : Rec → Bool) where
  behind_all : (k n : ℕ) (records : List Rec) (j m : ℕ) → k ≤ n → slice_get (positions_of test n records) j ≡ Some m → k < m
  behind_all k n [] j m le at = absurd (some_none m (sym at))
  behind_all k n (rec ∷ records) j m le at = go (test rec) j at (behind_all k (suc n) records)
    where
      go : (b : Bool) (j : ℕ) → slice_get (cond b (suc n ∷ positions_of test (suc n) records) (positions_of test (suc n) records)) j ≡ Some m →
          ((j m : ℕ) → k ≤ suc n → slice_get (positions_of test (suc n) records) j ≡ Some m → k < m) → k < m
      go true zero at rest = let e : suc n ≡ m = some_same (suc n) m at in omega (arith, e, le)
      go true (suc j) at rest = rest j m (omega (arith, le)) at
      go false j at rest = rest j m (omega (arith, le)) at

  rising_from : (n : ℕ) (records : List Rec) → IsRising (positions_of test n records)
  rising_from n [] = record { each = λ i j a b le at_i at_j. absurd (some_none a (sym at_i)) }
  rising_from n (rec ∷ records) = go (test rec) (rising_from (suc n) records)
    where
      go : (b : Bool) → IsRising (positions_of test (suc n) records) → IsRising (cond b (suc n ∷ positions_of test (suc n) records) (positions_of test (suc n) records))
      go false rest = rest
      go true rest = record { each = by }
        where
          by : (i j a b : ℕ) → i ≤ j → slice_get (suc n ∷ positions_of test (suc n) records) i ≡ Some a → slice_get (suc n ∷ positions_of test (suc n) records) j ≡ Some b → a ≤ b
          by zero zero a b le at_i at_j = let e : a ≡ b = some_same a b (sym at_i ∙ at_j) in omega (arith, e)
          by zero (suc j) a b le at_i at_j =
              let e : suc n ≡ a = some_same (suc n) a at_i in
              let later : suc n < b = behind_all (suc n) (suc n) records j b (omega arith) at_j in
              omega (arith, e, later)
          by (suc i) zero a b le at_i at_j = absurd (omega (arith, le))
          by (suc i) (suc j) a b le at_i at_j = rest.each i j a b (omega (arith, le)) at_i at_j

pub rising_changes : (records : List Rec) (path : PathName) (above : ℕ) (positions : List ℕ) → positions ≡ changes_under records path above → IsRising positions
unfolding changes_under
rising_changes records path above positions are = subst IsRising (sym are) (rising_from (changes_some (λ name. is_under name path)) above (drop above records))

-- those up to a place that is before are before too
pub lower_before : (positions : List ℕ) (middle soon m : ℕ) → IsRising positions → slice_get positions middle ≡ Some m → m < soon → (k n : ℕ) → k < middle + 1 → slice_get positions k ≡ Some n → n < soon
lower_before positions middle soon m rising at less k n low here = let e : n ≤ m = rising.each k middle n m (omega (arith, low)) here at in omega (arith, e, less)

-- ---- what the changes are

-- each of the positions is above, and its record changes a path under
module _ (test : PathName → Bool) where
  changes_pass : (n : ℕ) (records rest : List Rec) (j m : ℕ) → drop n records ≡ rest → slice_get (positions_of (changes_some test) n rest) j ≡ Some m →
      (changed : PathName) → ChangesPath records m changed → test changed ≡ true
  changes_pass n records [] j m is at changed it = absurd (some_none m (sym at))
  changes_pass n records (rec ∷ rest) j m is at changed it = go (changes_some test rec) refl j at (changes_pass (suc n) records rest)
    where
      head_at : (n : ℕ) (xs : List Rec) → drop n xs ≡ rec ∷ rest → slice_get xs n ≡ Some rec
      head_at zero [] is = absurd (cc)
      head_at zero (x ∷ xs) is = ap (λ l. slice_get l 0) is
      head_at (suc n) [] is = absurd (cc)
      head_at (suc n) (x ∷ xs) is = head_at n xs is

      behind : (n : ℕ) (xs : List Rec) → drop n xs ≡ rec ∷ rest → drop (suc n) xs ≡ rest
      behind zero [] is = absurd (cc)
      behind zero (x ∷ xs) is = ap (drop 1) is
      behind (suc n) [] is = absurd (cc)
      behind (suc n) (x ∷ xs) is = behind n xs is

      here : changes_some test rec ≡ true → ChangesPath records (suc n) changed → test changed ≡ true
      here passes it = sym (ap (λ o. elim o as (λ _. Bool) [ None ↦ false | Some p ↦ test p ]) (sym (ap (option_and_then path_of_change) (head_at n records is)) ∙ it)) ∙ passes

      go : (b : Bool) → changes_some test rec ≡ b → (j : ℕ) → slice_get (cond b (suc n ∷ positions_of (changes_some test) (suc n) rest) (positions_of (changes_some test) (suc n) rest)) j ≡ Some m →
          ((j m : ℕ) → drop (suc n) records ≡ rest → slice_get (positions_of (changes_some test) (suc n) rest) j ≡ Some m → (changed : PathName) → ChangesPath records m changed → test changed ≡ true) → test changed ≡ true
      go true passes zero at more = here passes (subst (λ k. ChangesPath records k changed) (sym (some_same (suc n) m at)) it)
      go true passes (suc j) at more = more j m (behind n records is) at changed it
      go false fails j at more = more j m (behind n records is) at changed it

pub change_under : (records : List Rec) (path : PathName) (above : ℕ) (positions : List ℕ) → positions ≡ changes_under records path above → (k n : ℕ) → slice_get positions k ≡ Some n →
    (above < n) × ((changed : PathName) → ChangesPath records n changed → is_under changed path ≡ true)
unfolding changes_under
change_under records path above positions are k n at =
    let here = ap (λ ps. slice_get ps k) (sym are) ∙ at in
    (behind_all (changes_some (λ name. is_under name path)) above above (drop above records) k n (omega arith) here, changes_pass (λ name. is_under name path) above records (drop above records) k n refl here)

-- ---- the positions that are passed over add nothing

-- what is needed at the first positions is noted
abbrev pub HasNoted : TreeLog → Loading → List ℕ → List PathName → List PathName → ℕ → Type 0
HasNoted tree loaded positions old names i = names ≡ with_paths old (flat_map (needed_in tree.owner loaded) (flat_map (places_at tree.log) (take i positions)))

-- at all of them
pub all_noted : (tree : TreeLog) (loaded : Loading) (positions : List ℕ) (old names : List PathName) (i : ℕ) → None ≡ slice_get positions i → HasNoted tree loaded positions old names i →
    names ≡ with_paths old (flat_map (needed_in tree.owner loaded) (flat_map (places_at tree.log) positions))
all_noted tree loaded positions old names i none told = told ∙ ap (λ ps. with_paths old (flat_map (needed_in tree.owner loaded) (flat_map (places_at tree.log) ps))) (take_all i positions (short i positions none))

-- each of them is a change of the owner's
pub own_there : (tree : TreeLog) (path : PathName) (above : ℕ) (positions : List ℕ) (i n : ℕ) → path.owner ≡ tree.owner → positions ≡ changes_under tree.log path above → slice_get positions i ≡ Some n → IsOwnChange tree n
own_there tree path above positions i n owned are at =
    subst (IsOwnChange tree) (get_or_from_slice_get positions i n 0 at)
    (own_at tree positions i 0 (own_changes tree path above positions owned are) (slice_get_within positions i n at))

module _ (tree : TreeLog) (loaded : Loading) (path : PathName) (above : ℕ) (positions : List ℕ) (are : positions ≡ changes_under tree.log path above) where
  -- what is needed at a change
  needed_at : (n : ℕ) → above < n → ((changed : PathName) → ChangesPath tree.log n changed → is_under changed path ≡ true) → (group : PathName) → Contains (flat_map (needed_in tree.owner loaded) (places_at tree.log n)) group →
      IsNeededBy tree loaded path above n group
  needed_at n late under group there = go (option_and_then path_of_change (record_at tree.log n)) refl there
    where
      go : (o : Option PathName) → option_and_then path_of_change (record_at tree.log n) ≡ o →
          Contains (flat_map (needed_in tree.owner loaded) (elim o as (λ _. List Place) [ None ↦ [] | Some path ↦ (tree_of tree.log, path) ∷ (tree_at tree.log n, path) ∷ [] ])) group → IsNeededBy tree loaded path above n group
      go None none there = absurd (no_member group there)
      go (Some changed) is there = elim (Contains-append_cases (needed_in tree.owner loaded (tree_of tree.log, changed)) (needed_in tree.owner loaded (tree_at tree.log n, changed) ++ []) group there) [
        | inl now ↦ record {
          late = late;
          changed = changed;
          is = is;
          under = under changed is;
          m = length tree.log + n;
          later = omega arith;
          needed = subst (λ t. Contains (needed_in tree.owner loaded (t, changed)) group) (sym (ap tree_of (take_all (length tree.log + n) tree.log (omega arith)))) now;
        }
        | inr rest ↦ elim (Contains-append_cases (needed_in tree.owner loaded (tree_at tree.log n, changed)) [] group rest) [
          | inl before ↦ record { late = late; changed = changed; is = is; under = under changed is; m = n; later = omega arith; needed = before }
          | inr none ↦ absurd (no_member group none)
        ]
      ]

  module _ (old names : List PathName) where
    abbrev HasIt : ℕ → Type 0
    HasIt = HasNoted tree loaded positions old names

    one_more : (i : ℕ) → ((n : ℕ) (group : PathName) → slice_get positions i ≡ Some n → IsNeededBy tree loaded path above n group → Contains names group) → HasIt i → HasIt (i + 1)
    one_more i found so_far = go (slice_get positions i) refl
      where
        go : (o : Option ℕ) → slice_get positions i ≡ o → HasIt (i + 1)
        go None none =
            let past : length positions ≤ i = short i positions (sym none) in
            so_far ∙ ap (λ ps. with_paths old (flat_map (needed_in tree.owner loaded) (flat_map (places_at tree.log) ps))) (take_all i positions past ∙ sym (take_all (i + 1) positions (omega (arith, past))))
        go (Some n) at =
            let is = change_under tree.log path above positions are i n at in
            position_next (needed_in tree.owner loaded) tree.log positions i n old names names at so_far
            (sym (same_with names (flat_map (needed_in tree.owner loaded) (places_at tree.log n)) (λ q there. found n q at (needed_at n is.0 is.1 q there))))

    passed : (d i : ℕ) → ((k n : ℕ) (group : PathName) → i ≤ k → k < i + d → slice_get positions k ≡ Some n → IsNeededBy tree loaded path above n group → Contains names group) → HasIt i → HasIt (i + d)
    passed zero i found so_far = subst HasIt (let e : i ≡ i + 0 = omega arith in e) so_far
    passed (suc d) i found so_far =
        subst HasIt (let e : (i + d) + 1 ≡ i + suc d = omega arith in e)
        (one_more (i + d) (λ n q. found (i + d) n q (omega arith) (omega arith)) (passed d i (λ k n q low high. found k n q low (omega (arith, high))) so_far))

    pub passed_over : (i j : ℕ) → i ≤ j → ((k n : ℕ) (group : PathName) → i ≤ k → k < j → slice_get positions k ≡ Some n → IsNeededBy tree loaded path above n group → Contains names group) → HasIt i → HasIt j
    passed_over i j le found so_far =
        let d : j ≡ i + (j - i) = omega (arith, le) in
        subst HasIt (sym d) (passed (j - i) i (λ k n q low high. found k n q low (omega (arith, high, d))) so_far)
