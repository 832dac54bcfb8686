-- What is needed stays needed until it is loaded.
use Rattle.std.proofs.Common.{◌≡◌, ◌&&◌, ◌<◌, ◌≤◌, ℕ, zero, suc, Bool, true, false, not, cond, List, [], ◌∷◌, ◌++◌, length, refl, sym, ap, subst, ◌∙◌, inl, inr, arith, Option, Some, None, Result, Ok, Err, slice_get, bytes_eq, unwrap_or}
use Rattle.std.specs.Prelude.{Contains, filter, is_none, if◌then◌else◌}
use Rattle.std.specs.List.{flat_map}
use Rattle.std.specs.Map.{keys_of}
use Rattle.std.specs.Option.{option_and_then}
use Rattle.std.proofs.lemmas.Bool.{false≢true}
use Rattle.std.proofs.lemmas.List.Elements.{Contains-append_cases}
use Rattle.up_access.specs.declared.Rule.{Rule}
use Rattle.up_answers.specs.Needs.{Place, needed_at, needs, needs_asked, places_for}
use Rattle.up_entry.specs.declared.fault.EntryFault.{EntryFault}
use Rattle.up_list.specs.Asking.{asked_of}
use Rattle.up_list.specs.declared.asking.ReadRequest.{ReadRequest}
use Rattle.up_names.specs.PathNames.{PathName}
use Rattle.up_names.specs.PathOrder.{path_eq}
use Rattle.up_names.specs.Texts.{UserName}
use Rattle.up_names.specs.declared.items.Item.{Item}
use Rattle.up_policy.proofs.PathLists.{Contains-at, Contains-behind, Contains-cons, Contains-flat_map, Contains-head, no_member, place_of, with_paths-cases, with_paths-has}
use Rattle.up_policy.proofs.ReachedLemmas.{Lists, look_at, look_past, looked_closed, met_reached, reached_whole}
use Rattle.up_policy.proofs.VerdictLemmas.{lists_texts}
use Rattle.up_policy.specs.Governors.{governor}
use Rattle.up_policy.specs.Laws.{HasTextsOf, ListsGroups}
use Rattle.up_policy.specs.Loadings.{Loading, answer_for, loaded_text, text_in}
use Rattle.up_policy.specs.Members.{groups_in, names_in, text_of}
use Rattle.up_policy.specs.Reached.{groups_named, is_wanted, met_after, needed, needed_by, reached}
use Rattle.up_policy.specs.Trees.{TreeFacts}
use Rattle.up_policy.specs.declared.load_answer.LoadAnswer.{LoadAnswer}
use Rattle.up_log_tree.proofs.Paths.{some_none}
use Rattle.up_log_tree.specs.Logs.{Log}
use Rattle.up_log_tree.specs.Rights.{facts_of, group_paths}
use Rattle.up_wire.specs.declared.requests.Request.{Request}

-- ---- lists

-- what passes is kept, and what is kept passes
pub kept_by : {X : Type 0} (test : X → Bool) (xs : List X) (x : X) → Contains (filter test xs) x → Contains xs x × (test x ≡ true)
kept_by test [] x h = absurd (no_member x h)
kept_by test (y ∷ xs) x h = go (test y) refl h (kept_by test xs x)
  where
    go : (b : Bool) → test y ≡ b → Contains (cond b (y ∷ filter test xs) (filter test xs)) x → (Contains (filter test xs) x → Contains xs x × (test x ≡ true)) → Contains (y ∷ xs) x × (test x ≡ true)
    go true e h rest = elim (Contains-cons y x (filter test xs) h) [
      | inl same ↦ (subst (Contains (y ∷ xs)) same (Contains-head y xs), ap test (sym same) ∙ e)
      | inr behind ↦ let r = rest behind in (Contains-behind y x xs r.0, r.1)
    ]
    go false e h rest = let r = rest h in (Contains-behind y x xs r.0, r.1)

pub keeps : {X : Type 0} (test : X → Bool) (xs : List X) (x : X) → Contains xs x → test x ≡ true → Contains (filter test xs) x
keeps test [] x h passes = absurd (no_member x h)
keeps test (y ∷ xs) x h passes = go (test y) refl (λ there. keeps test xs x there passes)
  where
    go : (b : Bool) → test y ≡ b → (Contains xs x → Contains (filter test xs) x) → Contains (cond b (y ∷ filter test xs) (filter test xs)) x
    go true e rest = elim (Contains-cons y x xs h) [
      | inl same ↦ subst (Contains (y ∷ filter test xs)) same (Contains-head y (filter test xs))
      | inr behind ↦ Contains-behind y x (filter test xs) (rest behind)
    ]
    go false e rest = elim (Contains-cons y x xs h) [
      | inl same ↦ absurd (false≢true (sym e ∙ ap test same ∙ passes))
      | inr behind ↦ rest behind
    ]

pub in_flat : {X Y : Type 0} (f : X → List Y) (xs : List X) (y : Y) → Contains (flat_map f xs) y → (x : X) × Contains xs x × Contains (f x) y
in_flat f [] y h = absurd (no_member y h)
in_flat f (x ∷ xs) y h = elim (Contains-append_cases (f x) (flat_map f xs) y h) [
  | inl here ↦ (x, Contains-head x xs, here)
  | inr there ↦ let r = in_flat f xs y there in (r.0, Contains-behind x r.0 xs r.1, r.2)
]

-- ---- more texts reach no less

module _ (less more : PathName → Option (List Item)) (kept : (group : PathName) (items : List Item) → less group ≡ Some items → more group ≡ Some items) (starts listed : List PathName) (whole : Lists more listed) where
  names_kept : (group next : PathName) → Contains (names_in less group) next → Contains (names_in more group) next
  names_kept group next h = by (less group) refl h
    where
      by : (text : Option (List Item)) → less group ≡ text → Contains (groups_in (unwrap_or text [])) next → Contains (names_in more group) next
      by None e h = absurd (no_member next h)
      by (Some items) e h = subst (λ (o : Option (List Item)). Contains (groups_in (unwrap_or o [])) next) (sym (kept group items e)) h

  within : (xs : List PathName) (k : ℕ) (x : PathName) → slice_get xs k ≡ Some x → k < length xs
  within [] k x h = absurd (some_none x (sym h))
  within (y ∷ xs) zero x h = omega arith
  within (y ∷ xs) (suc k) x h = let rest = within xs k x h in omega (arith, rest)

  closed : (group next : PathName) → Contains (reached more listed starts) group → Contains (names_in more group) next → Contains (reached more listed starts) next
  closed group next there named =
      let is = reached_whole more starts listed whole in
      let at = place_of (reached more listed starts) group there in
      let short : at.0 < length (reached more listed starts) = within (reached more listed starts) at.0 group at.1 in
      subst (λ met. Contains met next) (sym is.1)
      (looked_closed more starts is.0 at.0 group next (let low : length (reached more listed starts) ≤ is.0 = is.2 in omega (arith, short, low)) (ap (λ met. slice_get met at.0) (sym is.1) ∙ at.1) named)

  step : (n : ℕ) (group : PathName) → Contains (met_after less starts (suc n)) group → ((other : PathName) → Contains (met_after less starts n) other → Contains (reached more listed starts) other) → Contains (reached more listed starts) group
  step n group h before = by (slice_get (met_after less starts n) n) refl
    where
      by : (found : Option PathName) → slice_get (met_after less starts n) n ≡ found → Contains (reached more listed starts) group
      by None e = before group (subst (λ met. Contains met group) (look_past less n (met_after less starts n) e) h)
      by (Some first) e = elim (with_paths-cases (met_after less starts n) (names_in less first) group (subst (λ met. Contains met group) (look_at less n (met_after less starts n) first e) h)) [
        | inl old ↦ before group old
        | inr named ↦ closed first group (before first (Contains-at (met_after less starts n) n first e)) (names_kept first group named)
      ]

  pub reaches : (n : ℕ) (group : PathName) → Contains (met_after less starts n) group → Contains (reached more listed starts) group
  reaches zero group h = elim (with_paths-cases [] starts group h) [
    | inl none ↦ absurd (no_member group none)
    | inr there ↦ met_reached more starts listed whole 0 group (with_paths-has [] starts group there)
  ]
  reaches (suc n) group h = step n group h (reaches n)

-- ---- loadings that grow

answer_cond : (b : Bool) (x : LoadAnswer) (rest : Option LoadAnswer) (answer : LoadAnswer) (rest_more : Option LoadAnswer) → (rest ≡ Some answer → rest_more ≡ Some answer) → cond b (Some x) rest ≡ Some answer → cond b (Some x) rest_more ≡ Some answer
answer_cond true x rest answer rest_more f h = h
answer_cond false x rest answer rest_more f h = f h

pub answer_kept : (before more : Loading) (name : PathName) (answer : LoadAnswer) → answer_for before name ≡ Some answer → answer_for (before ++ more) name ≡ Some answer
answer_kept [] more name answer h = absurd (some_none answer (sym h))
answer_kept (pair ∷ before) more name answer h =
    answer_cond (path_eq name pair.0) pair.1 (answer_for before name) answer (answer_for (before ++ more) name) (answer_kept before more name answer) h

texts_kept : (before more : Loading) → HasTextsOf (before ++ more) before
texts_kept before more group items h = go (answer_for before group) refl h
  where
    go : (o : Option LoadAnswer) → answer_for before group ≡ o → option_and_then text_in o ≡ Some items → loaded_text (before ++ more) group ≡ Some items
    go None e h = absurd (some_none items (sym h))
    go (Some answer) e h = ap (option_and_then text_in) (answer_kept before more group answer e) ∙ h

each_kept : (tree : TreeFacts) (before more : Loading) (group : PathName) (items : List Item) → text_of tree before group ≡ Some items → text_of tree (before ++ more) group ≡ Some items
each_kept tree before more group items h = from (bytes_eq group.owner tree.owner) h
  where
    from : (own : Bool) → (if own then tree.group group else loaded_text before group) ≡ Some items → (if own then tree.group group else loaded_text (before ++ more) group) ≡ Some items
    from true h = h
    from false h = texts_kept before more group items h

and_first : (a b : Bool) → (a && b) ≡ true → (a ≡ true) × (b ≡ true)
and_first true b h = (refl, h)
and_first false b h = absurd (false≢true h)

wanted_still : (tree : TreeFacts) (before more : Loading) (name : PathName) → is_wanted tree before name ≡ true → answer_for (before ++ more) name ≡ None → is_wanted tree (before ++ more) name ≡ true
wanted_still tree before more name h none =
    ap (λ (o : Option LoadAnswer). not (bytes_eq name.owner tree.owner) && is_none o) none ∙ and_true (not (bytes_eq name.owner tree.owner)) (and_first (not (bytes_eq name.owner tree.owner)) (is_none (answer_for before name)) h).0
  where
    and_true : (b : Bool) → b ≡ true → (b && true) ≡ true
    and_true true e = refl
    and_true false e = e

-- what is wanted has no answer
none_yet : (o : Option LoadAnswer) → is_none o ≡ true → o ≡ None
none_yet None h = refl
none_yet (Some answer) h = absurd (false≢true h)

module _ (tree : TreeFacts) (listed : List PathName) (lists : ListsGroups tree listed) where
  needed_by_more : (before more : Loading) (rules : List Rule) (name : PathName) → Contains (needed_by tree listed before rules) name → answer_for (before ++ more) name ≡ None → Contains (needed_by tree listed (before ++ more) rules) name
  unfolding needed_by
  needed_by_more before more rules name h none =
      let was = kept_by (is_wanted tree before) (reached (text_of tree before) (listed ++ keys_of before) (groups_named rules)) name h in
      let is = reached_whole (text_of tree before) (groups_named rules) (listed ++ keys_of before) (lists_texts tree listed before lists) in
      keeps (is_wanted tree (before ++ more)) (reached (text_of tree (before ++ more)) (listed ++ keys_of (before ++ more)) (groups_named rules)) name
      (reaches (text_of tree before) (text_of tree (before ++ more)) (each_kept tree before more) (groups_named rules) (listed ++ keys_of (before ++ more)) (lists_texts tree listed (before ++ more) lists) is.0 name
      (subst (λ met. Contains met name) is.1 was.0))
      (wanted_still tree before more name was.1 none)

  needed_new : (before : Loading) (rules : List Rule) (name : PathName) → Contains (needed_by tree listed before rules) name → answer_for before name ≡ None
  unfolding needed_by
  needed_new before rules name h =
      let was = kept_by (is_wanted tree before) (reached (text_of tree before) (listed ++ keys_of before) (groups_named rules)) name h in
      none_yet (answer_for before name) (and_first (not (bytes_eq name.owner tree.owner)) (is_none (answer_for before name)) was.1).1

  pub needed_more : (before more : Loading) (path name : PathName) → Contains (needed tree listed before path) name → answer_for (before ++ more) name ≡ None → Contains (needed tree listed (before ++ more) path) name
  unfolding needed
  needed_more before more path name h none = by (governor tree path) h
    where
      by : (text : Option (List Rule)) → Contains (elim text as (λ _. List PathName) [ None ↦ [] | Some rules ↦ needed_by tree listed before rules ]) name
          → Contains (elim text as (λ _. List PathName) [ None ↦ [] | Some rules ↦ needed_by tree listed (before ++ more) rules ]) name
      by None h = absurd (no_member name h)
      by (Some rules) h = needed_by_more before more rules name h none

  pub needed_is_new : (before : Loading) (path name : PathName) → Contains (needed tree listed before path) name → answer_for before name ≡ None
  unfolding needed
  needed_is_new before path name h = by (governor tree path) h
    where
      by : (text : Option (List Rule)) → Contains (elim text as (λ _. List PathName) [ None ↦ [] | Some rules ↦ needed_by tree listed before rules ]) name → answer_for before name ≡ None
      by None h = absurd (no_member name h)
      by (Some rules) h = needed_new before rules name h

-- ---- a request

module _ (log : Log) (user : UserName) (request : Request) (lists : (asked : ReadRequest) (place : Place) → Contains (places_for log user asked) place → ListsGroups (facts_of log.owner place.0) (group_paths place.0)) where
  asked_more : (asked : ReadRequest) (before more : Loading) (name : PathName) → Contains (needs_asked log before user asked) name → answer_for (before ++ more) name ≡ None → Contains (needs_asked log (before ++ more) user asked) name
  unfolding needs_asked
  asked_more asked before more name h none = elim (with_paths-cases [] (flat_map (needed_at log before) (places_for log user asked)) name h) [
    | inl none ↦ absurd (no_member name none)
    | inr there ↦
        let at = in_flat (needed_at log before) (places_for log user asked) name there in
        with_paths-has [] (flat_map (needed_at log (before ++ more)) (places_for log user asked)) name
        (Contains-flat_map (needed_at log (before ++ more)) (places_for log user asked) at.0 name at.1
        (needed_more (facts_of log.owner at.0.0) (group_paths at.0.0) (lists asked at.0 at.1) before more at.0.1 name at.2 none))
  ]

  asked_new : (asked : ReadRequest) (before : Loading) (name : PathName) → Contains (needs_asked log before user asked) name → answer_for before name ≡ None
  unfolding needs_asked
  asked_new asked before name h = elim (with_paths-cases [] (flat_map (needed_at log before) (places_for log user asked)) name h) [
    | inl none ↦ absurd (no_member name none)
    | inr there ↦
        let at = in_flat (needed_at log before) (places_for log user asked) name there in
        needed_is_new (facts_of log.owner at.0.0) (group_paths at.0.0) (lists asked at.0 at.1) before at.0.1 name at.2
  ]

  pub needs_more : (before more : Loading) (name : PathName) → Contains (needs log before user request) name → answer_for (before ++ more) name ≡ None → Contains (needs log (before ++ more) user request) name
  unfolding needs
  needs_more before more name h none = by (asked_of user request) h
    where
      by : (asked : Result ReadRequest EntryFault) → Contains (elim asked as (λ _. List PathName) [ Ok asked ↦ needs_asked log before user asked | Err fault ↦ [] ]) name
          → Contains (elim asked as (λ _. List PathName) [ Ok asked ↦ needs_asked log (before ++ more) user asked | Err fault ↦ [] ]) name
      by (Ok asked) h = asked_more asked before more name h none
      by (Err fault) h = absurd (no_member name h)

  pub needs_new : (before : Loading) (name : PathName) → Contains (needs log before user request) name → answer_for before name ≡ None
  unfolding needs
  needs_new before name h = by (asked_of user request) h
    where
      by : (asked : Result ReadRequest EntryFault) → Contains (elim asked as (λ _. List PathName) [ Ok asked ↦ needs_asked log before user asked | Err fault ↦ [] ]) name → answer_for before name ≡ None
      by (Ok asked) h = asked_new asked before name h
      by (Err fault) h = absurd (no_member name h)
