-- Which groups can be needed at all: those of other owners that the tree's texts name, and those that loaded texts name.
use Rattle.std.proofs.Common.{◌≡◌, ℕ, zero, suc, ◌+◌, ◌≤◌, ◌==◌, Bool, true, false, not, cond, ◌&&◌, List, [], ◌∷◌, ◌++◌, length, filter, map, refl, sym, ap, subst, ◌∙◌, inl, inr, arith, Option, Some, None}
use Rattle.std.specs.Prelude.{Contains, ℤ, pos, negsuc, nat_lt, if◌then◌else◌, slice_get, unwrap_or}
use Rattle.std.specs.List.{AllByRecursion, flat_map}
use Rattle.std.specs.Map.{keys_of}
use Rattle.std.specs.Option.{option_or}
use Rattle.std.specs.Str.{bytes_eq}
use Rattle.std.proofs.lemmas.Bool.{eqb-true, false≢true}
use Rattle.std.proofs.lemmas.List.{take_all}
use Rattle.up_names.specs.PathNames.{PathName, control_of, cut, is_under}
use Rattle.up_names.specs.declared.items.Item.{Item}
use Rattle.up_access.specs.declared.Rule.{Rule}
use Rattle.up_entry.specs.ControlFiles.{is_ordinary}
use Rattle.up_entry.specs.declared.records.Rec.{Rec}
use Rattle.up_policy.specs.Governors.{first_text, governor, prefixes, prefixes_to}
use Rattle.up_policy.specs.Loadings.{Loading, loaded_text}
use Rattle.up_policy.specs.Members.{groups_in, names_in, text_of}
use Rattle.up_policy.specs.Reached.{groups_named, is_wanted, met_after, nameable, needed, needed_by, reached, with_paths}
use Rattle.up_policy.specs.Trees.{AccessTexts, GroupTexts, TreeFacts, owns_snapshots}
use Rattle.up_policy.proofs.PathLists.{Contains-behind, Contains-cons, Contains-head, no_member, with_paths-cases}
use Rattle.up_policy.proofs.ReachedLemmas.{look_at, look_past}
use Rattle.up_log_tree.specs.Logs.{Limits, Log}
use Rattle.up_log_tree.specs.Orders.{has_path as has}
use Rattle.up_log_tree.specs.Rights.{facts_of, group_paths}
use Rattle.up_log_tree.specs.Trees.{Tree, tree_at, tree_of}
use Rattle.up_log_tree.proofs.Paths.{length_cut, some_none}
use Rattle.up_list.specs.declared.asking.ReadRequest.{ReadRequest}
use Rattle.up_list.specs.declared.asking.ReadRequest.TheVariants.{Lookup, WhichAccess, GroupText, Delete, Put, Glob, Watch}
use Rattle.up_list.specs.Asking.{owner_asked}
use Rattle.up_list.specs.Globs.{is_candidate, literal_path}
use Rattle.up_answers.specs.Events.{Change, change_at}
use Rattle.up_answers.specs.Needs.{Place, event_places, event_places_to, owner_places, places, places_for, watch_places, where_ordinary}
use Rattle.up_mem_tree.specs.MemTrees.{TreeLog}
use Rattle.up_mem_tree.specs.Namings.{CanMeet}
use Rattle.up_mem_tree.specs.Others.{HasAllOthers, is_foreign}
use Rattle.up_mem_tree.proofs.Noted.{under-Decides}
use Rattle.up_foreign.specs.Foreign.{needed_in}
use Rattle.up_foreign.specs.Reaching.{NeedsNothing, is_unanswered}
use Rattle.up_foreign.specs.Trees.{log_over}

in_filter : {X : Type 0} (p : X → Bool) (xs : List X) (q : X) → Contains (filter p xs) q → (p q ≡ true) × Contains xs q
in_filter p [] q h = absurd (no_member q h)
in_filter p (x ∷ xs) q h = go (p x) refl h (in_filter p xs q)
  where
    go : (b : Bool) → p x ≡ b → Contains (cond b (x ∷ filter p xs) (filter p xs)) q → (Contains (filter p xs) q → (p q ≡ true) × Contains xs q) → (p q ≡ true) × Contains (x ∷ xs) q
    go true is h rest = elim (Contains-cons x q (filter p xs) h) [
      | inl same ↦ (subst (λ y. p y ≡ true) same is, subst (λ y. Contains (x ∷ xs) y) same (Contains-head x xs))
      | inr there ↦ let r = rest there in (r.0, Contains-behind x q xs r.1)
    ]
    go false is h rest = let r = rest h in (r.0, Contains-behind x q xs r.1)

-- a list of no length
pub empty_when : {X : Type 0} (xs : List X) (n : ℕ) → n ≡ length xs → (n == 0) ≡ true → xs ≡ []
empty_when [] n long is = refl
empty_when (x ∷ xs) n long is = let none : n ≡ 0 = eqb-true n 0 is in absurd (omega (arith, long, none))

pub empty_of : {X : Type 0} (xs : List X) (n : ℕ) → n ≡ length xs → n ≡ 0 → xs ≡ []
empty_of [] n long none = refl
empty_of (x ∷ xs) n long none = absurd (omega (arith, long, none))

empty : {X : Type 0} (xs : List X) → ((x : X) → Contains xs x → ⊥) → xs ≡ []
empty [] none = refl
empty (x ∷ xs) none = absurd (none x (Contains-head x xs))

-- ---- what is reached

-- what holds of the first groups and of all that texts name holds of all that are reached
module _ (Q : PathName → Type 0) (texts : GroupTexts) (named : (g q : PathName) → Contains (names_in texts g) q → Q q) (starts : List PathName) (begins : (q : PathName) → Contains starts q → Q q) where
  met_all : (n : ℕ) (q : PathName) → Contains (met_after texts starts n) q → Q q
  met_all zero q h = elim (with_paths-cases [] starts q h) [
    | inl none ↦ absurd (no_member q none)
    | inr there ↦ begins q there
  ]
  met_all (suc n) q h = go (slice_get (met_after texts starts n) n) refl (met_all n q)
    where
      go : (o : Option PathName) → slice_get (met_after texts starts n) n ≡ o → (Contains (met_after texts starts n) q → Q q) → Q q
      go None past before = before (subst (λ all. Contains all q) (look_past texts n (met_after texts starts n) past) h)
      go (Some g) at before = elim (with_paths-cases (met_after texts starts n) (names_in texts g) q (subst (λ all. Contains all q) (look_at texts n (met_after texts starts n) g at) h)) [
        | inl old ↦ before old
        | inr there ↦ named g q there
      ]

  reached_all : (listed : List PathName) (q : PathName) → Contains (reached texts listed starts) q → Q q
  unfolding reached
  reached_all listed q h = met_all (length (nameable texts listed starts)) q h

-- a text that governs is that of a directory above
first_some : (access : AccessTexts) (dirs : List PathName) (rules : List Rule) → first_text access dirs ≡ Some rules → (dir : PathName) × Contains dirs dir × (access dir ≡ Some rules)
first_some access [] rules h = absurd (some_none rules (sym h))
first_some access (dir ∷ dirs) rules h = go (access dir) refl h (first_some access dirs rules)
  where
    go : (o : Option (List Rule)) → access dir ≡ o → option_or o (first_text access dirs) ≡ Some rules → (first_text access dirs ≡ Some rules → (d : PathName) × Contains dirs d × (access d ≡ Some rules)) →
        (d : PathName) × Contains (dir ∷ dirs) d × (access d ≡ Some rules)
    go None is h rest = let found = rest h in (found.0, Contains-behind dir found.0 dirs found.1, found.2)
    go (Some found) is h rest = (dir, Contains-head dir dirs, is ∙ h)

-- a path is below each of its fronts
under_cut : (n : ℕ) (path : PathName) → n ≤ length path.elements → is_under path (cut n path) ≡ true
under_cut n path le = (under-Decides path (cut n path)).1 (ap (λ m. cut m path) (length_cut n path le))

prefix_above : (n : ℕ) (path dir : PathName) → n ≤ length path.elements → Contains (prefixes_to n path) dir → is_under path dir ≡ true
prefix_above zero path dir le there = elim (Contains-cons (cut 0 path) dir [] there) [
  | inl same ↦ subst (λ d. is_under path d ≡ true) same (under_cut 0 path le)
  | inr none ↦ absurd (no_member dir none)
]
prefix_above (suc n) path dir le there = elim (Contains-cons (cut (suc n) path) dir (prefixes_to n path) there) [
  | inl same ↦ subst (λ d. is_under path d ≡ true) same (under_cut (suc n) path le)
  | inr rest ↦ prefix_above n path dir (omega (arith, le)) rest
]

governor_some : (facts : TreeFacts) (path : PathName) (rules : List Rule) → governor facts path ≡ Some rules → (dir : PathName) × (is_under path dir ≡ true) × (facts.access dir ≡ Some rules)
unfolding governor
governor_some facts path rules h = go (owns_snapshots facts.owner) h
  where
    go : (b : Bool) → (if b then None else first_text facts.access (prefixes path)) ≡ Some rules → (dir : PathName) × (is_under path dir ≡ true) × (facts.access dir ≡ Some rules)
    go true h = absurd (some_none rules (sym h))
    go false h = let found = first_some facts.access (prefixes path) rules h in (found.0, prefix_above (length path.elements) path found.0 (omega arith) found.1, found.2)

-- ---- the texts of a tree, and what was loaded

text_is : (owner : List ℕ) (tree : Tree) (loaded : Loading) (g : PathName) → text_of (facts_of owner tree) loaded g ≡ (if bytes_eq g.owner owner then (facts_of owner tree).group g else loaded_text loaded g)
unfolding facts_of
text_is owner tree loaded g = refl

wanted_is : (owner : List ℕ) (tree : Tree) (loaded : Loading) (q : PathName) → is_wanted (facts_of owner tree) loaded q ≡ is_unanswered owner loaded q
unfolding facts_of
wanted_is owner tree loaded q = refl

needed_cases : (facts : TreeFacts) (listed : List PathName) (loaded : Loading) (path q : PathName) → Contains (needed facts listed loaded path) q → (rules : List Rule) × (governor facts path ≡ Some rules) × Contains (needed_by facts listed loaded rules) q
unfolding needed
needed_cases facts listed loaded path q h = go (governor facts path) refl h
  where
    go : (o : Option (List Rule)) → governor facts path ≡ o → Contains (elim o as (λ _. List PathName) [ None ↦ [] | Some rules ↦ needed_by facts listed loaded rules ]) q →
        (rules : List Rule) × (governor facts path ≡ Some rules) × Contains (needed_by facts listed loaded rules) q
    go None is h = absurd (no_member q h)
    go (Some rules) is h = (rules, is, h)

by_parts : (facts : TreeFacts) (listed : List PathName) (loaded : Loading) (rules : List Rule) (q : PathName) → Contains (needed_by facts listed loaded rules) q →
    (is_wanted facts loaded q ≡ true) × Contains (reached (text_of facts loaded) (listed ++ keys_of loaded) (groups_named rules)) q
unfolding needed_by
by_parts facts listed loaded rules q h = in_filter (is_wanted facts loaded) (reached (text_of facts loaded) (listed ++ keys_of loaded) (groups_named rules)) q h

module _ (owner : List ℕ) (records : List Rec) (others : List PathName) (loaded : Loading) (m : ℕ) (path : PathName) (K : PathName → Type 0) (told : HasAllOthers owner records others)
    (own : (q : PathName) → has others q ≡ true → is_unanswered owner loaded q ≡ true → CanMeet owner records m path q → K q)
    (read : (q name : PathName) (items : List Item) → loaded_text loaded name ≡ Some items → Contains (groups_in items) q → is_unanswered owner loaded q ≡ true → K q) where
  -- what would have to be loaded is known
  abbrev IsKnown : PathName → Type 0
  IsKnown q = is_unanswered owner loaded q ≡ true → K q

  foreign_of : (a b : Bool) → (not a && b) ≡ true → not a ≡ true
  foreign_of true b h = absurd (false≢true h)
  foreign_of false b h = refl

  by_others : (q : PathName) → CanMeet owner records m path q → (is_foreign owner q ≡ true → has others q ≡ true) → IsKnown q
  by_others q meets there wanted = own q (there (foreign_of (bytes_eq q.owner owner) _ wanted)) wanted meets

  text_known : (g q : PathName) (o : Option (List Item)) (b : Bool) → bytes_eq g.owner owner ≡ b → (if b then (facts_of owner (tree_at records m)).group g else loaded_text loaded g) ≡ o → Contains (groups_in (unwrap_or o [])) q → IsKnown q
  text_known g q None b is text h = absurd (no_member q h)
  text_known g q (Some items) true is text h = by_others q (inr (record { file = g; items = items; text = text; named = h })) (told.groups m g items text q h)
  text_known g q (Some items) false is text h = read q g items text h

  names_known : (g q : PathName) → Contains (names_in (text_of (facts_of owner (tree_at records m)) loaded) g) q → IsKnown q
  names_known g q h = text_known g q (text_of (facts_of owner (tree_at records m)) loaded g) (bytes_eq g.owner owner) refl (sym (text_is owner (tree_at records m) loaded g)) h

  pub needed_known : (q : PathName) → Contains (needed_in owner loaded (tree_at records m, path)) q → K q
  needed_known q h =
      let facts = facts_of owner (tree_at records m) in
      let listed = group_paths (tree_at records m) in
      let text = needed_cases facts listed loaded path q h in
      let dir = governor_some facts path text.0 text.1 in
      let parts = by_parts facts listed loaded text.0 q text.2 in
      reached_all IsKnown (text_of facts loaded) names_known (groups_named text.0)
      (λ g there. by_others g (inl (record { dir = dir.0; above = dir.1; rules = text.0; text = dir.2; named = there })) (told.access m dir.0 text.0 dir.2 g there)) (listed ++ keys_of loaded) q parts.1
      (sym (wanted_is owner (tree_at records m) loaded q) ∙ parts.0)

-- ---- at the places of a request

-- a tree that the log gave after some number of records
pub record IsOfLog (records : List Rec) (place : Place) : Type 0 where
  pub n : ℕ
  pub is : place.0 ≡ tree_at records n

all_append : {X : Type 0} (P : X → Type 0) (xs ys : List X) → AllByRecursion P xs → AllByRecursion P ys → AllByRecursion P (xs ++ ys)
all_append P [] ys one two = two
all_append P (x ∷ xs) ys one two = (one.0, all_append P xs ys one.1 two)

module _ (records : List Rec) where
  of_now : (path : PathName) → IsOfLog records (tree_of records, path)
  of_now path = record { n = length records; is = sym (ap tree_of (take_all (length records) records (omega arith))) }

  of_then : (n : ℕ) (path : PathName) → IsOfLog records (tree_at records n, path)
  of_then n path = record { n = n; is = refl }

  of_items : (paths : List PathName) → AllByRecursion (IsOfLog records) (map (λ path. (tree_of records, path)) paths)
  of_items [] = tt
  of_items (path ∷ paths) = (of_now path, of_items paths)

module _ (limits : Limits) (tree : TreeLog) where
  abbrev log : Log
  log = log_over limits tree

  of_event : (sequence : ℕ) (path : PathName) (n : ℕ) (o : Option Change) → AllByRecursion (IsOfLog tree.log) (elim o as (λ _. List Place) [
    | None ↦ []
    | Some change ↦ if nat_lt sequence (suc n) && is_under change.entry.name path then (tree_of tree.log, change.entry.name) ∷ (tree_at tree.log (suc n), change.entry.name) ∷ [] else []
  ])
  of_event sequence path n None = tt
  of_event sequence path n (Some change) = go (nat_lt sequence (suc n) && is_under change.entry.name path)
    where
      go : (b : Bool) → AllByRecursion (IsOfLog tree.log) (if b then (tree_of tree.log, change.entry.name) ∷ (tree_at tree.log (suc n), change.entry.name) ∷ [] else [])
      go true = (of_now tree.log change.entry.name, (of_then tree.log (suc n) change.entry.name, tt))
      go false = tt

  of_events : (sequence : ℕ) (path : PathName) (n : ℕ) → AllByRecursion (IsOfLog tree.log) (event_places_to log sequence path n)
  of_events sequence path zero = tt
  of_events sequence path (suc n) = all_append (IsOfLog tree.log) (event_places_to log sequence path n) (event_places log sequence path n) (of_events sequence path n) (of_event sequence path n (change_at tree.log n))

  of_watch : (path : PathName) (sequence : ℤ) → AllByRecursion (IsOfLog tree.log) (watch_places log path sequence)
  of_watch path (pos sequence) = of_events sequence path (length tree.log)
  of_watch path (negsuc zero) = of_items tree.log (filter (λ name. is_under name path) (keys_of (tree_of tree.log)))
  of_watch path (negsuc (suc n)) = tt

  of_others : (asked : ReadRequest) → AllByRecursion (IsOfLog tree.log) (places log asked)
  unfolding places
  of_others (GroupText path) = tt
  of_others (Lookup path) = (of_now tree.log path, tt)
  of_others (WhichAccess path) = (of_now tree.log path, tt)
  of_others (Delete path) = (of_now tree.log path, tt)
  of_others (Put put) = (of_now tree.log put.entry.name, tt)
  of_others (Glob pattern) = (of_now tree.log (literal_path pattern), of_items tree.log (filter (is_candidate pattern) (keys_of (tree_of tree.log))))
  of_others (Watch path sequence) = (of_now tree.log path, of_watch path sequence)

  of_ordinary : (path : PathName) → AllByRecursion (IsOfLog tree.log) (where_ordinary log path)
  of_ordinary path = go (is_ordinary (control_of path))
    where
      go : (b : Bool) → AllByRecursion (IsOfLog tree.log) (if b then (tree_of tree.log, path) ∷ [] else [])
      go true = (of_now tree.log path, tt)
      go false = tt

  of_owner : (asked : ReadRequest) → AllByRecursion (IsOfLog tree.log) (owner_places log asked)
  unfolding owner_places
  of_owner (GroupText path) = tt
  of_owner (Lookup path) = tt
  of_owner (WhichAccess path) = tt
  of_owner (Delete path) = of_ordinary path
  of_owner (Put put) = of_ordinary put.entry.name
  of_owner (Glob pattern) = tt
  of_owner (Watch path sequence) = tt

  of_request : (user : List ℕ) (asked : ReadRequest) → AllByRecursion (IsOfLog tree.log) (places_for log user asked)
  of_request user asked = go (bytes_eq (owner_asked asked) tree.owner) (bytes_eq user tree.owner)
    where
      go : (a b : Bool) → AllByRecursion (IsOfLog tree.log) (if not a then [] else if b then owner_places log asked else places log asked)
      go false b = tt
      go true true = of_owner asked
      go true false = of_others asked

-- ---- nothing can be needed

pub nothing_named : (tree : TreeLog) (loaded : Loading) (others : List PathName) → HasAllOthers tree.owner tree.log others → others ≡ [] → loaded ≡ [] → NeedsNothing tree loaded
nothing_named tree loaded others told none unloaded = record {
  none = λ n path. empty (needed_in tree.owner loaded (tree_at tree.log n, path)) (λ q there.
      needed_known tree.owner tree.log others loaded n path (λ q. ⊥) told (λ q has_it wanted meets. false≢true (ap (λ ps. has ps q) (sym none) ∙ has_it))
      (λ q name items text named wanted. some_none items (sym text ∙ ap (λ l. loaded_text l name) unloaded)) q there);
}

flat_none : (tree : TreeLog) (loaded : Loading) → NeedsNothing tree loaded → (ps : List Place) → AllByRecursion (IsOfLog tree.log) ps → flat_map (needed_in tree.owner loaded) ps ≡ []
flat_none tree loaded nothing [] all = refl
flat_none tree loaded nothing (place ∷ ps) all =
    ap (λ l. l ++ flat_map (needed_in tree.owner loaded) ps) (ap (λ t. needed_in tree.owner loaded (t, place.1)) all.0.is ∙ nothing.none all.0.n place.1) ∙ flat_none tree loaded nothing ps all.1

-- so nothing is added for a request
pub nothing_added : (tree : TreeLog) (loaded : Loading) → NeedsNothing tree loaded → (limits : Limits) (user : List ℕ) (asked : ReadRequest) (names : List PathName) →
    names ≡ with_paths names (flat_map (needed_in tree.owner loaded) (places_for (log_over limits tree) user asked))
nothing_added tree loaded nothing limits user asked names = ap (with_paths names) (sym (flat_none tree loaded nothing (places_for (log_over limits tree) user asked) (of_request limits tree user asked)))
