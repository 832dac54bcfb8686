-- The places of a Watch's events are those of the changes under its path.
use Rattle.std.proofs.Common.{◌≡◌, ℕ, zero, suc, ◌+◌, ◌-◌, ◌<◌, ◌≤◌, ◌&&◌, Bool, true, false, List, [], ◌∷◌, ◌++◌, length, take, drop, get_or, refl, sym, ap, subst, ◌∙◌, inl, inr, arith, Option, Some, None, append_assoc, append-nil}
use Rattle.std.specs.Prelude.{nat_lt, if◌then◌else◌, slice_get, IsSome, OnOk, Result}
use Rattle.std.specs.List.{AllByRecursion, flat_map, starts_with}
use Rattle.std.specs.Option.{option_and_then, option_map}
use Rattle.std.specs.Str.{bytes_eq}
use Rattle.std.proofs.lemmas.Bool.{and_parts, cases_lt, false≢true, le-ltb, lt-ltb}
use Rattle.std.proofs.lemmas.Grind.{flat_map-append}
use Rattle.std.proofs.lemmas.List.{length-drop}
use Rattle.std.proofs.lemmas.Slice.Eq.{bytes_eq-Decides}
use Rattle.up_names.specs.PathNames.{PathName, is_under}
use Rattle.up_entry.specs.declared.records.Rec.{Rec}
use Rattle.up_entry.specs.declared.records.Rec.TheVariants.{Put, Delete, Snap}
use Rattle.up_log_tree.specs.declared.node.Node.{Node}
use Rattle.up_log_tree.specs.Changes.{changes_some, changes_under, path_of_change, positions_of, record_at}
use Rattle.up_mem_tree.specs.MemTrees.{TreeLog}
use Rattle.up_policy.specs.Reached.{with_paths}
use Rattle.up_log_tree.specs.Fits.{IsLog}
use Rattle.up_log_tree.specs.Logs.{Limits, Log}
use Rattle.up_log_tree.specs.Trees.{node_at, tree_at, tree_of}
use Rattle.up_log_tree.proofs.Fronts.{take_next}
use Rattle.up_log_tree.proofs.Paths.{some_none, some_same}
use Rattle.up_log_tree.proofs.Rooted.{rooted_at}
use Rattle.up_answers.specs.Events.{Change, change_at, change_in}
use Rattle.up_answers.specs.Laws.{IsWhole}
use Rattle.up_answers.specs.Needs.{Place, event_places, event_places_to}
use Rattle.up_foreign.specs.Foreign.{IsOwnChange, places_at}
use Rattle.up_foreign.specs.Trees.{log_over}
use Rattle.up_foreign.proofs.PlaceLemmas.{noted_last}

-- ---- the rest of a list

module _ {X : Type 0} where
  abbrev has_head : List X → Bool
  has_head [] = false
  has_head (x ∷ xs) = true

  head_at : (xs : List X) (k : ℕ) (x : X) (rest : List X) → drop k xs ≡ x ∷ rest → slice_get xs k ≡ Some x
  head_at [] zero x rest is = absurd (false≢true (ap has_head is))
  head_at [] (suc k) x rest is = absurd (false≢true (ap has_head is))
  head_at (y ∷ xs) zero x rest is = ap (λ l. slice_get l 0) is
  head_at (y ∷ xs) (suc k) x rest is = head_at xs k x rest is

  behind : (xs : List X) (k : ℕ) (x : X) (rest : List X) → drop k xs ≡ x ∷ rest → drop (suc k) xs ≡ rest
  behind [] zero x rest is = absurd (false≢true (ap has_head is))
  behind [] (suc k) x rest is = absurd (false≢true (ap has_head is))
  behind (y ∷ xs) zero x rest is = ap (drop 1) is
  behind (y ∷ xs) (suc k) x rest is = behind xs k x rest is

  drop_all : (k : ℕ) (xs : List X) → length xs ≤ k → drop k xs ≡ []
  drop_all zero [] le = refl
  drop_all (suc k) [] le = refl
  drop_all zero (x ∷ xs) le = absurd (omega (arith, le))
  drop_all (suc k) (x ∷ xs) le = drop_all k xs (omega (arith, le))

-- ---- changes and their paths

-- a path under one of an owner is the owner's
pub under_owned : (owner : List ℕ) (path above : PathName) → above.owner ≡ owner → true ≡ is_under path above → path.owner ≡ owner
under_owned owner path above owned under =
    (bytes_eq-Decides path.owner above.owner).0 (and_parts (bytes_eq path.owner above.owner) (starts_with bytes_eq path.elements above.elements) (sym under)).0 ∙ owned

-- the path of a change is the one that its record changes
abbrev change_path : Option Change → Option PathName
change_path change = option_map (λ (c : Change). c.entry.name) change

path_in : (log : Log) (whole : IsWhole log) (n : ℕ) (rec : Rec) → slice_get log.records n ≡ Some rec → change_path (change_in (tree_at log.records n) rec) ≡ path_of_change rec
unfolding change_in
path_in log whole n (Put entry text) is = refl
path_in log whole n (Snap time) is = refl
path_in log whole n (Delete path) is = go (node_at (tree_at log.records n) path) refl (whole.fitting.each n (Delete path) is).there
  where
    go : (o : Option Node) → node_at (tree_at log.records n) path ≡ o → IsSome o → change_path (option_map (λ (node : Node). record { delete = true; entry = node.entry }) o) ≡ Some path
    go None e h = absurd (false≢true h)
    go (Some node) e h = ap Some ((rooted_at log.owner log.records whole.fitting n).named path node e)

path_at : (log : Log) (whole : IsWhole log) (n : ℕ) → change_path (change_at log.records n) ≡ option_and_then path_of_change (slice_get log.records n)
unfolding change_at
path_at log whole n = go (slice_get log.records n) refl
  where
    go : (o : Option Rec) → slice_get log.records n ≡ o → change_path (option_and_then (change_in (tree_at log.records n)) o) ≡ option_and_then path_of_change o
    go None is = refl
    go (Some rec) is = path_in log whole n rec is

module _ (log : Log) (sequence : ℕ) (path : PathName) where
  -- the places of a change, and those of a path that is changed
  abbrev of_change : ℕ → Option Change → List Place
  of_change n change = elim change [
    | None ↦ []
    | Some change ↦
        if nat_lt sequence (suc n) && is_under change.entry.name path
        then (tree_of log.records, change.entry.name) ∷ (tree_at log.records (suc n), change.entry.name) ∷ [] else []
  ]

  abbrev of_path : ℕ → Option PathName → List Place
  of_path n changed = elim changed [
    | None ↦ []
    | Some name ↦ if is_under name path then (tree_of log.records, name) ∷ (tree_at log.records (suc n), name) ∷ [] else []
  ]

  -- one record above the sequence
  here : (whole : IsWhole log) (n : ℕ) → sequence ≤ n → event_places log sequence path n ≡ of_path n (option_and_then path_of_change (slice_get log.records n))
  here whole n low = go (change_at log.records n) (option_and_then path_of_change (slice_get log.records n)) (path_at log whole n)
    where
      go : (c : Option Change) (p : Option PathName) → change_path c ≡ p → of_change n c ≡ of_path n p
      go None None same = refl
      go None (Some name) same = absurd (some_none name (sym same))
      go (Some change) None same = absurd (some_none change.entry.name same)
      go (Some change) (Some name) same =
          ap (λ b. if b && is_under change.entry.name path then (tree_of log.records, change.entry.name) ∷ (tree_at log.records (suc n), change.entry.name) ∷ [] else []) (lt-ltb sequence (suc n) (omega (arith, low)))
          ∙ ap (λ (q : PathName). if is_under q path then (tree_of log.records, q) ∷ (tree_at log.records (suc n), q) ∷ [] else []) (some_same change.entry.name name same)

  -- none of those up to the sequence
  none_below : (n : ℕ) → n ≤ sequence → event_places_to log sequence path n ≡ []
  none_below zero low = refl
  none_below (suc n) low = ap (λ ps. ps ++ event_places log sequence path n) (none_below n (omega (arith, low))) ∙ go (change_at log.records n)
    where
      go : (c : Option Change) → of_change n c ≡ []
      go None = refl
      go (Some change) = ap (λ b. if b && is_under change.entry.name path then (tree_of log.records, change.entry.name) ∷ (tree_at log.records (suc n), change.entry.name) ∷ [] else []) (le-ltb sequence (suc n) low)

  abbrev changes_it : Rec → Bool
  changes_it = changes_some (λ name. is_under name path)

  -- the places of those from a position on are those of the changes among them
  places_from : (whole : IsWhole log) (rs : List Rec) (k : ℕ) → drop k log.records ≡ rs → sequence ≤ k →
      event_places_to log sequence path k ++ flat_map (places_at log.records) (positions_of changes_it k rs) ≡ event_places_to log sequence path (k + length rs)
  places_from whole [] k is low = append-nil (event_places_to log sequence path k) ∙ ap (event_places_to log sequence path) (let e : k ≡ k + 0 = omega arith in e)
  places_from whole (rec ∷ rs) k is low =
      front
      ∙ (places_from whole rs (suc k) (behind log.records k rec rs is) (omega (arith, low))
      ∙ ap (event_places_to log sequence path) (let e : suc k + length rs ≡ k + suc (length rs) = omega arith in e))
    where
      at : slice_get log.records k ≡ Some rec
      at = head_at log.records k rec rs is

      go : (o : Option PathName) → path_of_change rec ≡ o → flat_map (places_at log.records) (if (elim o as (λ _. Bool) [ None ↦ false | Some name ↦ is_under name path ]) then suc k ∷ positions_of changes_it (suc k) rs else positions_of changes_it (suc k) rs)
          ≡ of_path k o ++ flat_map (places_at log.records) (positions_of changes_it (suc k) rs)
      go None none = refl
      go (Some name) some = by (is_under name path)
        where
          one : places_at log.records (suc k) ≡ (tree_of log.records, name) ∷ (tree_at log.records (suc k), name) ∷ []
          one = ap (λ o. elim o as (λ _. List Place) [ None ↦ [] | Some path ↦ (tree_of log.records, path) ∷ (tree_at log.records (suc k), path) ∷ [] ]) (ap (option_and_then path_of_change) at ∙ some)

          by : (b : Bool) → flat_map (places_at log.records) (if b then suc k ∷ positions_of changes_it (suc k) rs else positions_of changes_it (suc k) rs)
              ≡ (if b then (tree_of log.records, name) ∷ (tree_at log.records (suc k), name) ∷ [] else []) ++ flat_map (places_at log.records) (positions_of changes_it (suc k) rs)
          by true = ap (λ ps. ps ++ flat_map (places_at log.records) (positions_of changes_it (suc k) rs)) one
          by false = refl

      front : event_places_to log sequence path k ++ flat_map (places_at log.records) (positions_of changes_it k (rec ∷ rs))
          ≡ (event_places_to log sequence path k ++ event_places log sequence path k) ++ flat_map (places_at log.records) (positions_of changes_it (suc k) rs)
      front =
          ap (λ ps. event_places_to log sequence path k ++ ps)
          (go (path_of_change rec) refl ∙ ap (λ ps. ps ++ flat_map (places_at log.records) (positions_of changes_it (suc k) rs)) (sym (here whole k low ∙ ap (λ o. of_path k (option_and_then path_of_change o)) at)))
          ∙ sym (append_assoc (event_places_to log sequence path k) (event_places log sequence path k) (flat_map (places_at log.records) (positions_of changes_it (suc k) rs)))

  places_above : (whole : IsWhole log) → flat_map (places_at log.records) (changes_under log.records path sequence) ≡ event_places_to log sequence path (length log.records)
  unfolding changes_under
  places_above whole = elim (cases_lt sequence (length log.records)) [
    | inl lt ↦
        let long : length (drop sequence log.records) ≡ length log.records - sequence = length-drop sequence log.records in
        let all : sequence + length (drop sequence log.records) ≡ length log.records = omega (arith, long, lt) in
        ap (λ ps. ps ++ flat_map (places_at log.records) (positions_of changes_it sequence (drop sequence log.records))) (sym (none_below sequence (omega arith)))
        ∙ (places_from whole (drop sequence log.records) sequence refl (omega arith) ∙ ap (event_places_to log sequence path) all)
    | inr ge ↦
        ap (λ rs. flat_map (places_at log.records) (positions_of changes_it sequence rs)) (drop_all sequence log.records (omega (arith, ge)))
        ∙ sym (none_below (length log.records) (omega (arith, ge)))
  ]

-- what is needed at the changes under a path is what is needed at the places of the events
pub events_noted_ok : {E : Type 0} (result : Result (Unit {0}) E) (tree : TreeLog) (is : IsLog tree.owner tree.log) (f : Place → List PathName) (sequence : ℕ) (path : PathName) (positions : List ℕ) (old now : List PathName) (limits : Limits) →
    positions ≡ changes_under tree.log path sequence → OnOk result (now ≡ with_paths old (flat_map f (flat_map (places_at tree.log) positions))) →
    OnOk result (now ≡ with_paths old (flat_map f (event_places_to (log_over limits tree) sequence path (length tree.log))))
events_noted_ok result tree is f sequence path positions old now limits are noted =
    subst (λ ps. OnOk result (now ≡ with_paths old (flat_map f ps))) (ap (flat_map (places_at tree.log)) are ∙ places_above (log_over limits tree) sequence path is) noted

-- ---- they are the owner's

own_from : (tree : TreeLog) (path : PathName) → path.owner ≡ tree.owner → (rs : List Rec) (k : ℕ) → drop k tree.log ≡ rs → k + length rs ≤ length tree.log → AllByRecursion (IsOwnChange tree) (positions_of (changes_some (λ name. is_under name path)) k rs)
own_from tree path owned [] k is within = tt
own_from tree path owned (rec ∷ rs) k is within =
    go (changes_some (λ name. is_under name path) rec) refl (own_from tree path owned rs (suc k) (behind tree.log k rec rs is) (omega (arith, within)))
  where
    own : changes_some (λ name. is_under name path) rec ≡ true → (name : PathName) → option_and_then path_of_change (record_at tree.log (suc k)) ≡ Some name → name.owner ≡ tree.owner
    own passes name changed =
        let same : path_of_change rec ≡ Some name = sym (ap (option_and_then path_of_change) (head_at tree.log k rec rs is)) ∙ changed in
        under_owned tree.owner name path owned (sym (sym (ap (λ o. elim o as (λ _. Bool) [ None ↦ false | Some p ↦ is_under p path ]) same) ∙ passes))

    go : (b : Bool) → changes_some (λ name. is_under name path) rec ≡ b → AllByRecursion (IsOwnChange tree) (positions_of (changes_some (λ name. is_under name path)) (suc k) rs) →
        AllByRecursion (IsOwnChange tree) (if b then suc k ∷ positions_of (changes_some (λ name. is_under name path)) (suc k) rs else positions_of (changes_some (λ name. is_under name path)) (suc k) rs)
    go true passes rest = (record { within = omega (arith, within); owned = own passes }, rest)
    go false other rest = rest

pub own_changes : (tree : TreeLog) (path : PathName) (above : ℕ) (positions : List ℕ) → path.owner ≡ tree.owner → positions ≡ changes_under tree.log path above → AllByRecursion (IsOwnChange tree) positions
unfolding changes_under
own_changes tree path above positions owned are = subst (AllByRecursion (IsOwnChange tree)) (sym are) (elim (cases_lt above (length tree.log)) [
  | inl lt ↦
      let long : length (drop above tree.log) ≡ length tree.log - above = length-drop above tree.log in
      own_from tree path owned (drop above tree.log) above refl (omega (arith, long, lt))
  | inr ge ↦ subst (λ rs. AllByRecursion (IsOwnChange tree) (positions_of (changes_some (λ name. is_under name path)) above rs)) (sym (drop_all above tree.log (omega (arith, ge)))) tt
])

pub own_at : (tree : TreeLog) (positions : List ℕ) (i d : ℕ) → AllByRecursion (IsOwnChange tree) positions → i < length positions → IsOwnChange tree (get_or positions i d)
own_at tree [] i d all within = absurd (omega (arith, within))
own_at tree (n ∷ positions) zero d all within = all.0
own_at tree (n ∷ positions) (suc i) d all within = own_at tree positions i d all.1 (omega (arith, within))

-- ---- one of them

module _ (records : List Rec) (f : Place → List PathName) (n : ℕ) (old now : List PathName) where
  abbrev noted_by : Option PathName → List PathName
  noted_by changed = with_paths old (flat_map f (elim changed as (λ _. List Place) [ None ↦ [] | Some path ↦ (tree_of records, path) ∷ (tree_at records n, path) ∷ [] ]))

  pub none_added : None ≡ option_and_then path_of_change (record_at records n) → now ≡ old → now ≡ with_paths old (flat_map f (places_at records n))
  none_added none same = same ∙ ap noted_by none

  pub both_added : {E : Type 0} (result : Result (Unit {0}) E) (path : PathName) → Some path ≡ option_and_then path_of_change (record_at records n) →
      OnOk result (now ≡ with_paths old (flat_map f ((tree_of records, path) ∷ (tree_at records n, path) ∷ []))) → OnOk result (now ≡ with_paths old (flat_map f (places_at records n)))
  both_added result path some added = subst (λ o. OnOk result (now ≡ noted_by o)) some added

-- one position more
pub position_next : (f : Place → List PathName) (records : List Rec) (positions : List ℕ) (i n : ℕ) (old mid now : List PathName) → slice_get positions i ≡ Some n →
    mid ≡ with_paths old (flat_map f (flat_map (places_at records) (take i positions))) → now ≡ with_paths mid (flat_map f (places_at records n)) →
    now ≡ with_paths old (flat_map f (flat_map (places_at records) (take (i + 1) positions)))
position_next f records positions i n old mid now at so_far one =
    noted_last f old mid now (flat_map (places_at records) (take i positions)) (places_at records n) so_far one
    ∙ ap (λ ps. with_paths old (flat_map f ps))
    (sym (ap (flat_map (places_at records)) (ap (λ m. take m positions) (let e : i + 1 ≡ suc i = omega arith in e) ∙ take_next i positions n at)
    ∙ (flat_map-append (places_at records) (take i positions) (n ∷ [])
    ∙ ap (λ ps. flat_map (places_at records) (take i positions) ++ ps) (append-nil (places_at records n)))))
