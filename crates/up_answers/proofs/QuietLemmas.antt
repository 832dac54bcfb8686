-- Changes that say nothing of rights: of no Access file and no Group file.
use Rattle.std.proofs.Common.{◌≡◌, ℕ, zero, suc, ◌+◌, ◌<◌, ◌≤◌, Bool, true, false, ◌&&◌, List, [], ◌∷◌, ◌++◌, length, take, refl, sym, ap, ◌∙◌, arith, Option, Some, None}
use Rattle.std.specs.Prelude.{if◌then◌else◌, ⊤, T, slice_get}
use Rattle.std.specs.FinMap.Entries.{is_sorted}
use Rattle.std.specs.List.{cons_option}
use Rattle.std.specs.Map.{keys_of}
use Rattle.std.specs.Option.{option_map, option_and_then}
use Rattle.std.proofs.Math.Seq.{take-length}
use Rattle.std.proofs.lemmas.List.{take-append-le, length_push}
use Rattle.up_names.specs.PathNames.{PathName}
use Rattle.up_names.specs.PathOrder.{path_cmp}
use Rattle.up_rights.specs.RightSets.{Rights, has_any}
use Rattle.up_entry.specs.declared.entries.Entry.{Entry}
use Rattle.up_entry.specs.declared.records.Rec.{Rec}
use Rattle.up_entry.specs.Showing.{shown_as}
use Rattle.up_policy.specs.Loadings.{Loading}
use Rattle.up_policy.specs.Trees.{owns_snapshots}
use Rattle.up_policy.specs.Governors.{prefixes}
use Rattle.up_policy.specs.Verdicts.{rights_held}
use Rattle.up_wire.specs.declared.replies.WatchEvent.{WatchEvent}
use Rattle.up_log_tree.specs.declared.node.Node.{Node}
use Rattle.up_log_tree.specs.Trees.{Tree, node_at, tree_of}
use Rattle.up_list.specs.Looks.{Look, rights, has_some, shown, look_now, look_after}
use Rattle.up_log_tree.specs.Rights.{access_node, group_node, is_group_file, facts_of, group_paths, rules_of, items_of}
use Rattle.up_answers.proofs.GovernorLemmas.{first_made, governor_node}
use Rattle.up_log_tree.specs.Logs.{Log}
use Rattle.up_answers.specs.Events.{Change, change_in, change_at, event_of, event_at, events_to, events}
use Rattle.up_answers.specs.Laws.{with_record}
use Rattle.up_log_tree.proofs.Trees.{tree_sorted, made_same}
use Rattle.up_log_tree.proofs.Fronts.{take_next}

-- the same Access files and Group files
pub record IsQuiet (before after : Tree) : Type 0 where
  pub access : (dir : PathName) → access_node after dir ≡ access_node before dir
  pub groups : (path : PathName) → group_node after path ≡ group_node before path

abbrev seen_by : List ℕ → Tree → Loading → List ℕ → Look
seen_by owner tree loaded user = record { owner = owner; tree = tree; loaded = loaded; user = user }

pub group_is : (tree : Tree) (q : PathName) → option_and_then {U = ⊤} (λ n. if is_group_file q n then Some tt else None) (node_at tree q) ≡ option_map {U = ⊤} (λ (n : Node). tt) (group_node tree q)
group_is tree q = go (node_at tree q)
  where
    by : (b : Bool) (n : Node) → ◌≡◌ {A = Option ⊤} (if b then Some tt else None) (option_map {U = ⊤} (λ (n : Node). tt) (if b then Some n else None))
    by true n = refl
    by false n = refl

    go : (o : Option Node) → option_and_then {U = ⊤} (λ n. if is_group_file q n then Some tt else None) o ≡ option_map {U = ⊤} (λ (n : Node). tt) (elim o as (λ _. Option Node) [ None ↦ None | Some node ↦ if is_group_file q node then Some node else None ])
    go None = refl
    go (Some n) = by (is_group_file q n) n

module _ (owner : List ℕ) (before after : Tree) (sorted : T (is_sorted path_cmp before)) (sorted' : T (is_sorted path_cmp after)) (quiet : IsQuiet before after) where
  facts_quiet : facts_of owner after ≡ facts_of owner before
  unfolding facts_of
  facts_quiet i = record { owner = owner; access = λ dir. option_map (rules_of owner) (quiet.access dir i); group = λ path. option_map (items_of owner) (quiet.groups path i) }

  paths_quiet : group_paths after ≡ group_paths before
  unfolding group_paths
  paths_quiet =
      ap (λ es. keys_of es) (made_same {Y = ⊤} (λ path node. if is_group_file path node then Some tt else None) (λ path node. if is_group_file path node then Some tt else None) after before sorted' sorted
      (λ q. group_is after q ∙ (ap (option_map {U = ⊤} (λ (n : Node). tt)) (quiet.groups q) ∙ sym (group_is before q))))

  -- rights stay
  pub rights_quiet : (loaded : Loading) (user : List ℕ) (path : PathName) → rights (seen_by owner after loaded user) path ≡ rights (seen_by owner before loaded user) path
  unfolding rights
  rights_quiet loaded user path = ap (λ facts. rights_held facts (group_paths after) loaded user path) facts_quiet ∙ ap (λ paths. rights_held (facts_of owner before) paths loaded user path) paths_quiet

  pub governor_quiet : (path : PathName) → governor_node owner after path ≡ governor_node owner before path
  governor_quiet path i = if owns_snapshots owner then None else first_made (λ dir. quiet.access dir i) (prefixes path)

  pub shown_quiet : (loaded : Loading) (user : List ℕ) (entry : Entry) → shown (seen_by owner after loaded user) entry ≡ shown (seen_by owner before loaded user) entry
  shown_quiet loaded user entry = ap (λ (r : Rights). shown_as r.read entry) (rights_quiet loaded user entry.name)

-- ---- events

pub slice_get-front : {X : Type 0} (xs ys : List X) (i : ℕ) → i < length xs → slice_get (xs ++ ys) i ≡ slice_get xs i
slice_get-front [] ys i h = absurd (omega arith)
slice_get-front (x ∷ xs) ys zero h = refl
slice_get-front (x ∷ xs) ys (suc i) h = slice_get-front xs ys i (omega arith)

pub slice_get-last : {X : Type 0} (xs : List X) (x : X) → slice_get (xs ++ x ∷ []) (length xs) ≡ Some x
slice_get-last [] x = refl
slice_get-last (y ∷ xs) x = slice_get-last xs x

pub event_of_same : (now now' then' then'' : Look) (n : ℕ) (change : Change) → ((q : PathName) → rights now q ≡ rights now' q) → ((q : PathName) → rights then' q ≡ rights then'' q) → event_of now then' n change ≡ event_of now' then'' n change
unfolding event_of
event_of_same now now' then' then'' n change h k =
    ap (λ (r : Rights). if has_any r && has_some then' change.entry.name then Some (record { position = suc n; delete = change.delete; entry = shown now change.entry }) else None) (h change.entry.name)
    ∙ (ap (λ (r : Rights). if has_some now' change.entry.name && has_any r then Some (record { position = suc n; delete = change.delete; entry = shown now change.entry }) else None) (k change.entry.name)
    ∙ ap (λ (r : Rights). if has_some now' change.entry.name && has_some then'' change.entry.name then Some (record { position = suc n; delete = change.delete; entry = shown_as r.read change.entry }) else None) (h change.entry.name))

pub option_same : {X Y : Type 0} (f g : X → Option Y) (o : Option X) → ((x : X) → f x ≡ g x) → option_and_then f o ≡ option_and_then g o
option_same f g None h = refl
option_same f g (Some x) h = h x

module _ (log : Log) (rec : Rec) (loaded : Loading) (user : List ℕ) (quiet : IsQuiet (tree_of log.records) (tree_of (log.records ++ rec ∷ []))) where
  after : Log
  after = with_record log rec

  pub now_quiet : (q : PathName) → rights (look_now (with_record log rec) loaded user) q ≡ rights (look_now log loaded user) q
  now_quiet q = rights_quiet log.owner (tree_of log.records) (tree_of (log.records ++ rec ∷ [])) (tree_sorted log.records) (tree_sorted (log.records ++ rec ∷ [])) quiet loaded user q

  front : (i : ℕ) → i ≤ length log.records → take i (log.records ++ rec ∷ []) ≡ take i log.records
  front i h = take-append-le i log.records (rec ∷ []) h

  event_stays : (i : ℕ) → i < length log.records → event_at (with_record log rec) loaded user i ≡ event_at log loaded user i
  unfolding event_at change_at
  event_stays i h =
      option_same _ _ _ (λ change. event_of_same (look_now (with_record log rec) loaded user) (look_now log loaded user) (look_after (suc i) (with_record log rec) loaded user) (look_after (suc i) log loaded user) i change now_quiet
      (λ q. ap (λ records. rights (record { owner = log.owner; tree = tree_of records; loaded = loaded; user = user }) q) (front (suc i) h)))
      ∙ (ap (λ records. option_and_then (event_of (look_now log loaded user) (look_after (suc i) log loaded user) i) (option_and_then (change_in (tree_of records)) (slice_get (log.records ++ rec ∷ []) i))) (front i (omega arith))
      ∙ ap (λ o. option_and_then (event_of (look_now log loaded user) (look_after (suc i) log loaded user) i) (option_and_then (change_in (tree_of (take i log.records))) o)) (slice_get-front log.records (rec ∷ []) i h))

  -- the events of earlier records stay
  pub events_stay : (n : ℕ) → n ≤ length log.records → events_to (with_record log rec) loaded user n ≡ events_to log loaded user n
  unfolding events_to
  events_stay zero h = refl
  events_stay (suc n) h = ap (λ es. es ++ cons_option (event_at (with_record log rec) loaded user n) []) (events_stay n (omega arith)) ∙ ap (λ e. events_to log loaded user n ++ cons_option e []) (event_stays n (omega arith))

  -- the event of the new record
  pub last_event : event_at (with_record log rec) loaded user (length log.records) ≡ option_and_then (event_of (look_now (with_record log rec) loaded user) (look_now (with_record log rec) loaded user) (length log.records)) (change_in (tree_of log.records) rec)
  unfolding event_at change_at
  last_event =
      option_same _ _ _ (λ change. event_of_same (look_now (with_record log rec) loaded user) (look_now (with_record log rec) loaded user) (look_after (suc (length log.records)) (with_record log rec) loaded user) (look_now (with_record log rec) loaded user) (length log.records) change (λ q. refl)
      (λ q. ap (λ records. rights (record { owner = log.owner; tree = tree_of records; loaded = loaded; user = user }) q) whole))
      ∙ (ap (λ records. option_and_then last (option_and_then (change_in (tree_of records)) (slice_get (log.records ++ rec ∷ []) (length log.records)))) (front (length log.records) (omega arith) ∙ take-length log.records)
      ∙ ap (λ o. option_and_then last (option_and_then (change_in (tree_of log.records)) o)) (slice_get-last log.records rec))
    where
      last : Change → Option WatchEvent
      last = event_of (look_now (with_record log rec) loaded user) (look_now (with_record log rec) loaded user) (length log.records)

      whole : take (suc (length log.records)) (log.records ++ rec ∷ []) ≡ log.records ++ rec ∷ []
      whole = take_next (length log.records) (log.records ++ rec ∷ []) rec (slice_get-last log.records rec) ∙ ap (λ rs. rs ++ rec ∷ []) (front (length log.records) (omega arith) ∙ take-length log.records)

  pub events_after : events (with_record log rec) loaded user ≡ events log loaded user ++ cons_option (option_and_then (event_of (look_now (with_record log rec) loaded user) (look_now (with_record log rec) loaded user) (length log.records)) (change_in (tree_of log.records) rec)) []
  unfolding events_to
  events_after =
      ap (λ n. events_to (with_record log rec) loaded user n) (length_push log.records rec ∙ (let e : length log.records + 1 ≡ suc (length log.records) = omega arith in e))
      ∙ (ap (λ es. es ++ cons_option (event_at (with_record log rec) loaded user (length log.records)) []) (events_stay (length log.records) (omega arith))
      ∙ ap (λ e. events log loaded user ++ cons_option e []) last_event)
