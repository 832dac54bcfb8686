-- What is loaded besides changes no reply once nothing more is needed.
use Rattle.std.proofs.Common.{◌≡◌, ℕ, zero, suc, ◌-◌, ◌<◌, ◌≤◌, Bool, true, false, not, ◌&&◌, ◌||◌, List, [], ◌∷◌, ◌++◌, length, map, take, refl, sym, ap, subst, ◌∙◌, ◌⊎◌, inl, inr, arith, Option, Some, None, is_some, unwrap_or, bytes_eq}
use Rattle.std.specs.Prelude.{if◌then◌else◌, ℤ, pos, negsuc, int_le, nat_lt, T, ⊤, Contains, Result, filter, is_none, ◌==◌, ◌+◌}
use Rattle.std.specs.Prelude as std
use Rattle.std.specs.FinMap.Entries.{is_sorted}
use Rattle.std.specs.List.{cons_option, flat_map}
use Rattle.std.specs.Map.{keys_of, values_of}
use Rattle.std.specs.Option.{option_and_then}
use Rattle.std.proofs.lemmas.Bool.{false≢true}
use Rattle.std.proofs.lemmas.List.Elements.{filter-append}
use Rattle.std.proofs.lemmas.Slice.Eq.{bytes_eq-Decides}
use Rattle.up_names.specs.PathNames.{PathName, control_of, cut, is_under, parent_of}
use Rattle.up_names.specs.PathOrder.{path_cmp, path_eq}
use Rattle.up_names.specs.declared.paths.Control.{Control}
use Rattle.up_names.specs.declared.paths.Control.TheVariants as control
use Rattle.up_rights.specs.declared.Right.{Right}
use Rattle.up_rights.specs.declared.Right.TheVariants as right
use Rattle.up_rights.specs.RightSets.{Rights, has_any, has_right}
use Rattle.up_entry.specs.ControlFiles.{is_ordinary}
use Rattle.up_entry.specs.Showing.{shown_as}
use Rattle.up_entry.specs.declared.entries.Entry.{Entry}
use Rattle.up_entry.specs.declared.fault.EntryFault.{EntryFault}
use Rattle.up_entry.specs.declared.puts.Checked.{Checked}
use Rattle.up_entry.specs.declared.records.Rec.{Rec}
use Rattle.up_entry.specs.declared.records.Rec.TheVariants as rec
use Rattle.up_entry.specs.declared.what.What.TheVariants as what
use Rattle.up_policy.specs.Governors.{governor}
use Rattle.up_policy.specs.Loadings.{Loading}
use Rattle.up_policy.specs.Reached.{needed, with_paths}
use Rattle.up_policy.proofs.PathLists.{Contains-head, no_member, with_paths-has}
use Rattle.up_wire.specs.declared.replies.Reply.{Reply}
use Rattle.up_wire.specs.declared.replies.Reply.TheVariants as reply
use Rattle.up_wire.specs.declared.replies.Done.TheVariants as done
use Rattle.up_wire.specs.declared.replies.WatchEvent.{WatchEvent}
use Rattle.up_wire.specs.declared.requests.Request.{Request}
use Rattle.up_log_tree.specs.declared.node.Node.{Node}
use Rattle.up_log_tree.specs.Trees.{Tree, children, node_at, tree_at, tree_of}
use Rattle.up_log_tree.specs.Logs.{Log}
use Rattle.up_log_tree.specs.Orders.{has_path as has}
use Rattle.up_log_tree.specs.Rights.{facts_of, group_paths}
use Rattle.up_log_tree.proofs.Paths.{cut_cut, length_cut, parent_is, path_same, some_none, some_same}
use Rattle.up_log_tree.proofs.Rising.{has-filter}
use Rattle.up_log_tree.proofs.Rooted.{IsRooted, rooted}
use Rattle.up_log_tree.proofs.Trees.{has_node, made_same, tree_sorted}
use Rattle.up_list.specs.declared.asking.ReadRequest.{ReadRequest}
use Rattle.up_list.specs.declared.asking.ReadRequest.TheVariants.{Lookup, WhichAccess, GroupText, Delete, Put, Glob, Watch}
use Rattle.up_list.specs.Asking.{asked_of, owner_asked}
use Rattle.up_list.specs.Changes.{◌>>=◌, added_by, answer_of, refuse, right_to_put, unless}
use Rattle.up_list.specs.Checks.{check, ways, ways_before}
use Rattle.up_list.specs.Globs.{is_candidate, literal_path}
use Rattle.up_list.specs.Reads.{group_text_reply}
use Rattle.up_list.specs.Looks.{has_some, look_after, look_now, rights, shown}
use Rattle.up_answers.specs.Answers.{added, answer, asked_outcome, fault_reply, log_owner, outcome, tree_outcome}
use Rattle.up_answers.specs.Deletes.{delete_outcome}
use Rattle.up_answers.specs.Events.{Change, change_at, event_at, event_of, events_to}
use Rattle.up_answers.specs.Fetching.{Fetched, text_put}
use Rattle.up_answers.specs.Laws.{Extends, IsWhole}
use Rattle.up_answers.specs.Needs.{Place, event_places, event_places_to, items_where, needed_at, needs, needs_asked, owner_places, places, places_for, watch_places, where_ordinary}
use Rattle.up_answers.specs.Puts.{place_refusal, put_outcome}
use Rattle.up_answers.specs.Settled.{RepliesAreSettled}
use Rattle.up_answers.specs.SnapshotReplies.{snapshot_outcome}
use Rattle.up_answers.specs.Watches.{batch, is_watched, items_under, watch_reply, watched}
use Rattle.up_answers.proofs.AlikeLemmas.{AreWays, ways_are}
use Rattle.up_answers.proofs.RightLemmas.{any_from}
use Rattle.up_answers.proofs.SettledRights.{needed_by_governor, owner_controls, owner_looks, rights_settled, seen_by}
use Rattle.up_answers.proofs.SettledReplies.{HeldAlike, SameAt, access_settled, all_same, check_settled, glob_settled, lookup_settled}

-- ---- nothing needed at any of some places

append_none : {X : Type 0} (xs ys : List X) → xs ++ ys ≡ [] → (xs ≡ []) × (ys ≡ [])
append_none [] ys h = (refl, h)
append_none (x ∷ xs) ys h = absurd (cc)

none_noted : (names : List PathName) → with_paths [] names ≡ [] → names ≡ []
none_noted [] h = refl
none_noted (name ∷ names) h = absurd (no_member name (subst (λ l. Contains l name) h (with_paths-has [] (name ∷ names) name (Contains-head name names))))

module _ {P : Type 0} (f : P → List PathName) where
  flat_parts : (xs ys : List P) → flat_map f (xs ++ ys) ≡ [] → (flat_map f xs ≡ []) × (flat_map f ys ≡ [])
  flat_parts [] ys h = (refl, h)
  flat_parts (x ∷ xs) ys h =
      let first = append_none (f x) (flat_map f (xs ++ ys)) h in
      let rest = flat_parts xs ys first.1 in
      (ap (λ l. l ++ flat_map f xs) first.0 ∙ rest.0, rest.1)

-- the items of a tree that pass a test
none_of_items : (f : Place → List PathName) (tree : Tree) (paths : List PathName) → flat_map f (map (λ path. (tree, path)) paths) ≡ [] → (q : PathName) → has paths q ≡ true → f (tree, q) ≡ []
none_of_items f tree [] h q there = absurd (false≢true there)
none_of_items f tree (path ∷ paths) h q there = go (path_eq q path) refl there (λ rest behind. none_of_items f tree paths rest q behind)
  where
    parts : (f (tree, path) ≡ []) × (flat_map f (map (λ path. (tree, path)) paths) ≡ [])
    parts = append_none (f (tree, path)) (flat_map f (map (λ path. (tree, path)) paths)) h

    go : (b : Bool) → path_eq q path ≡ b → (b || has paths q) ≡ true → (flat_map f (map (λ path. (tree, path)) paths) ≡ [] → has paths q ≡ true → f (tree, q) ≡ []) → f (tree, q) ≡ []
    go true e k later = ap (λ p. f (tree, p)) (path_same q path e) ∙ parts.0
    go false e k later = later parts.1 k

items_needed : (f : Place → List PathName) (tree : Tree) (test : PathName → Bool) → flat_map f (items_where test tree) ≡ [] → (q : PathName) → test q ≡ true → is_some (node_at tree q) ≡ true → f (tree, q) ≡ []
items_needed f tree test h q passes there =
    none_of_items f tree (filter test (keys_of tree)) h q (has-filter test (keys_of tree) q ∙ (ap (λ b. b && has (keys_of tree) q) passes ∙ (has_node tree q ∙ there)))

-- the events above a sequence under a path
events_needed : (f : Place → List PathName) (log : Log) (sequence : ℕ) (path : PathName) (m : ℕ) → flat_map f (event_places_to log sequence path m) ≡ [] →
    (n : ℕ) → n < m → flat_map f (event_places log sequence path n) ≡ []
events_needed f log sequence path zero h n less = absurd (omega arith)
events_needed f log sequence path (suc m) h n less = go (cases n m (omega arith)) (λ rest below. events_needed f log sequence path m rest n below)
  where
    parts : (flat_map f (event_places_to log sequence path m) ≡ []) × (flat_map f (event_places log sequence path m) ≡ [])
    parts = flat_parts f (event_places_to log sequence path m) (event_places log sequence path m) h

    cases : (a b : ℕ) → a ≤ b → (a ≡ b) ⊎ (a < b)
    cases a b h = grind arith

    go : (n ≡ m) ⊎ (n < m) → (flat_map f (event_places_to log sequence path m) ≡ [] → n < m → flat_map f (event_places log sequence path n) ≡ []) → flat_map f (event_places log sequence path n) ≡ []
    go (inl same) later = ap (λ k. flat_map f (event_places log sequence path k)) same ∙ parts.1
    go (inr below) later = later parts.0 below

event_needed : (f : Place → List PathName) (log : Log) (sequence : ℕ) (path : PathName) (n : ℕ) (change : Change) → change_at log.records n ≡ Some change → (nat_lt sequence (suc n) && is_under change.entry.name path) ≡ true →
    flat_map f (event_places log sequence path n) ≡ [] → (f (tree_of log.records, change.entry.name) ≡ []) × (f (tree_at log.records (suc n), change.entry.name) ≡ [])
event_needed f log sequence path n change at watched' h =
    let here : flat_map f ((tree_of log.records, change.entry.name) ∷ (tree_at log.records (suc n), change.entry.name) ∷ []) ≡ [] =
    sym (ap (λ (o : Option Change). flat_map f (elim o as (λ _. List Place) [ None ↦ [] | Some c ↦ if nat_lt sequence (suc n) && is_under c.entry.name path then (tree_of log.records, c.entry.name) ∷ (tree_at log.records (suc n), c.entry.name) ∷ [] else [] ])) at
    ∙ ap (λ b. flat_map f (if b then (tree_of log.records, change.entry.name) ∷ (tree_at log.records (suc n), change.entry.name) ∷ [] else [])) watched') ∙ h in
    let first = append_none (f (tree_of log.records, change.entry.name)) (flat_map f ((tree_at log.records (suc n), change.entry.name) ∷ [])) here in
    let second = append_none (f (tree_at log.records (suc n), change.entry.name)) [] first.1 in
    (first.0, second.0)

-- ---- Watch

name_kept : (read : Bool) (entry : Entry) → (shown_as read entry).name ≡ entry.name
name_kept true entry = refl
name_kept false entry = refl

module _ (log : Log) (less more : Loading) (user : List ℕ) where
  -- an event of a change under the watched path is one
  abbrev EventsSame : ℕ → PathName → Type 0
  EventsSame sequence path = (n : ℕ) (change : Change) → n < length log.records → change_at log.records n ≡ Some change → (nat_lt sequence (suc n) && is_under change.entry.name path) ≡ true →
      SameAt (look_now log less user) (look_now log more user) change.entry.name × (has_some (look_after (suc n) log less user) change.entry.name ≡ has_some (look_after (suc n) log more user) change.entry.name)

  event_same : (sequence : ℕ) (path : PathName) (n : ℕ) → EventsSame sequence path → n < length log.records →
      filter (is_watched sequence path) (cons_option (event_at log less user n) []) ≡ filter (is_watched sequence path) (cons_option (event_at log more user n) [])
  unfolding event_at event_of
  event_same sequence path n each low = go (change_at log.records n) refl
    where
      event : Loading → Change → Option WatchEvent
      event loaded change =
          if has_some (look_now log loaded user) change.entry.name && has_some (look_after (suc n) log loaded user) change.entry.name
          then Some (record { position = suc n; delete = change.delete; entry = shown (look_now log loaded user) change.entry }) else None

      outside : (change : Change) → (nat_lt sequence (suc n) && is_under change.entry.name path) ≡ false → (b : Bool) (read : Bool) →
          filter (is_watched sequence path) (cons_option (if b then Some (record { position = suc n; delete = change.delete; entry = shown_as read change.entry }) else None) []) ≡ []
      outside change e false read = refl
      outside change e true read =
          ap (λ c. if c then record { position = suc n; delete = change.delete; entry = shown_as read change.entry } ∷ [] else [])
          (ap (λ name. nat_lt sequence (suc n) && is_under name path) (name_kept read change.entry) ∙ e)

      by : (change : Change) → change_at log.records n ≡ Some change → (b : Bool) → (nat_lt sequence (suc n) && is_under change.entry.name path) ≡ b →
          filter (is_watched sequence path) (cons_option (event less change) []) ≡ filter (is_watched sequence path) (cons_option (event more change) [])
      by change at true e =
          let same = each n change low at e in
          ap (λ (o : Option WatchEvent). filter (is_watched sequence path) (cons_option o []))
          (ap (λ b. if b && has_some (look_after (suc n) log less user) change.entry.name then Some (record { position = suc n; delete = change.delete; entry = shown (look_now log less user) change.entry }) else None) same.0.some
          ∙ (ap (λ b. if has_some (look_now log more user) change.entry.name && b then Some (record { position = suc n; delete = change.delete; entry = shown (look_now log less user) change.entry }) else None) same.1
          ∙ ap (λ b. if has_some (look_now log more user) change.entry.name && has_some (look_after (suc n) log more user) change.entry.name then Some (record { position = suc n; delete = change.delete; entry = shown_as b change.entry }) else None) same.0.read))
      by change at false e =
          outside change e (has_some (look_now log less user) change.entry.name && has_some (look_after (suc n) log less user) change.entry.name) (rights (look_now log less user) change.entry.name).read
          ∙ sym (outside change e (has_some (look_now log more user) change.entry.name && has_some (look_after (suc n) log more user) change.entry.name) (rights (look_now log more user) change.entry.name).read)

      go : (o : Option Change) → change_at log.records n ≡ o →
          filter (is_watched sequence path) (cons_option (option_and_then (event less) o) []) ≡ filter (is_watched sequence path) (cons_option (option_and_then (event more) o) [])
      go None e = refl
      go (Some change) e = by change e (nat_lt sequence (suc n) && is_under change.entry.name path) refl

  events_same : (sequence : ℕ) (path : PathName) (n : ℕ) → EventsSame sequence path → n ≤ length log.records →
      filter (is_watched sequence path) (events_to log less user n) ≡ filter (is_watched sequence path) (events_to log more user n)
  unfolding events_to
  events_same sequence path zero each low = refl
  events_same sequence path (suc n) each low =
      filter-append (is_watched sequence path) (events_to log less user n) (cons_option (event_at log less user n) [])
      ∙ (ap (λ es. es ++ filter (is_watched sequence path) (cons_option (event_at log less user n) [])) (events_same sequence path n each (omega arith))
      ∙ (ap (λ es. filter (is_watched sequence path) (events_to log more user n) ++ es) (event_same sequence path n each (omega arith))
      ∙ sym (filter-append (is_watched sequence path) (events_to log more user n) (cons_option (event_at log more user n) []))))

  items_same : (r : IsRooted log.owner (tree_of log.records)) (path : PathName) →
      ((q : PathName) → is_under q path ≡ true → is_some (node_at (tree_of log.records) q) ≡ true → SameAt (look_now log less user) (look_now log more user) q) →
      items_under (look_now log less user) path ≡ items_under (look_now log more user) path
  unfolding items_under
  items_same r path each =
      ap (λ es. values_of es) (made_same {Y = WatchEvent} (item less) (item more) (tree_of log.records) (tree_of log.records) (tree_sorted log.records) (tree_sorted log.records)
      (λ q. go q (node_at (tree_of log.records) q) refl))
    where
      item : Loading → PathName → Node → Option WatchEvent
      item loaded name node =
          if is_under name path && has_some (look_now log loaded user) name
          then Some (record { position = node.entry.sequence; delete = false; entry = shown (look_now log loaded user) node.entry }) else None

      by : (q : PathName) (node : Node) → node_at (tree_of log.records) q ≡ Some node → (b : Bool) → is_under q path ≡ b →
          if◌then◌else◌ {A = Option WatchEvent} (b && has_some (look_now log less user) q) (Some (record { position = node.entry.sequence; delete = false; entry = shown (look_now log less user) node.entry })) None
          ≡ if◌then◌else◌ {A = Option WatchEvent} (b && has_some (look_now log more user) q) (Some (record { position = node.entry.sequence; delete = false; entry = shown (look_now log more user) node.entry })) None
      by q node there false e = refl
      by q node there true e =
          let at = each q e (ap is_some there) in
          let at_name : SameAt (look_now log less user) (look_now log more user) node.entry.name = subst (SameAt (look_now log less user) (look_now log more user)) (sym (r.named q node there)) at in
          ap (λ b. if◌then◌else◌ {A = Option WatchEvent} b (Some (record { position = node.entry.sequence; delete = false; entry = shown (look_now log less user) node.entry })) None) at.some
          ∙ ap (λ b. if◌then◌else◌ {A = Option WatchEvent} (has_some (look_now log more user) q) (Some (record { position = node.entry.sequence; delete = false; entry = shown_as b node.entry })) None) at_name.read

      go : (q : PathName) (o : Option Node) → node_at (tree_of log.records) q ≡ o → option_and_then (item less q) o ≡ option_and_then (item more q) o
      go q None e = refl
      go q (Some node) e = by q node e (is_under q path) refl

  -- what is told of a path
  abbrev WatchedSame : PathName → ℤ → Type 0
  WatchedSame path (pos sequence) = EventsSame sequence path
  WatchedSame path (negsuc zero) = (q : PathName) → is_under q path ≡ true → is_some (node_at (tree_of log.records) q) ≡ true → SameAt (look_now log less user) (look_now log more user) q
  WatchedSame path (negsuc (suc n)) = ⊤

  watched_same : (r : IsRooted log.owner (tree_of log.records)) (path : PathName) (sequence : ℤ) → WatchedSame path sequence → watched log less user path sequence ≡ watched log more user path sequence
  unfolding watched
  watched_same r path (pos sequence) each =
      ap (λ es. if nat_lt (length log.records) sequence then reply.Invalid what.Sequence else batch (length log.records) es) (events_same sequence path (length log.records) each (omega arith))
  watched_same r path (negsuc zero) each = ap (λ es. reply.Ok (done.Events es (length log.records))) (items_same r path each)
  watched_same r path (negsuc (suc n)) each = refl

  pub watch_same : (r : IsRooted log.owner (tree_of log.records)) (path : PathName) (sequence : ℤ) → check (look_now log less user) (ways path) path None ≡ check (look_now log more user) (ways path) path None → WatchedSame path sequence →
      watch_reply log less user path sequence ≡ watch_reply log more user path sequence
  unfolding watch_reply
  watch_same r path sequence checked each =
      ap (λ o. if not (int_le (negsuc 1) sequence) then reply.Invalid what.Sequence else unwrap_or o (watched log less user path sequence)) checked
      ∙ ap (λ w. if not (int_le (negsuc 1) sequence) then reply.Invalid what.Sequence else unwrap_or (check (look_now log more user) (ways path) path None) w) (watched_same r path sequence each)

-- ---- changes

ways_before_are : (path : PathName) → AreWays (ways_before path) path
unfolding ways_before
ways_before_are path = go (parent_of path) refl
  where
    go : (o : Option PathName) → parent_of path ≡ o → AreWays (elim o as (λ _. List PathName) [ None ↦ [] | Some parent ↦ ways parent ]) path
    go None is = record { each = λ q h. absurd (no_member q h) }
    go (Some dir) is = record { each = λ q h. up (length path.elements) refl dir is q h }
      where
        up : (l : ℕ) → length path.elements ≡ l → (dir : PathName) → parent_of path ≡ Some dir → (q : PathName) → Contains (ways dir) q → (m : ℕ) × (m ≤ length path.elements) × (q ≡ cut m path)
        up zero l dir is q h = absurd (some_none dir (sym is ∙ ap (λ n. if nat_lt 0 n then Some (cut (n - 1) path) else None) l))
        up (suc n) l dir is q h =
            let same : dir ≡ cut n path = some_same dir (cut n path) (sym is ∙ parent_is path n l) in
            let found = (ways_are dir).each q h in
            let size : length dir.elements ≡ n = ap (λ (p : PathName). length p.elements) same ∙ length_cut n path (omega arith) in
            let low : found.0 ≤ n = omega (arith, found.1) in
            (found.0, (omega arith), found.2 ∙ (ap (cut found.0) same ∙ cut_cut found.0 n path low))

module _ (log : Log) (less more : Loading) (user : List ℕ) where
  delete_same : (path : PathName) → check (look_now log less user) (ways_before path) path (Some right.Delete) ≡ check (look_now log more user) (ways_before path) path (Some right.Delete) →
      delete_outcome (look_now log less user) path ≡ delete_outcome (look_now log more user) path
  unfolding delete_outcome
  delete_same path checked =
      ap (λ o. unless o >>= λ allowed. refuse (is_none (node_at (tree_of log.records) path)) reply.NotExist >>= λ there. refuse (not (length (children (tree_of log.records) path) == 0)) reply.NotEmpty >>= λ empty. std.Ok (rec.Delete path)) checked

  put_same : (n : ℕ) (fetched : Fetched) (put : Checked) →
      check (look_now log less user) (ways put.entry.name) put.entry.name (Some (right_to_put (node_at (tree_of log.records) put.entry.name))) ≡ check (look_now log more user) (ways put.entry.name) put.entry.name (Some (right_to_put (node_at (tree_of log.records) put.entry.name))) →
      put_outcome (look_now log less user) n fetched put ≡ put_outcome (look_now log more user) n fetched put
  unfolding put_outcome
  put_same n fetched put checked =
      ap (λ o. unless o >>= λ allowed. place_refusal (node_at (tree_of log.records) put.entry.name) (tree_of log.records) put >>= λ placed. text_put log.owner fetched put.entry >>= λ text. std.Ok (rec.Put (record (put.entry) { sequence = n + 1 }) text)) checked

text_same : (log : Log) (less more : Loading) (user : List ℕ) (path : PathName) → group_text_reply (look_now log less user) path ≡ group_text_reply (look_now log more user) path
unfolding group_text_reply
text_same log less more user path = refl

-- ---- all requests on a path of the tree

control_cases : (c : Control) → (is_ordinary c ≡ true) ⊎ (elim c as (λ _. Bool) [ control.Ordinary ↦ false | control.Access ↦ true | control.Group ↦ true ] ≡ true)
control_cases control.Ordinary = inl refl
control_cases control.Access = inr refl
control_cases control.Group = inr refl

module _ (log : Log) (less more : Loading) (fetched : Fetched) (user : List ℕ) (whole : IsWhole log) (extends : Extends less more) where
  r : IsRooted log.owner (tree_of log.records)
  r = rooted log.owner log.records whole.fitting

  sorted : T (is_sorted path_cmp (tree_of log.records))
  sorted = tree_sorted log.records

  -- nothing is needed at a path
  abbrev Free : Tree → PathName → Type 0
  Free tree path = needed (facts_of log.owner tree) (group_paths tree) less path ≡ []

  free_same : (path : PathName) → Free (tree_of log.records) path → SameAt (look_now log less user) (look_now log more user) path
  free_same path free = all_same (look_now log less user) (look_now log more user) path (rights_settled log.owner (tree_of log.records) (tree_sorted log.records) less more extends user path free)

  free_moves : (p q : PathName) → governor (facts_of log.owner (tree_of log.records)) q ≡ governor (facts_of log.owner (tree_of log.records)) p → Free (tree_of log.records) p → Free (tree_of log.records) q
  free_moves p q same free = needed_by_governor (facts_of log.owner (tree_of log.records)) (group_paths (tree_of log.records)) less q p same ∙ free

  free_check : (tested : List PathName) (path : PathName) (needed' : Option Right) → AreWays tested path → Free (tree_of log.records) path → HeldAlike (look_now log less user) (look_now log more user) path needed' →
      check (look_now log less user) tested path needed' ≡ check (look_now log more user) tested path needed'
  free_check = check_settled log.owner (tree_of log.records) r sorted user less more (Free (tree_of log.records)) free_same free_moves

  free_held : (path : PathName) (right' : Right) → Free (tree_of log.records) path → has_right (rights (look_now log less user) path) right' ≡ has_right (rights (look_now log more user) path) right'
  free_held path right' free = ap (λ (set : Rights). has_right set right') (rights_settled log.owner (tree_of log.records) (tree_sorted log.records) less more extends user path free)

  abbrev noted : Place → List PathName
  noted = needed_at log less

  -- ---- another user

  watch_free : (path : PathName) (sequence : ℤ) → flat_map (needed_at log less) (watch_places log path sequence) ≡ [] → WatchedSame log less more user path sequence
  watch_free path (pos sequence) none =
      λ n change low at watched'.
      let free = event_needed (needed_at log less) log sequence path n change at watched' (events_needed (needed_at log less) log sequence path (length log.records) none n low) in (
        free_same change.entry.name free.0,
        ap (λ (set : Rights). has_any set) (rights_settled log.owner (tree_at log.records (suc n)) (tree_sorted (take (suc n) log.records)) less more extends user change.entry.name free.1),
      )
  watch_free path (negsuc zero) none = λ q under there. free_same q (items_needed (needed_at log less) (tree_of log.records) (λ name. is_under name path) none q under there)
  watch_free path (negsuc (suc n)) none = tt

  others_settled : (asked : ReadRequest) → owner_asked asked ≡ log.owner → flat_map (needed_at log less) (places log asked) ≡ [] → tree_outcome log less fetched user asked ≡ tree_outcome log more fetched user asked
  unfolding tree_outcome places
  others_settled (Lookup path) owned none =
      let free = append_none (needed_at log less (tree_of log.records, path)) [] none in
      ap (λ r. std.Err r) (lookup_settled log.owner (tree_of log.records) r sorted user less more (Free (tree_of log.records)) free_same free_moves path free.0)
  others_settled (WhichAccess path) owned none =
      let free = append_none (needed_at log less (tree_of log.records, path)) [] none in
      ap (λ r. std.Err r) (access_settled log.owner (tree_of log.records) r sorted user less more (Free (tree_of log.records)) free_same free_moves path free.0)
  others_settled (GroupText path) owned none = ap (λ r. std.Err r) (text_same log less more user path)
  others_settled (Delete path) owned none =
      let free = append_none (needed_at log less (tree_of log.records, path)) [] none in
      delete_same log less more user path (free_check (ways_before path) path (Some right.Delete) (ways_before_are path) free.0 (free_held path right.Delete free.0))
  others_settled (Put put) owned none =
      let free = append_none (needed_at log less (tree_of log.records, put.entry.name)) [] none in
      put_same log less more user (length log.records) fetched put
      (free_check (ways put.entry.name) put.entry.name (Some (right_to_put (node_at (tree_of log.records) put.entry.name))) (ways_are put.entry.name) free.0 (free_held put.entry.name (right_to_put (node_at (tree_of log.records) put.entry.name)) free.0))
  others_settled (Glob pattern) owned none =
      let free = append_none (needed_at log less (tree_of log.records, literal_path pattern)) (flat_map (needed_at log less) (items_where (is_candidate pattern) (tree_of log.records))) none in
      ap (λ r. std.Err r) (glob_settled log.owner (tree_of log.records) r sorted user less more (Free (tree_of log.records)) free_same free_moves pattern owned free.0
      (λ path candidate there. items_needed (needed_at log less) (tree_of log.records) (is_candidate pattern) free.1 path candidate there))
  others_settled (Watch path sequence) owned none =
      let free = append_none (needed_at log less (tree_of log.records, path)) (flat_map (needed_at log less) (watch_places log path sequence)) none in
      ap (λ r. std.Err r) (watch_same log less more user r path sequence (free_check (ways path) path None (ways_are path) free.0 tt) (watch_free path sequence free.1))

-- ---- the owner

module _ (log : Log) (less more : Loading) (fetched : Fetched) (whole : IsWhole log) (extends : Extends less more) where
  looks_same : (tree : Tree) (path : PathName) → SameAt (seen_by log.owner tree less log.owner) (seen_by log.owner tree more log.owner) path
  looks_same tree path = record {
    some =
        any_from (rights (seen_by log.owner tree less log.owner) path) right.Read (owner_looks log.owner tree less whole.plain right.Read path refl)
        ∙ sym (any_from (rights (seen_by log.owner tree more log.owner) path) right.Read (owner_looks log.owner tree more whole.plain right.Read path refl));
    read = owner_looks log.owner tree less whole.plain right.Read path refl ∙ sym (owner_looks log.owner tree more whole.plain right.Read path refl);
    list = owner_looks log.owner tree less whole.plain right.List path refl ∙ sym (owner_looks log.owner tree more whole.plain right.List path refl);
  }

  owner_rooted : IsRooted log.owner (tree_of log.records)
  owner_rooted = rooted log.owner log.records whole.fitting

  abbrev All : PathName → Type 0
  All path = ⊤

  owner_check : (tested : List PathName) (path : PathName) (needed' : Option Right) → AreWays tested path → HeldAlike (look_now log less log.owner) (look_now log more log.owner) path needed' →
      check (look_now log less log.owner) tested path needed' ≡ check (look_now log more log.owner) tested path needed'
  owner_check tested path needed' are held = check_settled log.owner (tree_of log.records) owner_rooted (tree_sorted log.records) log.owner less more All (λ p _. looks_same (tree_of log.records) p) (λ p q _ _. tt) tested path needed' are tt held

  -- the right to change what stands at a path
  owner_held : (path : PathName) (right' : Right) → flat_map (needed_at log less) (where_ordinary log path) ≡ [] → has_right (rights (look_now log less log.owner) path) right' ≡ has_right (rights (look_now log more log.owner) path) right'
  owner_held path right' none = elim (control_cases (control_of path)) [
    | inl ordinary ↦
        let free = append_none (needed_at log less (tree_of log.records, path)) [] (sym (ap (λ b. flat_map (needed_at log less) (if b then (tree_of log.records, path) ∷ [] else [])) ordinary) ∙ none) in
        ap (λ (set : Rights). has_right set right') (rights_settled log.owner (tree_of log.records) (tree_sorted log.records) less more extends log.owner path free.0)
    | inr controls ↦ owner_controls log.owner (tree_of log.records) less whole.plain right' path controls ∙ sym (owner_controls log.owner (tree_of log.records) more whole.plain right' path controls)
  ]

  owner_watch : (path : PathName) (sequence : ℤ) → WatchedSame log less more log.owner path sequence
  owner_watch path (pos sequence) = λ n change low at watched'. (looks_same (tree_of log.records) change.entry.name, (looks_same (tree_at log.records (suc n)) change.entry.name).some)
  owner_watch path (negsuc zero) = λ q under there. looks_same (tree_of log.records) q
  owner_watch path (negsuc (suc n)) = tt

  owner_settled : (asked : ReadRequest) → owner_asked asked ≡ log.owner → flat_map (needed_at log less) (owner_places log asked) ≡ [] → tree_outcome log less fetched log.owner asked ≡ tree_outcome log more fetched log.owner asked
  unfolding tree_outcome owner_places
  owner_settled (Lookup path) owned none =
      ap (λ r. std.Err r) (lookup_settled log.owner (tree_of log.records) owner_rooted (tree_sorted log.records) log.owner less more All (λ p _. looks_same (tree_of log.records) p) (λ p q _ _. tt) path tt)
  owner_settled (WhichAccess path) owned none =
      ap (λ r. std.Err r) (access_settled log.owner (tree_of log.records) owner_rooted (tree_sorted log.records) log.owner less more All (λ p _. looks_same (tree_of log.records) p) (λ p q _ _. tt) path tt)
  owner_settled (GroupText path) owned none = ap (λ r. std.Err r) (text_same log less more log.owner path)
  owner_settled (Delete path) owned none =
      delete_same log less more log.owner path (owner_check (ways_before path) path (Some right.Delete) (ways_before_are path) (owner_held path right.Delete none))
  owner_settled (Put put) owned none =
      put_same log less more log.owner (length log.records) fetched put
      (owner_check (ways put.entry.name) put.entry.name (Some (right_to_put (node_at (tree_of log.records) put.entry.name))) (ways_are put.entry.name) (owner_held put.entry.name (right_to_put (node_at (tree_of log.records) put.entry.name)) none))
  owner_settled (Glob pattern) owned none =
      ap (λ r. std.Err r) (glob_settled log.owner (tree_of log.records) owner_rooted (tree_sorted log.records) log.owner less more All (λ p _. looks_same (tree_of log.records) p) (λ p q _ _. tt) pattern owned tt (λ path candidate there. tt))
  owner_settled (Watch path sequence) owned none =
      ap (λ r. std.Err r) (watch_same log less more log.owner owner_rooted path sequence (owner_check (ways path) path None (ways_are path) tt) (owner_watch path sequence))

-- ---- all requests

module _ (log : Log) (less more : Loading) (fetched : Fetched) (user : List ℕ) (now : ℕ) (whole : IsWhole log) (extends : Extends less more) where
  tree_settled : (asked : ReadRequest) → owner_asked asked ≡ log.owner → (b : Bool) → bytes_eq user log.owner ≡ b → flat_map (needed_at log less) (if b then owner_places log asked else places log asked) ≡ [] →
      tree_outcome log less fetched user asked ≡ tree_outcome log more fetched user asked
  tree_settled asked owned true e none =
      let own : user ≡ log.owner = (bytes_eq-Decides user log.owner).0 e in
      subst (λ u. tree_outcome log less fetched u asked ≡ tree_outcome log more fetched u asked) (sym own) (owner_settled log less more fetched whole extends asked owned none)
  tree_settled asked owned false e none = others_settled log less more fetched user whole extends asked owned none

  asked_settled : (asked : ReadRequest) → needs_asked log less user asked ≡ [] → asked_outcome log less fetched user asked now ≡ asked_outcome log more fetched user asked now
  unfolding asked_outcome needs_asked
  asked_settled asked none = go (bytes_eq (owner_asked asked) log.owner) refl (none_noted (flat_map (needed_at log less) (places_for log user asked)) none)
    where
      go : (b : Bool) → bytes_eq (owner_asked asked) log.owner ≡ b → flat_map (needed_at log less) (if not b then [] else if bytes_eq user log.owner then owner_places log asked else places log asked) ≡ [] →
          (if b then tree_outcome log less fetched user asked else if bytes_eq (log_owner (owner_asked asked)) log.owner then snapshot_outcome log user asked now else std.Err reply.WrongHost)
          ≡ (if b then tree_outcome log more fetched user asked else if bytes_eq (log_owner (owner_asked asked)) log.owner then snapshot_outcome log user asked now else std.Err reply.WrongHost)
      go true e none = tree_settled asked ((bytes_eq-Decides (owner_asked asked) log.owner).0 e) (bytes_eq user log.owner) refl none
      go false e none = refl

  led_settled : (request' : Request) → needs log less user request' ≡ [] → outcome log less fetched user request' now ≡ outcome log more fetched user request' now
  unfolding outcome needs
  led_settled request' none = go (asked_of user request') none
    where
      go : (o : Result ReadRequest EntryFault) → (elim o as (λ _. List PathName) [ std.Ok asked ↦ needs_asked log less user asked | std.Err fault ↦ [] ]) ≡ [] →
          (elim o as (λ _. Result Rec Reply) [ std.Ok asked ↦ asked_outcome log less fetched user asked now | std.Err fault ↦ std.Err (fault_reply fault) ])
          ≡ (elim o as (λ _. Result Rec Reply) [ std.Ok asked ↦ asked_outcome log more fetched user asked now | std.Err fault ↦ std.Err (fault_reply fault) ])
      go (std.Ok asked) none = asked_settled asked none
      go (std.Err fault) none = refl

pub replies_are_settled : RepliesAreSettled
unfolding answer added
replies_are_settled log less more fetched user request' now whole extends none =
    let same = led_settled log less more fetched user now whole extends request' none in
    (ap (answer_of log) same, ap (added_by log) same)
