-- The events of a log above a sequence, on paths under one, are what is told of the records that change such paths.
use Rattle.std.proofs.Common.{◌≡◌, ◌≢◌, ℕ, zero, suc, ◌+◌, ◌-◌, ◌<◌, ◌≤◌, Bool, true, false, not, ◌&&◌, List, [], ◌∷◌, length, take, drop, refl, sym, ap, subst, ◌∙◌, arith, Option, Some, None}
use Rattle.std.specs.Prelude.{pos, if◌then◌else◌, filter, nat_lt, slice_get, IfOk, MatchOption, Result}
use Rattle.std.specs.declared.alloc.AllocError.{AllocError}
use Rattle.std.specs.List.{AllByRecursion, filter_map}
use Rattle.std.specs.Option.{option_and_then, option_map}
use Rattle.std.proofs.lemmas.Bool.{false≢true, le-ltb, lt-ltb}
use Rattle.up_names.specs.PathNames.{PathName, is_under, parent_of}
use Rattle.up_rights.specs.RightSets.{Rights, has_any}
use Rattle.up_entry.specs.Showing.{shown_as}
use Rattle.up_entry.specs.declared.entries.Entry.{Entry}
use Rattle.up_entry.specs.declared.records.Rec.{Rec}
use Rattle.up_entry.specs.declared.records.Rec.TheVariants.{Put, Delete, Snap}
use Rattle.up_wire.specs.declared.replies.WatchEvent.{WatchEvent}
use Rattle.up_wire.specs.declared.replies.Reply.TheVariants.{Invalid}
use Rattle.up_entry.specs.declared.what.What.TheVariants as what
use Rattle.up_policy.specs.Loadings.{Loading}
use Rattle.up_mem_tree.specs.MemTrees.{TreeLog}
use Rattle.up_log_tree.specs.Changes.{changes_some, changes_under, path_of_change, positions_of}
use Rattle.up_log_tree.specs.Fits.{HasDirectory, HasPlace, IsLog, PutFits}
use Rattle.up_log_tree.specs.Logs.{Limits, Log}
use Rattle.up_log_tree.specs.Trees.{Tree, node_at, tree_at}
use Rattle.up_log_tree.specs.declared.node.Node.{Node}
use Rattle.up_log_tree.proofs.Paths.{some_none, some_same}
use Rattle.up_log_tree.proofs.Rooted.{rooted_at}
use Rattle.up_mem_tree.proofs.LogLaws.{front}
use Rattle.up_list.specs.Rooted.{IsRooted}
use Rattle.up_list.proofs.BelowLemmas.{parent_is}
use Rattle.up_list.proofs.FrontLemmas.{owner_of}
use Rattle.up_list.proofs.ViewLemmas.{rooted_log}
use Rattle.up_list.specs.Looks.{Look, has_some, look_after, look_now, rights, shown}
use Rattle.up_answers.specs.Events.{Change, change_at, change_in, event_at, event_of, events, events_to}
use Rattle.up_answers.specs.Watches.{batch, is_watched, watched}
use Rattle.up_watch.specs.Watching.{Watching, after, log_in, now, told}
use Rattle.up_watch.specs.Batches.{IsPosition}
use Rattle.up_watch.proofs.Listed.{those_behind}

-- ---- positions

all_positions : (log : List Rec) (test : Rec → Bool) (k : ℕ) (records : List Rec) → k + length records ≤ length log → AllByRecursion (IsPosition log) (positions_of test k records)
all_positions log test k [] within = tt
all_positions log test k (rec ∷ records) within = go (test rec) (all_positions log test (suc k) records (omega (arith, within)))
  where
    go : (b : Bool) → AllByRecursion (IsPosition log) (positions_of test (suc k) records) → AllByRecursion (IsPosition log) (if b then suc k ∷ positions_of test (suc k) records else positions_of test (suc k) records)
    go true rest = (record { first = omega arith; within = omega (arith, within) }, rest)
    go false rest = rest

length_drop : {X : Type 0} (n : ℕ) (xs : List X) → n ≤ length xs → n + length (drop n xs) ≡ length xs
length_drop zero xs h = omega arith
length_drop (suc n) [] h = absurd (omega (arith, h))
length_drop (suc n) (x ∷ xs) h = let e = length_drop n xs (omega (arith, h)) in omega (arith, e)

pub positions_within : (log : List Rec) (path : PathName) (above : ℕ) → above ≤ length log → AllByRecursion (IsPosition log) (changes_under log path above)
unfolding changes_under
positions_within log path above within =
    all_positions log (changes_some (λ name. is_under name path)) above (drop above log) (let e = length_drop above log within in omega (arith, e))

-- ---- what is told of one record

-- the parts of an event
record IsOf (records : List Rec) (n : ℕ) (event : WatchEvent) : Type 0 where
  change : Change
  is : change_at records n ≡ Some change
  position : event.position ≡ suc n
  name : event.entry.name ≡ change.entry.name

shown_name : (b : Bool) (e : Entry) → (shown_as b e).name ≡ e.name
shown_name true e = refl
shown_name false e = refl

of_change : (look was : Look) (records : List Rec) (n : ℕ) (event : WatchEvent) (change : Change) → change_at records n ≡ Some change → event_of look was n change ≡ Some event → IsOf records n event
unfolding event_of
of_change look was records n event change is made = go (has_some look change.entry.name && has_some was change.entry.name) made
  where
    whole : WatchEvent
    whole = record { position = suc n; delete = change.delete; entry = shown look change.entry }

    go : (b : Bool) → (if b then Some whole else None) ≡ Some event → IsOf records n event
    go true e =
        let same : whole ≡ event = some_same whole event e in record {
          change = change;
          is = is;
          position = ap (λ (e : WatchEvent). e.position) (sym same);
          name = ap (λ (e : WatchEvent). e.entry.name) (sym same) ∙ shown_name (rights look change.entry.name).read change.entry;
        }
    go false e = absurd (some_none event (sym e))

event_parts : (look was : Look) (records : List Rec) (n : ℕ) (event : WatchEvent) → option_and_then (event_of look was n) (change_at records n) ≡ Some event → IsOf records n event
event_parts look was records n event made = go (change_at records n) refl made
  where
    go : (o : Option Change) → change_at records n ≡ o → option_and_then (event_of look was n) o ≡ Some event → IsOf records n event
    go None is e = absurd (some_none event (sym e))
    go (Some change) is e = of_change look was records n event change is e

-- a change is of the path that its record changes
change_path : (owner : List ℕ) (records : List Rec) → IsLog owner records → (n : ℕ) (rec : Rec) (change : Change) → slice_get records n ≡ Some rec → change_at records n ≡ Some change → path_of_change rec ≡ Some change.entry.name
unfolding change_at change_in
change_path owner records log n rec change is made = go rec (sym (ap (option_and_then (change_in (tree_at records n))) is) ∙ made)
  where
    go : (rec : Rec) → change_in (tree_at records n) rec ≡ Some change → path_of_change rec ≡ Some change.entry.name
    go (Put entry text) e = ap (λ (c : Change). Some c.entry.name) (some_same (record { delete = false; entry = entry }) change e)
    go (Snap time) e = absurd (some_none change (sym e))
    go (Delete path) e = there (node_at (tree_at records n) path) refl e
      where
        there : (o : Option Node) → node_at (tree_at records n) path ≡ o → option_map (λ (node : Node). record { delete = true; entry = node.entry }) o ≡ Some change → Some path ≡ Some change.entry.name
        there None found f = absurd (some_none change (sym f))
        there (Some node) found f =
            ap Some (sym ((rooted_at owner records log.fitting n).named path node found))
            ∙ ap (λ (c : Change). Some c.entry.name) (some_same (record { delete = true; entry = node.entry }) change f)

-- it is of the owner
place_owned : (owner : List ℕ) (tree : Tree) → IsRooted owner tree → (path : PathName) → HasPlace owner tree path → path.owner ≡ owner
place_owned owner tree rooted path place = go (parent_of path) refl place
  where
    go : (o : Option PathName) → parent_of path ≡ o → MatchOption o (path.owner ≡ owner) (HasDirectory tree) → path.owner ≡ owner
    go None none h = h
    go (Some dir) some h = ap (λ (p : PathName). p.owner) (parent_is path dir some).1 ∙ owner_of owner tree rooted dir h.0 h.1

pub change_owned : (owner : List ℕ) (records : List Rec) → IsLog owner records → (n : ℕ) (change : Change) → change_at records n ≡ Some change → change.entry.name.owner ≡ owner
unfolding change_at change_in
change_owned owner records log n change made = go (slice_get records n) refl made
  where
    rooted : IsRooted owner (tree_at records n)
    rooted = rooted_log owner (take n records) (front owner records n log)

    by : (rec : Rec) → slice_get records n ≡ Some rec → change_in (tree_at records n) rec ≡ Some change → change.entry.name.owner ≡ owner
    by (Put entry text) at e =
        let fits : PutFits owner (take n records) entry text = log.fitting.each n (Put entry text) at in
        ap (λ (c : Change). c.entry.name.owner) (sym (some_same (record { delete = false; entry = entry }) change e)) ∙ place_owned owner (tree_at records n) rooted entry.name fits.place
    by (Snap time) at e = absurd (some_none change (sym e))
    by (Delete path) at e = there (node_at (tree_at records n) path) refl e
      where
        there : (o : Option Node) → node_at (tree_at records n) path ≡ o → option_map (λ (node : Node). record { delete = true; entry = node.entry }) o ≡ Some change → change.entry.name.owner ≡ owner
        there None found f = absurd (some_none change (sym f))
        there (Some node) found f =
            ap (λ (c : Change). c.entry.name.owner) (sym (some_same (record { delete = true; entry = node.entry }) change f))
            ∙ (ap (λ (p : PathName). p.owner) (rooted.named path node found) ∙ owner_of owner (tree_at records n) rooted path node found)

    go : (o : Option Rec) → slice_get records n ≡ o → option_and_then (change_in (tree_at records n)) o ≡ Some change → change.entry.name.owner ≡ owner
    go None at e = absurd (some_none change (sym e))
    go (Some rec) at e = by rec at e

-- ---- all of them

module _ (watching : Watching) (is : IsLog watching.owner watching.log) (limits : Limits) (path : PathName) (above : ℕ) (within : above ≤ length watching.log) where
  log : Log
  log = record { owner = watching.owner; limits = limits; records = watching.log }

  pub events_told : filter (is_watched above path) (events (record { owner = watching.owner; limits = limits; records = watching.log }) watching.loaded watching.user) ≡ filter_map (told watching) (changes_under watching.log path above)
  unfolding log events_to event_at changes_under
  events_told =
      those_behind (event_at log watching.loaded watching.user) (is_watched above path) (changes_some (λ name. is_under name path)) (events_to log watching.loaded watching.user) refl (λ n. refl) watching.log above within fails passes
    where
      parts : (n : ℕ) (event : WatchEvent) → event_at log watching.loaded watching.user n ≡ Some event → IsOf watching.log n event
      parts n event made = event_parts (look_now log watching.loaded watching.user) (look_after (suc n) log watching.loaded watching.user) watching.log n event made

      fails : (n : ℕ) (event : WatchEvent) → n < above → event_at log watching.loaded watching.user n ≡ Some event → is_watched above path event ≡ false
      fails n event low made = ap (λ p. nat_lt above p && is_under event.entry.name path) (parts n event made).position ∙ ap (λ b. b && is_under event.entry.name path) (le-ltb above (suc n) (omega (arith, low)))

      passes : (n : ℕ) (rec : Rec) → above ≤ n → slice_get watching.log n ≡ Some rec → (event : WatchEvent) → event_at log watching.loaded watching.user n ≡ Some event → is_watched above path event ≡ changes_some (λ name. is_under name path) rec
      passes n rec high at event made =
          let of = parts n event made in
          ap (λ p. nat_lt above p && is_under event.entry.name path) of.position
          ∙ (ap (λ b. b && is_under event.entry.name path) (lt-ltb above (suc n) (omega (arith, high)))
          ∙ (ap (λ p. is_under p path) of.name
          ∙ sym (ap (λ o. elim o as (λ _. Bool) [ None ↦ false | Some p ↦ is_under p path ]) (change_path watching.owner watching.log is n rec of.change at of.is))))

-- what is told of the records that change a path under one, above a sequence
pub watched_above : (tree : TreeLog) (is : IsLog tree.owner tree.log) (limits : Limits) (loaded : Loading) (user : List ℕ) (path : PathName) (above : ℕ) → above ≤ length tree.log →
    batch (length tree.log) (filter_map (told (record { owner = tree.owner; log = tree.log; loaded = loaded; user = user })) (changes_under tree.log path above)) ≡ watched (log_in tree limits) loaded user path (pos above)
unfolding watched
watched_above tree is limits loaded user path above within =
    let watching : Watching = record { owner = tree.owner; log = tree.log; loaded = loaded; user = user } in
    ap (batch (length tree.log)) (sym (events_told watching is limits path above within))
    ∙ sym (ap (λ b. if b then Invalid what.Sequence else batch (length tree.log) (filter (is_watched above path) (events (log_in tree limits) loaded user))) (le-ltb (length tree.log) above within))

pub owned_of : (watching : Watching) (owner : List ℕ) (log : List Rec) → owner ≡ watching.owner → log ≡ watching.log → IsLog owner log → (n : ℕ) (change : Change) → Some change ≡ change_at watching.log (n - 1) → change.entry.name.owner ≡ watching.owner
owned_of watching owner log same same' is n change at = change_owned owner log is (n - 1) change (ap (λ l. change_at l (n - 1)) same' ∙ sym at) ∙ same

-- rights that were read are those of an equal set
pub on_held : (result : Result Rights AllocError) (a b : Rights) → a ≡ b → IfOk result (λ held. held ≡ a) → IfOk result (λ held. held ≡ b)
on_held result a b same held = subst (λ r. IfOk result (λ held. held ≡ r)) same held

pub none_of : (r b : Bool) → r ≡ not b → r ≡ true → b ≡ false
none_of r true is none = absurd (false≢true (sym is ∙ none))
none_of r false is none = refl

pub some_of : (r b : Bool) → r ≡ not b → r ≡ false → b ≡ true
some_of r true is some = refl
some_of r false is some = absurd (false≢true (sym some ∙ is))

-- ---- one of them

module _ (watching : Watching) (n : ℕ) (first : n ≢ 0) where
  place : suc (n - 1) ≡ n
  place = omega (arith, first)

  pub told_nothing : None ≡ change_at watching.log (n - 1) → None ≡ told watching n
  told_nothing none = sym (ap (option_and_then (event_of (now watching) (after watching (suc (n - 1))) (n - 1))) (sym none))

  module _ (change : Change) (is : Some change ≡ change_at watching.log (n - 1)) where
    of : told watching n ≡ (if has_some (now watching) change.entry.name && has_some (after watching n) change.entry.name then Some (record { position = n; delete = change.delete; entry = shown (now watching) change.entry }) else None)
    unfolding event_of
    of =
        ap (option_and_then (event_of (now watching) (after watching (suc (n - 1))) (n - 1))) (sym is)
        ∙ ap (λ m. if has_some (now watching) change.entry.name && has_some (after watching m) change.entry.name then Some (record { position = m; delete = change.delete; entry = shown (now watching) change.entry }) else None) place

    -- no right now
    pub told_hidden : (held : Rights) → has_any held ≡ false → held ≡ rights (now watching) change.entry.name → None ≡ told watching n
    told_hidden held none same =
        sym (of ∙ ap (λ b. if b && has_some (after watching n) change.entry.name then Some (record { position = n; delete = change.delete; entry = shown (now watching) change.entry }) else None) (sym (ap has_any same) ∙ none))

    -- a right now, and none then
    pub told_early : (held was : Rights) → has_any held ≡ true → has_any was ≡ false → held ≡ rights (now watching) change.entry.name → was ≡ rights (after watching n) change.entry.name → None ≡ told watching n
    told_early held was some none same same' =
        sym (of
        ∙ (ap (λ b. if b && has_some (after watching n) change.entry.name then Some (record { position = n; delete = change.delete; entry = shown (now watching) change.entry }) else None) (sym (ap has_any same) ∙ some)
        ∙ ap (λ b. if b then Some (record { position = n; delete = change.delete; entry = shown (now watching) change.entry }) else None) (sym (ap has_any same') ∙ none)))

    -- a right both now and then
    pub told_shown : (held was : Rights) (entry : Entry) → has_any held ≡ true → has_any was ≡ true → held ≡ rights (now watching) change.entry.name → was ≡ rights (after watching n) change.entry.name → entry ≡ shown_as held.read change.entry →
        ◌≡◌ {A = Option WatchEvent} (Some (record { position = n; delete = change.delete; entry = entry })) (told watching n)
    told_shown held was entry some some' same same' is' =
        sym (of
        ∙ (ap (λ b. if b && has_some (after watching n) change.entry.name then Some (record { position = n; delete = change.delete; entry = shown (now watching) change.entry }) else None) (sym (ap has_any same) ∙ some)
        ∙ (ap (λ b. if b then Some (record { position = n; delete = change.delete; entry = shown (now watching) change.entry }) else None) (sym (ap has_any same') ∙ some')
        ∙ ap (λ e. Some (record { position = n; delete = change.delete; entry = e })) (ap (λ (r : Rights). shown_as r.read change.entry) (sym same) ∙ sym is'))))
