-- How a turn goes.
use Rattle.std.proofs.Common.{◌≡◌, ◌≢◌, ℕ, ◌+◌, Bool, true, false, ◌||◌, List, [], ◌∷◌, ◌++◌, length, refl, sym, ap, subst, ◌∙◌, ◌⊎◌, inl, inr, Result, Ok, Err}
use Rattle.std.specs.Prelude.{if◌then◌else◌, nat_lt}
use Rattle.std.proofs.lemmas.Bool.{false≢true}
use Rattle.up_dir.specs.Crashes.{Survives}
use Rattle.up_disk.specs.declared.disk.Disk.{Ghosts}
use Rattle.up_ends.specs.Growing.{OnlyGrows}
use Rattle.up_lists.specs.Counts.{Rose}
use Rattle.up_entry.specs.declared.entries.Location.{Location}
use Rattle.up_entry.specs.declared.fault.EntryFault.{EntryFault}
use Rattle.up_entry.specs.declared.fault.EntryFault.TheVariants as fault
use Rattle.up_entry.specs.declared.records.Rec.{Rec}
use Rattle.up_wire.specs.Bounds.{bounded, reply_size}
use Rattle.up_wire.specs.declared.replies.Done.TheVariants as done
use Rattle.up_wire.specs.declared.replies.Reply.{Reply}
use Rattle.up_wire.specs.declared.replies.Reply.TheVariants as reply
use Rattle.up_log_tree.specs.Logs.{Log}
use Rattle.up_log_tree.specs.Sizes.{size_of}
use Rattle.up_list.specs.declared.asking.ReadRequest.{ReadRequest}
use Rattle.up_list.specs.Asking.{asked_of, owner_asked}
use Rattle.up_list.specs.Changes.{added_by, answer_of, is_full}
use Rattle.up_tree.specs.States.{State, entries_of, fixed_of, log_of}
use Rattle.up_answers.specs.Answers.{added, answer, asked_outcome, fault_reply, log_owner, outcome}
use Rattle.up_answers.specs.Laws.{IsWhole, Turn, after_turn}
use Rattle.up_answers.specs.Routes.{locations_asked}
use Rattle.up_edits.specs.Routes.{route_of}
use Rattle.up_edits.specs.declared.routes.Route.{Route}
use Rattle.up_edits.specs.declared.routes.Route.TheVariants.{Refused, Tree}
use Rattle.up_commit.specs.Steps.{Steps, is_changed}
use Rattle.up_laws.specs.Turns.{IsMade, added_in, answer_in, any_failed, fetch_failed, is_hindered, stops}
use Rattle.up_dir.proofs.QuietLemmas.{is_odd, leads_odd, no_position}
use Rattle.up_laws.proofs.QuietLemmas.{asked_quiet, failed_adds_none}

-- ---- where the blocks of a request have to be fetched

module _ (turn : Turn) where
  abbrev routed : Result ReadRequest EntryFault → Route
  routed (Ok asked) = Tree (log_owner (owner_asked asked)) (locations_asked asked)
  routed (Err fault) = Refused (fault_reply fault)

  abbrev fetches : Result ReadRequest EntryFault → Bool
  fetches (Ok asked) = any_failed turn.fetched (locations_asked asked)
  fetches (Err fault) = false

  pub refused_fetches : (given : Reply) → Refused given ≡ route_of turn.user turn.request → false ≡ fetch_failed turn
  unfolding route_of fetch_failed
  refused_fetches given h = go (asked_of turn.user turn.request) h
    where
      go : (r : Result ReadRequest EntryFault) → Refused given ≡ routed r → false ≡ fetches r
      go (Ok asked) h = absurd (cc)
      go (Err fault) h = refl

  pub tree_fetches : (owner : List ℕ) (locations : List Location) → Tree owner locations ≡ route_of turn.user turn.request → any_failed turn.fetched locations ≡ fetch_failed turn
  unfolding route_of fetch_failed
  tree_fetches owner locations h = go (asked_of turn.user turn.request) h
    where
      go : (r : Result ReadRequest EntryFault) → Tree owner locations ≡ routed r → any_failed turn.fetched locations ≡ fetches r
      go (Ok asked) h = let same : locations ≡ locations_asked asked = cc in ap (any_failed turn.fetched) same
      go (Err fault) h = absurd (cc)

-- ---- an Io as an answer

-- an Io that counts
no_io : (given : Reply) → is_odd true given ≡ false → bounded given ≢ reply.Io
no_io (reply.Ok d) h k = go (nat_lt 67108864 (reply_size (reply.Ok d))) k
  where
    go : (b : Bool) → (if b then reply.TooLarge (reply_size (reply.Ok d)) else reply.Ok d) ≡ reply.Io → ⊥
    go true k = absurd (cc)
    go false k = absurd (cc)
no_io (reply.Invalid what) h k = absurd (cc)
no_io reply.WrongHost h k = absurd (cc)
no_io (reply.FollowLink entry) h k = absurd (cc)
no_io reply.Private h k = absurd (cc)
no_io (reply.Permission right) h k = absurd (cc)
no_io reply.NotExist h k = absurd (cc)
no_io reply.NotDir h k = absurd (cc)
no_io reply.IsDir h k = absurd (cc)
no_io reply.Exist h k = absurd (cc)
no_io (reply.BadSequence n) h k = absurd (cc)
no_io reply.NotEmpty h k = absurd (cc)
no_io (reply.BadBlock reference) h k = absurd (cc)
no_io (reply.BadText line) h k = absurd (cc)
no_io (reply.TooLarge size) h k = absurd (cc)
no_io (reply.Full n) h k = absurd (cc)
no_io reply.Io h k = absurd (false≢true (sym h))
no_io reply.OutOfMemory h k = absurd (cc)

led_no_io : (log : Log) (led : Result Rec Reply) → leads_odd true led ≡ false → answer_of log led ≢ reply.Io
unfolding answer_of
led_no_io log (Err given) h k = no_io given h k
led_no_io log (Ok rec) h k = go (nat_lt log.limits.largest (size_of rec)) (is_full log (size_of rec)) k
  where
    go : (a b : Bool) → (if a then reply.TooLarge (size_of rec) else if b then reply.Full (length log.records) else reply.Ok (done.Changed (length log.records + 1))) ≡ reply.Io → ⊥
    go true b k = absurd (cc)
    go false true k = absurd (cc)
    go false false k = absurd (cc)

-- a position adds its record, and nothing else adds one
led_adds : (log : Log) (led : Result Rec Reply) → leads_odd false led ≡ false → (if is_changed (answer_of log led) then added_by log led else []) ≡ added_by log led
unfolding answer_of added_by
led_adds log (Err given) h = same (is_changed (bounded given))
  where
    same : (b : Bool) → ◌≡◌ {A = List Rec} (if b then [] else []) []
    same true = refl
    same false = refl
led_adds log (Ok rec) h = go (nat_lt log.limits.largest (size_of rec)) (is_full log (size_of rec))
  where
    go : (a b : Bool) → (if is_changed (if a then reply.TooLarge (size_of rec) else if b then reply.Full (length log.records) else reply.Ok (done.Changed (length log.records + 1))) then (if a || b then [] else rec ∷ []) else []) ≡ (if a || b then [] else rec ∷ [])
    go true b = refl
    go false true = refl
    go false false = refl

module _ (log : Log) (turn : Turn) where
  abbrev led : Result ReadRequest EntryFault → Result Rec Reply
  led (Ok asked) = asked_outcome log turn.loaded turn.fetched turn.user asked turn.now
  led (Err fault) = Err (fault_reply fault)

  fault_quiet : (io : Bool) (fault : EntryFault) → is_odd io (fault_reply fault) ≡ false
  fault_quiet io (fault.Invalid what) = refl
  fault_quiet io fault.OutOfMemory = refl

  led_quiet : (io : Bool) → (io ≡ true → fetch_failed turn ≡ false) → leads_odd io (outcome log turn.loaded turn.fetched turn.user turn.request turn.now) ≡ false
  unfolding fetch_failed outcome
  led_quiet io h = go (asked_of turn.user turn.request) h
    where
      go : (r : Result ReadRequest EntryFault) → (io ≡ true → fetches turn r ≡ false) → leads_odd io (led r) ≡ false
      go (Ok asked) h = asked_quiet io log turn.loaded turn.fetched turn.user turn.now asked h
      go (Err fault) h = fault_quiet io fault

  -- where no fetch failed, Io is no answer
  pub quiet_answer : fetch_failed turn ≡ false → answer_in log turn ≢ reply.Io
  unfolding answer
  quiet_answer h = led_no_io log (outcome log turn.loaded turn.fetched turn.user turn.request turn.now) (led_quiet true (λ _. h))

  -- where one did, no record is added
  no_record : fetch_failed turn ≡ true → (rec : Rec) → outcome log turn.loaded turn.fetched turn.user turn.request turn.now ≡ Ok rec → ⊥
  unfolding fetch_failed outcome
  no_record h rec e = by (asked_of turn.user turn.request) h e
    where
      by : (r : Result ReadRequest EntryFault) → fetches turn r ≡ true → led r ≡ Ok rec → ⊥
      by (Ok asked) h e = failed_adds_none log turn.loaded turn.fetched turn.user turn.now asked rec h e
      by (Err fault) h e = false≢true h

  -- so no answer is a position
  pub failed_answer : fetch_failed turn ≡ true → is_changed (answer_in log turn) ≡ false
  unfolding answer answer_of
  failed_answer h = go (outcome log turn.loaded turn.fetched turn.user turn.request turn.now) refl (led_quiet false (λ counts. absurd (false≢true counts)))
    where
      go : (r : Result Rec Reply) → outcome log turn.loaded turn.fetched turn.user turn.request turn.now ≡ r → leads_odd false r ≡ false → is_changed (answer_of log r) ≡ false
      go (Ok rec) e quiet = absurd (no_record h rec e)
      go (Err given) e quiet = no_position given quiet

  pub adds_answered : (if is_changed (answer_in log turn) then added_in log turn else []) ≡ added_in log turn
  unfolding answer added
  adds_answered = led_adds log (outcome log turn.loaded turn.fetched turn.user turn.request turn.now) (led_quiet false (λ counts. absurd (false≢true counts)))

-- ---- turns

-- want of memory, Io, or another reply
kinds : (given : Reply) → (given ≡ reply.OutOfMemory) ⊎ (given ≡ reply.Io) ⊎ ((given ≢ reply.OutOfMemory) × (given ≢ reply.Io))
kinds (reply.Ok d) = inr (inr (λ h. absurd (cc), λ h. absurd (cc)))
kinds (reply.Invalid what) = inr (inr (λ h. absurd (cc), λ h. absurd (cc)))
kinds reply.WrongHost = inr (inr (λ h. absurd (cc), λ h. absurd (cc)))
kinds (reply.FollowLink entry) = inr (inr (λ h. absurd (cc), λ h. absurd (cc)))
kinds reply.Private = inr (inr (λ h. absurd (cc), λ h. absurd (cc)))
kinds (reply.Permission right) = inr (inr (λ h. absurd (cc), λ h. absurd (cc)))
kinds reply.NotExist = inr (inr (λ h. absurd (cc), λ h. absurd (cc)))
kinds reply.NotDir = inr (inr (λ h. absurd (cc), λ h. absurd (cc)))
kinds reply.IsDir = inr (inr (λ h. absurd (cc), λ h. absurd (cc)))
kinds reply.Exist = inr (inr (λ h. absurd (cc), λ h. absurd (cc)))
kinds (reply.BadSequence n) = inr (inr (λ h. absurd (cc), λ h. absurd (cc)))
kinds reply.NotEmpty = inr (inr (λ h. absurd (cc), λ h. absurd (cc)))
kinds (reply.BadBlock reference) = inr (inr (λ h. absurd (cc), λ h. absurd (cc)))
kinds (reply.BadText line) = inr (inr (λ h. absurd (cc), λ h. absurd (cc)))
kinds (reply.TooLarge size) = inr (inr (λ h. absurd (cc), λ h. absurd (cc)))
kinds (reply.Full n) = inr (inr (λ h. absurd (cc), λ h. absurd (cc)))
kinds reply.Io = inr (inl refl)
kinds reply.OutOfMemory = inl refl

not_hindered : (failed : Bool) → is_hindered failed reply.Io ≡ false → failed ≡ true
not_hindered true h = refl
not_hindered false h = absurd (false≢true (sym h))

hindered : (failed : Bool) → is_hindered failed reply.Io ≡ true → failed ≡ false
hindered true h = absurd (false≢true h)
hindered false h = refl

module _ {D : Type 0} (disks : Ghosts D) (turn : Turn) (old new : State D) (replied : Reply) where
  -- a step makes a turn
  pub is_made : IsWhole (log_of old) → Steps disks (answer_in (log_of old) turn) (added_in (log_of old) turn) old new replied → OnlyGrows entries_of (λ state. disks.faults state.disk) fixed_of old new → Survives disks (added_in (log_of old) turn) old new
      → IsMade disks turn old new replied
  is_made whole steps grows crash = record {
    log = whole;
    steps = steps;
    grows = grows;
    crash = crash;
    answered = λ goes. by (kinds replied) goes;
    fault = λ stopped io. from (steps.failed io) (hindered (fetch_failed turn) (subst (λ r. is_hindered (fetch_failed turn) r ≡ true) io stopped));
  }
    where
      by : (replied ≡ reply.OutOfMemory) ⊎ (replied ≡ reply.Io) ⊎ ((replied ≢ reply.OutOfMemory) × (replied ≢ reply.Io)) → stops turn replied ≡ false → replied ≡ answer_in (log_of old) turn
      by (inl memory) goes = absurd (false≢true (sym (subst (λ r. is_hindered (fetch_failed turn) r ≡ false) memory goes)))
      by (inr (inl io)) goes =
          let fetched : fetch_failed turn ≡ true = not_hindered (fetch_failed turn) (subst (λ r. is_hindered (fetch_failed turn) r ≡ false) io goes) in
          elim (steps.failed io) [
            | inl answered ↦ io ∙ sym answered
            | inr changed ↦ absurd (false≢true (sym (failed_answer (log_of old) turn fetched) ∙ changed.0))
          ]
      by (inr (inr other)) goes = steps.exact other.0 other.1

      from : (answer_in (log_of old) turn ≡ reply.Io) ⊎ ((is_changed (answer_in (log_of old) turn) ≡ true) × Rose (disks.faults old.disk) (disks.faults new.disk)) → fetch_failed turn ≡ false → Rose (disks.faults old.disk) (disks.faults new.disk)
      from (inl answered) quiet = absurd (quiet_answer (log_of old) turn quiet answered)
      from (inr changed) quiet = changed.1

  -- the log after a turn that does not stop a run
  pub made_log : IsMade disks turn old new replied → stops turn replied ≡ false → log_of new ≡ after_turn (log_of old) turn
  made_log made goes =
      let records : new.log ≡ old.log ++ added_in (log_of old) turn =
      made.steps.log ∙ (ap (λ r. old.log ++ (if is_changed r then added_in (log_of old) turn else [])) (made.answered goes) ∙ ap (λ rs. old.log ++ rs) (adds_answered (log_of old) turn)) in
      λ i. record { owner = (made.grows.stays i).0; limits = (made.grows.stays i).1; records = records i }
