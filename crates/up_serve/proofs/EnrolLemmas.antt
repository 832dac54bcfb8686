-- How users are enrolled at a host, line by line.
use Rattle.std.proofs.Common.{◌≡◌, ◌∙◌, ◌+◌, ℕ, Bool, true, false, List, [], ◌∷◌, ◌++◌, length, is_some, Option, Some, None, Result, Ok, Err, refl, sym, ap, subst}
use Rattle.std.specs.Prelude.{IsErrOf, if◌then◌else◌}
use Rattle.up_lists.specs.Counts.{HasCause, StaysUnless}
use Rattle.up_disk.specs.declared.disk.Disk.{Ghosts}
use Rattle.up_host.specs.Alone.{Enrols, HostState}
use Rattle.up_journal.specs.Journal.{is_full}
use Rattle.up_journal.specs.Logs.{LogState}
use Rattle.up_journal.specs.declared.fault.AppendWhy.{AppendWhy}
use Rattle.up_journal.specs.declared.fault.AppendWhy.TheVariants as append
use Rattle.up_journal.specs.declared.limits.Limits.{Limits}
use Rattle.up_keys.specs.Keys.{sizes_of}
use Rattle.up_keys.specs.Records.{record_in}
use Rattle.up_lists.proofs.BeginsLemmas.{Begins-append, Begins-self, Begins-trans}
use Rattle.up_lists.proofs.Causes.{HasCause-same, HasCause-then, HasCause-weaker, StaysUnless-more, StaysUnless-same, StaysUnless-then}
use Rattle.up_lists.specs.Begins.{Begins}
use Rattle.up_names.specs.Texts.{Text}
use Rattle.up_serve.specs.EnrolLines.{enrol_line}
use Rattle.up_serve.specs.Enrolling.{DoesLine, Enrolment, EnrolsUsers, IsAfter, KeepsHost, PutsUser, after_line, after_lines, ended, enrolment, is_cut, stop_by, with_user}
use Rattle.up_serve.specs.declared.enrol_line.EnrolLine.{EnrolLine}
use Rattle.up_serve.specs.declared.enrol_line.EnrolLine.TheVariants as lines
use Rattle.up_serve.specs.declared.enrolling.EnrolStop.{EnrolStop}
use Rattle.up_serve.specs.declared.enrolling.EnrolStop.TheVariants as stop
use Rattle.up_text.specs.Lines.{script_lines}
use Rattle.up_wire.specs.Keys.{logged}
use Rattle.up_wire.specs.declared.keys.KeyRecord.{KeyRecord}

-- ---- the log of keys only grows

user_begins : (limits : Limits) (log grown : List KeyRecord) (card : KeyRecord) → with_user limits log card ≡ Ok grown → Begins log grown
user_begins limits log grown card is = by (is_some (record_in log card.user)) (is_full limits (sizes_of log) (length (logged card))) is
  where
    by : (held full : Bool) → (if held then Ok log else if full then Err (stop.Full (length log)) else Ok (log ++ card ∷ [])) ≡ Ok grown → Begins log grown
    by true full same = subst (Begins log) (let e : log ≡ grown = cc in e) (Begins-self log)
    by false true same = absurd (cc)
    by false false same = subst (Begins log) (let e : log ++ card ∷ [] ≡ grown = cc in e) (Begins-append log (card ∷ []))

line_begins : (limits : Limits) (number : ℕ) (log grown : List KeyRecord) (found : Option EnrolLine) → after_line limits number log found ≡ Ok grown → Begins log grown
line_begins limits number log grown None is = absurd (cc)
line_begins limits number log grown (Some lines.Silent) is = subst (Begins log) (let e : log ≡ grown = cc in e) (Begins-self log)
line_begins limits number log grown (Some (lines.User card)) is = user_begins limits log grown card is

pub lines_begin : (limits : Limits) (number : ℕ) (log : List KeyRecord) (left : List Text) → Begins log (after_lines limits number log left).log
lines_begin limits number log [] = Begins-self log
lines_begin limits number log (line ∷ left) = by (after_line limits number log (enrol_line line)) (λ grown is. line_begins limits number log grown (enrol_line line) is) (λ grown. lines_begin limits (number + 1) grown left)
  where
    by : (done : Result (List KeyRecord) EnrolStop) → ((grown : List KeyRecord) → done ≡ Ok grown → Begins log grown) → ((grown : List KeyRecord) → Begins grown (after_lines limits (number + 1) grown left).log)
        → Begins log (elim done as (λ _. Enrolment) [ Err why ↦ ended log (Some why) | Ok grown ↦ after_lines limits (number + 1) grown left ]).log
    by (Err why) begins rest = Begins-self log
    by (Ok grown) begins rest = Begins-trans (begins grown refl) (rest grown)

module _ {D : Type 0} (disks : Ghosts D) where
  -- ---- a host is kept

  pub kept_same : (host : HostState D) (fault : Type 0) → (fault → ⊥) → KeepsHost disks host host fault
  kept_same host fault none = record {
    state = host.keys.state;
    whole = refl;
    limits = refl;
    begins = Begins-self host.keys.state.log;
    told = refl;
    counts = HasCause-same (disks.faults host.keys.state.disk) fault (λ is. absurd (none is));
    quiet = StaysUnless-same (disks.faults host.keys.state.disk) fault;
  }

  -- what the state of its keys is
  state_is : {host after : HostState D} {fault : Type 0} (kept : KeepsHost disks host after fault) → after.keys.state ≡ kept.state
  state_is kept = ap (λ (h : HostState D). h.keys.state) kept.whole

  pub kept_then : (host mid after : HostState D) (first fault : Type 0) → (first → fault) → KeepsHost disks host mid first → KeepsHost disks mid after fault → KeepsHost disks host after fault
  kept_then host mid after first fault less one two =
      let same = state_is one in
      record {
        state = two.state;
        whole = two.whole ∙ ap (λ (h : HostState D). record h { keys = record { state = two.state; base = h.keys.base } }) one.whole;
        limits = two.limits ∙ (ap (λ (s : LogState D KeyRecord). s.limits) same ∙ one.limits);
        begins = Begins-trans one.begins (subst (λ (s : LogState D KeyRecord). Begins s.log two.state.log) same two.begins);
        told = two.told ∙ (ap (λ (s : LogState D KeyRecord). is_some (disks.content s.disk)) same ∙ one.told);
        counts = HasCause-then _ _ _ first fault one.counts (subst (λ (s : LogState D KeyRecord). HasCause (disks.faults s.disk) (disks.faults two.state.disk) fault) same two.counts);
        quiet = StaysUnless-then _ _ _ first fault fault one.quiet less (subst (λ (s : LogState D KeyRecord). StaysUnless (disks.faults s.disk) (disks.faults two.state.disk) fault) same two.quiet) (λ is. is);
      }

  -- ---- one record

  pub user_held : (host : HostState D) (card : KeyRecord) → is_some (record_in host.keys.state.log card.user) ≡ true → PutsUser disks card host host (Ok tt)
  user_held host card held = record {
    kept = kept_same host _ (λ is. absurd (cc));
    exact = λ _. ap (λ b. if b then Ok host.keys.state.log else if is_full host.keys.state.limits (sizes_of host.keys.state.log) (length (logged card)) then Err (stop.Full (length host.keys.state.log)) else Ok (host.keys.state.log ++ card ∷ [])) held;
    same = tt;
  }

  kept_put : (host after : HostState D) (card : KeyRecord) (result : Result ℕ AppendWhy) (fault : Type 0) → Enrols disks card host after result → (fault → result ≡ Err append.Fault) → (result ≡ Err append.Fault → fault) → KeepsHost disks host after fault
  kept_put host after card result fault put less more = record {
    state = put.state;
    whole = put.whole;
    limits = put.puts.added.limits;
    begins = put.grows.begins;
    told = put.puts.added.told;
    counts = HasCause-weaker _ _ (IsErrOf result append.Fault) fault put.puts.cause (λ is. less is);
    quiet = StaysUnless-more _ _ (result ≡ Err append.Fault) fault put.quiet more;
  }

  none_held : (host : HostState D) (card : KeyRecord) (full : Bool) → is_some (record_in host.keys.state.log card.user) ≡ false → is_full host.keys.state.limits (sizes_of host.keys.state.log) (length (logged card)) ≡ full
      → with_user host.keys.state.limits host.keys.state.log card ≡ (if full then Err (stop.Full (length host.keys.state.log)) else Ok (host.keys.state.log ++ card ∷ []))
  none_held host card full none is =
      ap (λ b. if b then Ok host.keys.state.log else if is_full host.keys.state.limits (sizes_of host.keys.state.log) (length (logged card)) then Err (stop.Full (length host.keys.state.log)) else Ok (host.keys.state.log ++ card ∷ [])) none
      ∙ ap (λ b. if b then Err (stop.Full (length host.keys.state.log)) else Ok (host.keys.state.log ++ card ∷ [])) is

  pub user_put : (host after : HostState D) (card : KeyRecord) (position : ℕ) → is_some (record_in host.keys.state.log card.user) ≡ false → Enrols disks card host after (Ok position) → PutsUser disks card host after (Ok tt)
  user_put host after card position none put = record {
    kept = kept_put host after card (Ok position) _ put (λ is. absurd (cc)) (λ is. absurd (cc));
    exact = λ _. none_held host card false none (room (is_full host.keys.state.limits (sizes_of host.keys.state.log) (length (logged card))) refl) ∙ ap Ok (sym log);
    same = tt;
  }
    where
      log : after.keys.state.log ≡ host.keys.state.log ++ card ∷ []
      log = ap (λ (h : HostState D). h.keys.state.log) put.whole ∙ put.puts.added.log

      room : (full : Bool) → is_full host.keys.state.limits (sizes_of host.keys.state.log) (length (logged card)) ≡ full → is_full host.keys.state.limits (sizes_of host.keys.state.log) (length (logged card)) ≡ false
      room false is = is
      room true is = absurd (let bad : Ok position ≡ Err (append.Full (length host.keys.state.log)) = put.puts.full is (λ e. absurd (cc)) in cc)

  same_log : (host after : HostState D) (card : KeyRecord) (why : AppendWhy) → Enrols disks card host after (Err why) → after.keys.state.log ≡ host.keys.state.log
  same_log host after card why put = ap (λ (h : HostState D). h.keys.state.log) put.whole ∙ put.puts.added.log

  pub user_refused : (host after : HostState D) (card : KeyRecord) (why : AppendWhy) → is_some (record_in host.keys.state.log card.user) ≡ false → Enrols disks card host after (Err why) → PutsUser disks card host after (Err (stop_by why))
  user_refused host after card (append.Full records) none put = record {
    kept = kept_put host after card (Err (append.Full records)) _ put (λ is. absurd (cc)) (λ is. absurd (cc));
    exact = λ _. let full = put.puts.full_only records refl in none_held host card true none full.0 ∙ ap (λ n. Err (stop.Full n)) (sym full.1);
    same = same_log host after card (append.Full records) put;
  }
  user_refused host after card append.Fault none put = record {
    kept = kept_put host after card (Err append.Fault) _ put (λ is. refl) (λ is. refl);
    exact = λ bad. absurd (cc);
    same = same_log host after card append.Fault put;
  }
  user_refused host after card append.OutOfMemory none put = record {
    kept = kept_put host after card (Err append.OutOfMemory) _ put (λ is. absurd (cc)) (λ is. absurd (cc));
    exact = λ bad. absurd (cc);
    same = same_log host after card append.OutOfMemory put;
  }

  -- ---- one line

  pub line_silent : (host : HostState D) (number : ℕ) (line : Text) → Some lines.Silent ≡ enrol_line line → DoesLine disks number line host host (Ok tt)
  line_silent host number line is = record {
    kept = kept_same host _ (λ bad. absurd (cc));
    exact = λ _. ap (after_line host.keys.state.limits number host.keys.state.log) (sym is);
    same = tt;
  }

  pub line_bad : (host : HostState D) (number : ℕ) (line : Text) → None ≡ enrol_line line → DoesLine disks number line host host (Err (stop.BadLine number))
  line_bad host number line is = record {
    kept = kept_same host _ (λ bad. absurd (cc));
    exact = λ _. ap (after_line host.keys.state.limits number host.keys.state.log) (sym is);
    same = refl;
  }

  pub line_unread : (host : HostState D) (number : ℕ) (line : Text) → DoesLine disks number line host host (Err stop.OutOfMemory)
  line_unread host number line = record { kept = kept_same host _ (λ bad. absurd (cc)); exact = λ bad. absurd (cc); same = refl }

  pub line_user : (host after : HostState D) (number : ℕ) (line : Text) (card : KeyRecord) (result : Result (Unit {0}) EnrolStop) → Some (lines.User card) ≡ enrol_line line → PutsUser disks card host after result → DoesLine disks number line host after result
  line_user host after number line card result is put = record {
    kept = put.kept;
    exact = λ fine. subst (λ found. IsAfter after.keys.state.log result (after_line host.keys.state.limits number host.keys.state.log found)) is (put.exact fine);
    same = put.same;
  }

  -- ---- a text

  no_fault : ◌≡◌ {A = Result (Unit {0}) EnrolStop} (Ok tt) (Err stop.DiskFault) → ⊥
  no_fault bad = absurd (cc)

  -- the lines so far were done, and what is left comes to what all comes to
  pub record Enrolling (text : Text) (host after : HostState D) (number : ℕ) (left : List Text) : Type 0 where
    pub kept : KeepsHost disks host after ⊥
    pub meant : after_lines host.keys.state.limits number after.keys.state.log left ≡ enrolment host.keys.state.limits host.keys.state.log text

  pub enrolling_first : (text : Text) (host : HostState D) → Enrolling text host host 1 (script_lines text)
  unfolding enrolment
  enrolling_first text host = record { kept = kept_same host ⊥ (λ bad. bad); meant = refl }

  -- the limits of its keys, and what the next line is after
  now_after : (text : Text) (host mid after : HostState D) (number : ℕ) (line : Text) (left : List Text) (result : Result (Unit {0}) EnrolStop) → Enrolling text host mid number (line ∷ left) → DoesLine disks number line mid after result → is_cut result ≡ false
      → IsAfter after.keys.state.log result (after_line host.keys.state.limits number mid.keys.state.log (enrol_line line))
  now_after text host mid after number line left result going done fine =
      subst (λ limits. IsAfter after.keys.state.log result (after_line limits number mid.keys.state.log (enrol_line line))) (ap (λ (s : LogState D KeyRecord). s.limits) (state_is going.kept) ∙ going.kept.limits) (done.exact fine)

  step_to : (text : Text) (host mid after : HostState D) (number : ℕ) (line : Text) (left : List Text) → Enrolling text host mid number (line ∷ left) → DoesLine disks number line mid after (Ok tt) → Enrolling text host after (number + 1) left
  step_to text host mid after number line left going done =
      let one = now_after text host mid after number line left (Ok tt) going done refl in
      record {
        kept = kept_then host mid after ⊥ ⊥ (λ bad. bad) going.kept (weaker mid after (Ok tt) (λ bad. absurd bad) (λ bad. no_fault bad) done.kept);
        meant = sym (ap (λ r. elim r [ Err why ↦ ended mid.keys.state.log (Some why) | Ok grown ↦ after_lines host.keys.state.limits (number + 1) grown left ]) one) ∙ going.meant;
      }
    where
      weaker : (a b : HostState D) (result : Result (Unit {0}) EnrolStop) → (⊥ → result ≡ Err stop.DiskFault) → (result ≡ Err stop.DiskFault → ⊥) → KeepsHost disks a b (result ≡ Err stop.DiskFault) → KeepsHost disks a b ⊥
      weaker a b result less more kept = record {
        state = kept.state;
        whole = kept.whole;
        limits = kept.limits;
        begins = kept.begins;
        told = kept.told;
        counts = HasCause-weaker _ _ (result ≡ Err stop.DiskFault) ⊥ kept.counts less;
        quiet = StaysUnless-more _ _ (result ≡ Err stop.DiskFault) ⊥ kept.quiet more;
      }

  stop_at : (text : Text) (host mid after : HostState D) (number : ℕ) (line : Text) (left : List Text) (why : EnrolStop) → Enrolling text host mid number (line ∷ left) → DoesLine disks number line mid after (Err why) → EnrolsUsers disks text host after (Err why)
  stop_at text host mid after number line left why going done =
      record {
        kept = kept_then host mid after ⊥ (Err why ≡ Err stop.DiskFault) (λ bad. absurd bad) going.kept done.kept;
        exact = λ fine. sym going.meant ∙ (ap (λ r. elim r [ Err reason ↦ ended mid.keys.state.log (Some reason) | Ok grown ↦ after_lines host.keys.state.limits (number + 1) grown left ]) (now_after text host mid after number line left (Err why) going done fine)
            ∙ ap (λ log. ended log (Some why)) (sym done.same));
        front = subst (λ log. Begins log (enrolment host.keys.state.limits host.keys.state.log text).log) (sym done.same)
            (subst (λ meant. Begins mid.keys.state.log meant.log) going.meant (lines_begin host.keys.state.limits number mid.keys.state.log (line ∷ left)));
      }

  end_at : (text : Text) (host after : HostState D) (number : ℕ) → Enrolling text host after number [] → EnrolsUsers disks text host after (Ok tt)
  end_at text host after number going = record {
    kept = record { state = going.kept.state; whole = going.kept.whole; limits = going.kept.limits; begins = going.kept.begins; told = going.kept.told; counts = HasCause-weaker _ _ ⊥ (Ok tt ≡ Err stop.DiskFault) going.kept.counts (λ bad. no_fault bad); quiet = StaysUnless-more _ _ ⊥ (Ok tt ≡ Err stop.DiskFault) going.kept.quiet (λ bad. absurd bad) };
    exact = λ _. sym going.meant;
    front = subst (λ meant. Begins after.keys.state.log meant.log) going.meant (Begins-self after.keys.state.log);
  }

  -- the same, by what is told of the lines that are left
  pub enrolling_step : {text : Text} {host mid after : HostState D} {number : ℕ} {line : Text} {all left : List Text} → Enrolling text host mid number all → all ≡ line ∷ left → DoesLine disks number line mid after (Ok tt) → Enrolling text host after (number + 1) left
  enrolling_step {text = text} {host = host} {mid = mid} {after = after} {number = number} {line = line} {left = left} going cut done =
      step_to text host mid after number line left (subst (Enrolling text host mid number) cut going) done

  pub enrolling_stop : {text : Text} {host mid after : HostState D} {number : ℕ} {line : Text} {all left : List Text} {why : EnrolStop} → Enrolling text host mid number all → all ≡ line ∷ left → DoesLine disks number line mid after (Err why) → EnrolsUsers disks text host after (Err why)
  enrolling_stop {text = text} {host = host} {mid = mid} {after = after} {number = number} {line = line} {left = left} {why = why} going cut done =
      stop_at text host mid after number line left why (subst (Enrolling text host mid number) cut going) done

  pub enrolling_end : {text : Text} {host after : HostState D} {number : ℕ} {all : List Text} → Enrolling text host after number all → all ≡ [] → EnrolsUsers disks text host after (Ok tt)
  enrolling_end {text = text} {host = host} {after = after} {number = number} going none = end_at text host after number (subst (Enrolling text host after number) none going)

pub ruleset users = (user_held, user_put, user_refused)

pub ruleset each_line = (line_silent, line_bad, line_unread, line_user)

pub ruleset all_lines = (enrolling_first, enrolling_step, enrolling_stop, enrolling_end)
