-- What follows from what came of a plan.
use Rattle.std.proofs.Common.{◌≡◌, ◌∙◌, ◌≤◌, ◌<◌, ◌+◌, ◌-◌, ◌^◌, ℕ, false, List, [], ◌∷◌, ◌++◌, ◌⊎◌, inl, inr, length, Option, Some, None, IfErr, IfSome, Result, Ok, Err, refl, sym, ap, subst, arith}
use Rattle.std.proofs.lemmas.Bool.{cases_lt}
use Rattle.std.specs.List.{sum_by}
use Rattle.std.specs.Prelude.{◌↔◌}
use Rattle.up_command.specs.Statuses.{IsOneOf, input_limit}
use Rattle.up_disk.specs.Spare.{Spared}
use Rattle.up_disk.specs.declared.disk.Disk.{Ghosts}
use Rattle.up_ends.proofs.Going.{WritesPart-none}
use Rattle.up_host.proofs.CountLemmas.{host_faults, opens_calm, opens_later, refuses_calm, refuses_counts}
use Rattle.up_host.specs.Alone.{HostState, disk_faults}
use Rattle.up_host.specs.Opens.{IsRefusedAs, OpensHost, OpensTrees, RefusesHost, WereOpened, disks_of, logs_of}
use Rattle.up_calls.specs.Routes.{LogName}
use Rattle.up_host.specs.declared.fault.HostFault.{HostFault}
use Rattle.up_host.specs.declared.held.Held.{Held}
use Rattle.up_journal.specs.Damages.{Damage}
use Rattle.up_journal.specs.Damages as damage
use Rattle.up_journal.specs.Opened.{IsDamageOf, why_of}
use Rattle.up_journal.specs.declared.fault.OpenFault.{OpenFault}
use Rattle.up_journal.specs.declared.fault.OpenWhy.{OpenWhy}
use Rattle.up_journal.specs.declared.fault.OpenWhy.TheVariants as why
use Rattle.up_journal.specs.declared.limits.Limits.{Limits}
use Rattle.up_keys.specs.Records as keys
use Rattle.up_lists.specs.Counts.{Rose, StaysUnless}
use Rattle.up_names.specs.Texts.{Text, UserName}
use Rattle.up_reports.proofs.TellLemmas.{refused_codes, refused_complete, refused_six}
use Rattle.up_reports.specs.Telling.{AnswersOne, Stays, refused_by}
use Rattle.up_reports.specs.declared.refused.Refused.{Refused}
use Rattle.up_serve.proofs.TellLemmas.{stopped_codes, stopped_six}
use Rattle.up_serve.specs.Enrolling.{EnrolsUsers, KeepsHost, enrolment, is_cut}
use Rattle.up_serve.specs.Serving.{AreServed, HasCauses, IsInput, IsServed, Reads, Serves, disks_after, result_code}
use Rattle.up_serve.specs.Telling.{stopped_by}
use Rattle.up_serve.specs.declared.enrolling.EnrolStop.{EnrolStop}
use Rattle.up_serve.specs.declared.enrolling.EnrolStop.TheVariants as stop
use Rattle.up_serve.specs.declared.plan.ServePlan.{ServePlan}
use Rattle.up_serve.specs.declared.serve.ServeFault.{ServeFault}
use Rattle.up_tree.specs.States as tree

-- ---- numbers

not_unread : (code : ℕ) → IsOneOf (2 ∷ 4 ∷ 7 ∷ []) code → code ≡ 6 → ⊥
not_unread code one six = grind (arith)

four : (code : ℕ) → IsOneOf (3 ∷ 4 ∷ 4 ∷ []) code → (code ≡ 3 → ⊥) → (code ≡ 6 → ⊥) → IsOneOf (0 ∷ 4 ∷ []) code
four code one write disk = grind (arith)

six : (code : ℕ) → IsOneOf (3 ∷ 4 ∷ 6 ∷ []) code → (code ≡ 3 → ⊥) → (code ≡ 6 → ⊥) → IsOneOf (0 ∷ 4 ∷ []) code
six code one write disk = grind (arith)

unread_four : (code : ℕ) → IsOneOf (2 ∷ 4 ∷ 7 ∷ []) code → (code ≡ 2 → ⊥) → (code ≡ 7 → ⊥) → IsOneOf (0 ∷ 4 ∷ []) code
unread_four code one read long = grind (arith)

from_refused : (code : ℕ) → IsOneOf (3 ∷ 4 ∷ 6 ∷ 8 ∷ []) code → IsOneOf (2 ∷ 3 ∷ 4 ∷ 6 ∷ 7 ∷ 8 ∷ 10 ∷ 12 ∷ []) code
from_refused code one = grind (arith)

from_unread : (code : ℕ) → IsOneOf (2 ∷ 4 ∷ 7 ∷ []) code → IsOneOf (2 ∷ 3 ∷ 4 ∷ 6 ∷ 7 ∷ 8 ∷ 10 ∷ 12 ∷ []) code
from_unread code one = grind (arith)

from_stopped : (code : ℕ) → IsOneOf (3 ∷ 4 ∷ 6 ∷ 10 ∷ 12 ∷ []) code → IsOneOf (2 ∷ 3 ∷ 4 ∷ 6 ∷ 7 ∷ 8 ∷ 10 ∷ 12 ∷ []) code
from_stopped code one = grind (arith)

apart : {X : Type 0} (value : X) (code : ℕ) → ◌≡◌ {A = Result X ℕ} (Ok value) (Err code) → ⊥
apart value code bad = absurd (cc)

-- the log at this place was refused for this
abbrev refusal : ℕ → OpenWhy → Refused
refusal which reason = record { which = which; why = reason }

-- ---- what the status says of source and sink

module _ (given given_now read read_now wrote wrote_now : ℕ) (left : Option Text) where
  -- a log did not open
  pub causes_refused : (held held_now : Option Text) (which : ℕ) (reason : OpenWhy) (status : ℕ) → AnswersOne held held_now (refused_by which reason) status → given_now ≡ given → read_now ≡ read → (status ≡ 3 → Rose wrote wrote_now) → wrote ≤ wrote_now
      → HasCauses status given given_now read read_now wrote wrote_now left
  causes_refused held held_now which reason status one same_given same_read cause later =
      let code = refused_codes held held_now (refusal which reason) status one in
      record {
        read_fault = λ is. absurd (two status code is);
        write_fault = cause;
        too_long = λ below. ((λ is. absurd (seven status code is)), (λ over. absurd (omega (arith, same_given, over))));
        told_long = λ is. absurd (seven status code is);
        source_later = omega (arith, same_read);
        sink_later = later;
      }
    where
      two : (n : ℕ) → IsOneOf (3 ∷ 4 ∷ 6 ∷ 8 ∷ []) n → n ≡ 2 → ⊥
      two n is bad = grind (arith)

      seven : (n : ℕ) → IsOneOf (3 ∷ 4 ∷ 6 ∷ 8 ∷ []) n → n ≡ 7 → ⊥
      seven n is bad = grind (arith)

  -- the text was not read
  pub causes_unread : {X : Type 0} (status : ℕ) (result : Result X ℕ) → result ≡ Err status → IsOneOf (2 ∷ 4 ∷ 7 ∷ []) status → (result ≡ Err 2 → Rose read read_now) → (result ≡ Err 7 → IfSome left (λ bytes. input_limit < length bytes))
      → (given + input_limit < 2 ^ 64 - 1 → (result ≡ Err 7 ↔ (given + input_limit < given_now))) → read ≤ read_now → wrote_now ≡ wrote → HasCauses status given given_now read read_now wrote wrote_now left
  causes_unread status result is one fault long exact later same = record {
    read_fault = λ two. fault (is ∙ ap Err two);
    write_fault = λ three. absurd (not_three status one three);
    too_long = λ below. ((λ seven. (exact below).0 (is ∙ ap Err seven)), (λ over. let bad : Err status ≡ Err 7 = sym is ∙ (exact below).1 over in cc));
    told_long = λ seven. long (is ∙ ap Err seven);
    source_later = later;
    sink_later = omega (arith, same);
  }
    where
      not_three : (n : ℕ) → IsOneOf (2 ∷ 4 ∷ 7 ∷ []) n → n ≡ 3 → ⊥
      not_three n is bad = grind (arith)

  -- the same of the status that is handed back with the disks
  pub causes_given_back : {X : Type 0} (code status : ℕ) (result : Result X ℕ) → code ≡ status → result ≡ Err status → IsOneOf (2 ∷ 4 ∷ 7 ∷ []) status → (result ≡ Err 2 → Rose read read_now) → (result ≡ Err 7 → IfSome left (λ bytes. input_limit < length bytes))
      → (given + input_limit < 2 ^ 64 - 1 → (result ≡ Err 7 ↔ (given + input_limit < given_now))) → read ≤ read_now → wrote_now ≡ wrote → HasCauses code given given_now read read_now wrote wrote_now left
  causes_given_back code status result same is one fault long exact later stays =
      subst (λ n. HasCauses n given given_now read read_now wrote wrote_now left) (sym same) (causes_unread status result is one fault long exact later stays)

  -- the source's count stays where it was not its fault
  pub quiet_given_back : {X : Type 0} (code status : ℕ) (result : Result X ℕ) → code ≡ status → result ≡ Err status → StaysUnless read read_now (result ≡ Err 2) → StaysUnless read read_now (code ≡ 2)
  quiet_given_back code status result same is quiet = record { stays = λ not_two. quiet.stays (λ two. not_two (let apart : Err status ≡ Err 2 = sym is ∙ two in cc)) }

  -- it was read whole
  not_over : {X : Type 0} (result : Result X ℕ) (value : X) → result ≡ Ok value → (given + input_limit < 2 ^ 64 - 1 → (result ≡ Err 7 ↔ (given + input_limit < given_now))) → given + input_limit < 2 ^ 64 - 1 → given + input_limit < given_now → ⊥
  not_over result value is exact below over = apart value 7 (sym is ∙ (exact below).1 over)

  pub causes_stopped : {X : Type 0} (held held_now : Option Text) (reason : EnrolStop) (status : ℕ) (result : Result X ℕ) (value : X) → AnswersOne held held_now (stopped_by reason) status → result ≡ Ok value
      → (given + input_limit < 2 ^ 64 - 1 → (result ≡ Err 7 ↔ (given + input_limit < given_now))) → read ≤ read_now → (status ≡ 3 → Rose wrote wrote_now) → wrote ≤ wrote_now → HasCauses status given given_now read read_now wrote wrote_now left
  causes_stopped held held_now reason status result value one is exact read_later cause later =
      let code = stopped_codes held held_now reason status one in
      record {
        read_fault = λ two. absurd (not_two status code two);
        write_fault = cause;
        too_long = λ below. ((λ seven. absurd (not_seven status code seven)), (λ over. absurd (not_over result value is exact below over)));
        told_long = λ seven. absurd (not_seven status code seven);
        source_later = read_later;
        sink_later = later;
      }
    where
      not_two : (n : ℕ) → IsOneOf (3 ∷ 4 ∷ 6 ∷ 10 ∷ 12 ∷ []) n → n ≡ 2 → ⊥
      not_two n is bad = grind (arith)

      not_seven : (n : ℕ) → IsOneOf (3 ∷ 4 ∷ 6 ∷ 10 ∷ 12 ∷ []) n → n ≡ 7 → ⊥
      not_seven n is bad = grind (arith)

  -- and all users were enrolled
  pub causes_enrolled : {X : Type 0} (result : Result X ℕ) (value : X) → result ≡ Ok value → (given + input_limit < 2 ^ 64 - 1 → (result ≡ Err 7 ↔ (given + input_limit < given_now))) → read ≤ read_now → wrote_now ≡ wrote
      → HasCauses 0 given given_now read read_now wrote wrote_now left
  causes_enrolled result value is exact read_later same = record {
    read_fault = λ bad. absurd (cc);
    write_fault = λ bad. absurd (cc);
    too_long = λ below. ((λ bad. absurd (cc)), (λ over. absurd (not_over result value is exact below over)));
    told_long = λ bad. absurd (cc);
    source_later = read_later;
    sink_later = omega (arith, same);
  }

module _ {D : Type 0} (disks : Ghosts D) (limits : Limits) (plan : ServePlan) (given : List D) (unasked : Type 0) (left held held_now : Option Text) where
  -- ---- the statuses

  pub statuses : (result : Result (HostState D) (ServeFault D)) → Serves disks limits plan given unasked left held held_now result → IfErr result (λ fault. IsOneOf (2 ∷ 3 ∷ 4 ∷ 6 ∷ 7 ∷ 8 ∷ 10 ∷ 12 ∷ []) fault.status)
  statuses (Ok host) serves = tt
  statuses (Err fault) (Serves.refused {fault = log} refuses back quiet one) = from_refused fault.status (refused_codes held held_now (refusal log.which log.why) fault.status one)
  statuses (Err fault) (Serves.unread opens back code same) = from_unread fault.status code
  statuses (Err fault) (Serves.stopped {why = reason} opens input users back one) = from_stopped fault.status (stopped_codes held held_now reason fault.status one)

  -- ---- counts of disks

  kept_faults : (host after : HostState D) (fault : Type 0) (kept : KeepsHost disks host after fault) → disk_faults disks after + disks.faults host.keys.state.disk ≡ disk_faults disks host + disks.faults kept.state.disk
  kept_faults host after fault kept = let same = ap (disk_faults disks) kept.whole in omega (arith, same)

  host_later : (host after : HostState D) (fault : Type 0) → OpensHost disks limits plan.host plan.operator plan.trees given host → KeepsHost disks host after fault → sum_by disks.faults given ≤ sum_by disks.faults (disks_of after)
  host_later host after fault opens kept =
      let before = opens_later disks limits plan.host plan.operator plan.trees given host opens in
      let moved = kept_faults host after fault kept in
      let later = kept.counts.later in
      let all = host_faults disks after in
      omega (arith, before, moved, later, all)

  pub later : (result : Result (HostState D) (ServeFault D)) → Serves disks limits plan given unasked left held held_now result → sum_by disks.faults given ≤ sum_by disks.faults (disks_after result)
  later (Ok after) (Serves.enrolled {host = host} opens input users same) = host_later host after _ opens users.kept
  later (Err fault) (Serves.refused {fault = log} refuses back quiet one) = let counts = (refuses_counts disks limits plan.trees given log refuses).0 in let same = ap (sum_by disks.faults) back in omega (arith, counts, same)
  later (Err fault) (Serves.unread {host = host} opens back code same) =
      let before = opens_later disks limits plan.host plan.operator plan.trees given host opens in let all = host_faults disks host in let same_disks = ap (sum_by disks.faults) back in omega (arith, before, all, same_disks)
  later (Err fault) (Serves.stopped {host = host} {after = after} opens input users back one) = let all = host_later host after _ opens users.kept in let same = ap (sum_by disks.faults) back in omega (arith, all, same)

  keys_within : (host : HostState D) → disks.faults host.keys.state.disk ≤ disk_faults disks host
  keys_within host = omega arith

  pub rose : (result : Result (HostState D) (ServeFault D)) → Serves disks limits plan given unasked left held held_now result → result_code result ≡ 6 → Rose (sum_by disks.faults given) (sum_by disks.faults (disks_after result))
  rose (Ok after) serves six below = absurd (let bad : 0 ≡ 6 = six in cc)
  rose (Err fault) (Serves.refused {fault = log} refuses back quiet one) six below =
      let rises = (refuses_counts disks limits plan.trees given log refuses).1 (refused_six held held_now (refusal log.which log.why) fault.status one six) below in
      let same = ap (sum_by disks.faults) back in
      omega (arith, rises, same)
  rose (Err fault) (Serves.unread opens back code same) six below = absurd (not_unread fault.status code six)
  rose (Err fault) (Serves.stopped {host = host} {after = after} {why = reason} opens input users back one) six below =
      let is = stopped_six held held_now reason fault.status one six in
      let before = opens_later disks limits plan.host plan.operator plan.trees given host opens in
      let first = host_faults disks host in
      let moved = kept_faults host after _ users.kept in
      let all = host_faults disks after in
      let same = ap (sum_by disks.faults) back in
      let low : disks.faults host.keys.state.disk < 2 ^ 64 - 1 ⊎ (2 ^ 64 - 1 ≤ disks.faults host.keys.state.disk) = cases_lt (disks.faults host.keys.state.disk) (2 ^ 64 - 1) in
      elim low [
        | inl under ↦ (let rises = users.kept.counts.rose (ap Err is) under in omega (arith, before, first, moved, all, same, rises))
        | inr over ↦ (let within = keys_within host in let after_later = users.kept.counts.later in omega (arith, before, first, moved, all, same, over, below, within, after_later))
      ]

  host_calm : (host after : HostState D) (fault : Type 0) → OpensHost disks limits plan.host plan.operator plan.trees given host → KeepsHost disks host after fault → (fault → ⊥) → sum_by disks.faults (disks_of after) ≡ sum_by disks.faults given
  host_calm host after fault opens kept none =
      let before = opens_calm disks limits plan.host plan.operator plan.trees given host opens in
      let moved = kept_faults host after fault kept in
      let same : disks.faults kept.state.disk ≡ disks.faults host.keys.state.disk = kept.quiet.stays none in
      let all = host_faults disks after in
      omega (arith, before, moved, same, all)

  -- the counts of the disks are as before, unless the status tells of a disk, of the sink or of want of memory
  pub calm : (result : Result (HostState D) (ServeFault D)) → Serves disks limits plan given unasked left held held_now result
      → StaysUnless (sum_by disks.faults given) (sum_by disks.faults (disks_after result)) (IsOneOf (3 ∷ 4 ∷ 6 ∷ []) (result_code result))
  calm (Ok after) (Serves.enrolled {host = host} opens input users same) = record { stays = λ none. host_calm host after _ opens users.kept (λ bad. not_done bad) }
    where
      not_done : ◌≡◌ {A = Result (Unit {0}) EnrolStop} (Ok tt) (Err stop.DiskFault) → ⊥
      not_done bad = absurd (cc)
  calm (Err fault) (Serves.refused {fault = log} refuses back quiet one) = record {
    stays = λ none.
        let same = refuses_calm disks limits plan.trees given log refuses (λ is. none (subst (λ w. IsOneOf (3 ∷ 4 ∷ (refused_by log.which w).status ∷ []) fault.status) is one.one)) in
        let all = ap (sum_by disks.faults) back in
        omega (arith, same, all);
  }
  calm (Err fault) (Serves.unread {host = host} opens back code same) = record {
    stays = λ none.
        let before = opens_calm disks limits plan.host plan.operator plan.trees given host opens in
        let all = host_faults disks host in
        let same_disks = ap (sum_by disks.faults) back in
        omega (arith, before, all, same_disks);
  }
  calm (Err fault) (Serves.stopped {host = host} {after = after} {why = reason} opens input users back one) = record {
    stays = λ none.
        let same = host_calm host after _ opens users.kept (λ is. none (subst (λ w. IsOneOf (3 ∷ 4 ∷ (stopped_by w).status ∷ []) fault.status) (let e : reason ≡ stop.DiskFault = cc in e) one.one)) in
        let all = ap (sum_by disks.faults) back in
        omega (arith, same, all);
  }

  -- ---- completeness

  served_at : (text : Text) (before behind : List LogName) (log : LogName) (used opened rest : List D) (disk : D) → WereOpened disks limits before used opened → AreServed disks limits text (before ++ log ∷ behind) (used ++ disk ∷ rest) → IsServed disks limits text log disk
  served_at text [] behind log [] [] rest disk were all = all.0
  served_at text (l ∷ ls) behind log (d ∷ ds) (o ∷ os) rest disk were all = served_at text ls behind log ds os rest disk were.1 all.1
  served_at text [] behind log [] (o ∷ os) rest disk were all = absurd were
  served_at text [] behind log (d ∷ ds) [] rest disk were all = absurd were
  served_at text [] behind log (d ∷ ds) (o ∷ os) rest disk were all = absurd were
  served_at text (l ∷ ls) behind log [] [] rest disk were all = absurd were
  served_at text (l ∷ ls) behind log [] (o ∷ os) rest disk were all = absurd were
  served_at text (l ∷ ls) behind log (d ∷ ds) [] rest disk were all = absurd were

  not_damaged : {R : Type 0} (read : List ℕ → Result (List R) Damage) (disk : D) (has : List R → Type 0) (reason : OpenWhy) → Reads disks read disk has → IsDamageOf read (disks.content disk) reason → (damaged : Damage) → reason ≡ why_of damaged → ⊥
  not_damaged read disk has reason reads is damaged same =
      let told : read reads.bytes ≡ Err damaged = subst (λ content. IfSome content (λ seen. read seen ≡ Err damaged)) reads.told (is damaged same) in
      let bad : Ok reads.log ≡ Err damaged = sym reads.reads ∙ told in
      absurd (cc)

  refused_well : (text : Text) (log : LogName) (disk : D) (fault : OpenFault D) → IsServed disks limits text log disk → IsRefusedAs disks limits log disk fault → (damaged : Damage) → fault.why ≡ why_of damaged → ⊥
  refused_well text (LogName.OfTree owner) disk fault served refuses = not_damaged (tree.records_in owner limits.largest) disk _ fault.why served refuses.refuses.damaged
  refused_well text LogName.OfStore disk fault served refuses = not_damaged _ disk _ fault.why served refuses.refuses.damaged
  refused_well text LogName.OfKeys disk fault served refuses = not_damaged (keys.records_in limits.largest) disk _ fault.why served refuses.refuses.damaged

  opens_well : (text : Text) (fault : HostFault D) → AreServed disks limits text (logs_of plan.trees) given → RefusesHost disks limits plan.trees given fault → (damaged : Damage) → fault.why ≡ why_of damaged → ⊥
  opens_well text fault served (inl none) damaged is = by damaged (sym none.why_is ∙ is)
    where
      by : (d : Damage) → why.OutOfMemory ≡ why_of d → ⊥
      by (damage.Damaged gate) bad = absurd (cc)
      by (damage.Chain gate wanted got) bad = absurd (cc)
      by damage.OldFormat bad = absurd (cc)
  opens_well text fault served (inr one) damaged is =
      let here = subst (λ logs. AreServed disks limits text logs (one.used ++ one.disk ∷ one.rest)) one.logs_are (subst (AreServed disks limits text (logs_of plan.trees)) one.given_is served) in
      refused_well text one.log one.disk one.refused (served_at text one.before one.behind one.log one.used one.opened one.rest one.disk one.were_opened here) one.was_refused damaged (sym one.why_is ∙ is)

  -- the disk of the keys is the last one
  keys_served : (text : Text) (owners : List UserName) (used : List D) (trees : List (Held (tree.State D))) (store key_log : D) → OpensTrees disks limits owners used trees → AreServed disks limits text (logs_of owners) (used ++ store ∷ key_log ∷ [])
      → Reads disks (keys.records_in limits.largest) key_log (λ log. (enrolment limits log text).stop ≡ None)
  keys_served text [] [] [] store key_log opens all = all.1.0
  keys_served text (o ∷ os) (d ∷ ds) (h ∷ hs) store key_log opens all = keys_served text os ds hs store key_log opens.1 all.1
  keys_served text [] [] (h ∷ hs) store key_log opens all = absurd opens
  keys_served text [] (d ∷ ds) [] store key_log opens all = absurd opens
  keys_served text [] (d ∷ ds) (h ∷ hs) store key_log opens all = absurd opens
  keys_served text (o ∷ os) [] [] store key_log opens all = absurd opens
  keys_served text (o ∷ os) [] (h ∷ hs) store key_log opens all = absurd opens
  keys_served text (o ∷ os) (d ∷ ds) [] store key_log opens all = absurd opens

  -- the users of the text find room in the log of the keys
  takes_users : (text : Text) (host : HostState D) → AreServed disks limits text (logs_of plan.trees) given → OpensHost disks limits plan.host plan.operator plan.trees given host → (enrolment host.keys.state.limits host.keys.state.log text).stop ≡ None
  takes_users text host served opens =
      let logs = opens.logs in
      let reads = keys_served text plan.trees logs.of_trees host.trees logs.of_store logs.of_keys logs.trees_are (subst (AreServed disks limits text (logs_of plan.trees)) logs.given_is served) in
      let read : keys.records_in limits.largest reads.bytes ≡ Ok host.keys.state.log = subst (λ content. IfSome content (λ bytes. keys.records_in limits.largest bytes ≡ Ok host.keys.state.log)) reads.told logs.keys_are.log.opens.log in
      let same : reads.log ≡ host.keys.state.log = (let e : Ok reads.log ≡ Ok host.keys.state.log = sym reads.reads ∙ read in cc) in
      subst (λ l. (enrolment l host.keys.state.log text).stop ≡ None) (sym logs.keys_are.log.opens.limits_are) (subst (λ log. (enrolment limits log text).stop ≡ None) same reads.holds)

  went_on : (text : Text) (host after : HostState D) (reason : EnrolStop) → (enrolment host.keys.state.limits host.keys.state.log text).stop ≡ None → EnrolsUsers disks text host after (Err reason) → is_cut (Err reason) ≡ false → ⊥
  went_on text host after reason none users fine = let bad : Some reason ≡ None = sym (ap (λ e. e.stop) (users.exact fine)) ∙ none in absurd (cc)

  pub complete : (text : Text) (result : Result (HostState D) (ServeFault D)) → Serves disks limits plan given unasked left held held_now result → left ≡ Some text → AreServed disks limits text (logs_of plan.trees) given
      → (result_code result ≡ 2 → ⊥) → (result_code result ≡ 3 → ⊥) → (result_code result ≡ 6 → ⊥) → (result_code result ≡ 7 → ⊥) → IsOneOf (0 ∷ 4 ∷ []) (result_code result)
  complete text (Ok host) serves told served read write disk long = refl
  complete text (Err fault) (Serves.refused {fault = log} refuses back quiet one) told served read write disk long = refused_complete held held_now (refusal log.which log.why) fault.status one (opens_well text log served refuses) write disk
  complete text (Err fault) (Serves.unread opens back code same) told served read write disk long = unread_four fault.status code read long
  complete text (Err fault) (Serves.stopped {host = host} {after = after} {text = seen} {why = reason} opens input users back one) told served read write disk long =
      let same : seen ≡ text = subst (λ l. IfSome l (λ bytes. seen ≡ bytes)) told input.told in
      by_stop (takes_users text host served opens) (subst (λ t. EnrolsUsers disks t host after (Err reason)) same users) reason refl one
    where
      by_stop : (enrolment host.keys.state.limits host.keys.state.log text).stop ≡ None → EnrolsUsers disks text host after (Err reason) → (r : EnrolStop) → reason ≡ r → AnswersOne held held_now (stopped_by reason) fault.status → IsOneOf (0 ∷ 4 ∷ []) fault.status
      by_stop none did (stop.BadLine number) is answer = absurd (went_on text host after reason none did (ap (λ r. is_cut (Err r)) is))
      by_stop none did (stop.Full records) is answer = absurd (went_on text host after reason none did (ap (λ r. is_cut (Err r)) is))
      by_stop none did stop.DiskFault is answer = six fault.status (subst (λ r. IsOneOf (3 ∷ 4 ∷ (stopped_by r).status ∷ []) fault.status) is answer.one) write disk
      by_stop none did stop.OutOfMemory is answer = four fault.status (subst (λ r. IsOneOf (3 ∷ 4 ∷ (stopped_by r).status ∷ []) fault.status) is answer.one) write disk

  pub complete_if : (given_bytes given_now read read_now wrote wrote_now : ℕ) (result : Result (HostState D) (ServeFault D)) → Serves disks limits plan given unasked left held held_now result → HasCauses (result_code result) given_bytes given_now read read_now wrote wrote_now left
      → IfSome left (λ text. length text ≤ input_limit → AreServed disks limits text (logs_of plan.trees) given → Stays read read_now → Stays wrote wrote_now → Stays (sum_by disks.faults given) (sum_by disks.faults (disks_after result)) → IsOneOf (0 ∷ 4 ∷ []) (result_code result))
  complete_if given_bytes given_now read read_now wrote wrote_now result serves causes = by left refl
    where
      by : (l : Option Text) → left ≡ l
          → IfSome l (λ text. length text ≤ input_limit → AreServed disks limits text (logs_of plan.trees) given → Stays read read_now → Stays wrote wrote_now → Stays (sum_by disks.faults given) (sum_by disks.faults (disks_after result)) → IsOneOf (0 ∷ 4 ∷ []) (result_code result))
      by None is = tt
      by (Some text) is = λ few served source sink disk.
          complete text result serves is served (λ two. source (causes.read_fault two)) (λ three. sink (causes.write_fault three)) (λ six. disk (rose result serves six))
          (λ seven. let long : input_limit < length text = subst (λ l. IfSome l (λ bytes. input_limit < length bytes)) is (causes.told_long seven) in absurd (omega (arith, long, few)))

-- ---- words that are not read, for want of memory

module _ {D : Type 0} (disks : Ghosts D) (limits : Limits) (given : Spared D) (unasked : Type 0) (left held : Option Text) where
  abbrev wanting : HostFault D
  wanting = record { disks = given; which = 0; why = why.OutOfMemory }

  pub words_unread : (plan : ServePlan) → unasked → Serves disks limits plan given.disks unasked left held held (Err (record { status = 4; disks = given }))
  words_unread plan quiet = Serves.refused {fault = wanting} {result = record { status = 4; disks = given }} (inl (record { handed = refl; why_is = refl; which_is = refl })) refl quiet
      (record { one = refl; answers = record { whole = λ bad. absurd (cc); part = WritesPart-none held [] } })

-- what holds of each thing holds of one that may be there
pub if_any : {X : Type 0} (P : X → Type 0) (found : Option X) → ((x : X) → P x) → IfSome found P
if_any P None each = tt
if_any P (Some x) each = each x

module _ {D : Type 0} (disks : Ghosts D) (limits : Limits) (given : Spared D) (unasked : Type 0) (left held held_now : Option Text) where
  pub words_wanting : (found : Option ServePlan) → unasked → held_now ≡ held → IfSome found (λ plan. Serves disks limits plan given.disks unasked left held held_now (Err (record { status = 4; disks = given })))
  words_wanting found quiet same = subst (λ now. IfSome found (λ plan. Serves disks limits plan given.disks unasked left held now (Err (record { status = 4; disks = given })))) (sym same)
      (if_any (λ plan. Serves disks limits plan given.disks unasked left held held (Err (record { status = 4; disks = given }))) found (λ plan. words_unread disks limits given unasked left held plan quiet))

-- ---- words that do not fit

more_64 : (n : ℕ) → IsOneOf (2 ∷ 3 ∷ 4 ∷ 6 ∷ 7 ∷ 8 ∷ 10 ∷ 12 ∷ []) n → IsOneOf (2 ∷ 3 ∷ 4 ∷ 6 ∷ 7 ∷ 8 ∷ 10 ∷ 12 ∷ 64 ∷ []) n
more_64 n one = grind (arith)

never_64 : (n : ℕ) → IsOneOf (2 ∷ 3 ∷ 4 ∷ 6 ∷ 7 ∷ 8 ∷ 10 ∷ 12 ∷ []) n → n ≡ 64 → ⊥
never_64 n one is = grind (arith)

pub with_usage : {D : Type 0} (result : Result (HostState D) (ServeFault D)) → IfErr result (λ fault. IsOneOf (2 ∷ 3 ∷ 4 ∷ 6 ∷ 7 ∷ 8 ∷ 10 ∷ 12 ∷ []) fault.status)
    → IfErr result (λ fault. IsOneOf (2 ∷ 3 ∷ 4 ∷ 6 ∷ 7 ∷ 8 ∷ 10 ∷ 12 ∷ 64 ∷ []) fault.status)
with_usage (Ok host) one = tt
with_usage (Err fault) one = more_64 fault.status one

pub usage_codes : (n : ℕ) → IsOneOf (3 ∷ 64 ∷ []) n → IsOneOf (2 ∷ 3 ∷ 4 ∷ 6 ∷ 7 ∷ 8 ∷ 10 ∷ 12 ∷ 64 ∷ []) n
usage_codes n one = grind (arith)

pub usage_or_4 : (n : ℕ) → IsOneOf (3 ∷ 64 ∷ []) n → IsOneOf (3 ∷ 4 ∷ 64 ∷ []) n
usage_or_4 n one = grind (arith)

pub four_or_usage : (n : ℕ) → n ≡ 4 → IsOneOf (3 ∷ 4 ∷ 64 ∷ []) n
four_or_usage n is = grind (arith)

pub usage_not_6 : (n : ℕ) → IsOneOf (3 ∷ 64 ∷ []) n → n ≡ 6 → ⊥
usage_not_6 n one is = grind (arith)

pub ruleset unread = (words_wanting, with_usage, usage_codes, usage_or_4)

-- ---- what came of a plan, at each exit

input_is : {text read : Text} (left : Option Text) → text ≡ read → IfSome left (λ bytes. read ≡ bytes) → length text ≤ input_limit → IsInput left text
input_is {text = text} left is told few = record { told = subst (λ t. IfSome left (λ bytes. t ≡ bytes)) (sym is) told; few = few }

module _ {D : Type 0} {disks : Ghosts D} {limits : Limits} {plan : ServePlan} {given : List D} {unasked : Type 0} {left held held_now : Option Text} where
  pub was_refused : {fault : HostFault D} {result : ServeFault D} → RefusesHost disks limits plan.trees given fault → result.disks.disks ≡ fault.disks.disks → unasked → AnswersOne held held_now (refused_by fault.which fault.why) result.status
      → Serves disks limits plan given unasked left held held_now (Err result)
  was_refused refuses back quiet one = Serves.refused refuses back quiet one

  pub was_unread : {host : HostState D} {result : ServeFault D} {status : ℕ} → OpensHost disks limits plan.host plan.operator plan.trees given host → result.disks.disks ≡ disks_of host → result.status ≡ status → IsOneOf (2 ∷ 4 ∷ 7 ∷ []) status → held_now ≡ held
      → Serves disks limits plan given unasked left held held_now (Err result)
  was_unread opens back is one same = Serves.unread opens back (subst (IsOneOf (2 ∷ 4 ∷ 7 ∷ [])) (sym is) one) same

  pub was_stopped : {host after : HostState D} {text read : Text} {why : EnrolStop} {result : ServeFault D} → OpensHost disks limits plan.host plan.operator plan.trees given host → text ≡ read → IfSome left (λ bytes. read ≡ bytes) → length text ≤ input_limit
      → EnrolsUsers disks text host after (Err why) → result.disks.disks ≡ disks_of after → AnswersOne held held_now (stopped_by why) result.status → Serves disks limits plan given unasked left held held_now (Err result)
  was_stopped opens is told few users back one = Serves.stopped opens (input_is left is told few) users back one

  pub was_enrolled : {host after : HostState D} {text read : Text} → OpensHost disks limits plan.host plan.operator plan.trees given host → text ≡ read → IfSome left (λ bytes. read ≡ bytes) → length text ≤ input_limit → EnrolsUsers disks text host after (Ok tt) → held_now ≡ held
      → Serves disks limits plan given unasked left held held_now (Ok after)
  was_enrolled opens is told few users same = Serves.enrolled opens (input_is left is told few) users same

pub ruleset came = (was_refused, was_unread, was_stopped, was_enrolled)

pub ruleset causes = (causes_refused, causes_unread, causes_stopped, causes_enrolled)

pub ruleset served = (statuses, later, rose, calm, complete_if)
