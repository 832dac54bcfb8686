-- How the counts of disks rise where logs are opened or refused.
use Rattle.std.proofs.Common.{◌≡◌, ◌≤◌, ℕ, List, [], ◌∷◌, ◌++◌, inl, inr, map, sym, ap, subst, ◌∙◌, arith}
use Rattle.std.proofs.lemmas.List.Sums.{sum_by-append, sum_by-cons}
use Rattle.std.specs.List.{sum_by}
use Rattle.up_blocks.specs.declared.record.BlockRecord.{BlockRecord}
use Rattle.up_disk.specs.declared.disk.Disk.{Ghosts}
use Rattle.up_journal.specs.Damages.{Damage}
use Rattle.up_journal.specs.Damages as damage
use Rattle.up_journal.specs.Logs.{LogState}
use Rattle.up_journal.specs.Opened.{IsDamageOf, why_of}
use Rattle.up_journal.specs.declared.fault.OpenFault.{OpenFault}
use Rattle.up_journal.specs.declared.fault.OpenWhy.{OpenWhy}
use Rattle.up_journal.specs.declared.fault.OpenWhy.TheVariants as reason
use Rattle.up_journal.specs.declared.limits.Limits.{Limits}
use Rattle.up_lists.specs.Counts.{HasCause, Rose}
use Rattle.up_names.specs.Texts.{UserName}
use Rattle.std.specs.Prelude.{Result, Ok, Err, IfSome}
use Rattle.up_reports.specs.Opens.{AreLogs, IsRefusedAs, LogKind, OpensLogs, OpensTrees, Reads, ReadsAs, RefusesLogs, WasOpenedAs, WereOpened, disk_of, disks_of}
use Rattle.up_reports.specs.declared.refused.Refused.{Refused}
use Rattle.up_tree.specs.States as tree

module _ {D : Type 0} (disks : Ghosts D) (limits : Limits) where
  pub trees_later : (owners : List UserName) (used : List D) (trees : List (tree.State D)) → OpensTrees disks limits owners used trees → sum_by disks.faults used ≤ sum_by disks.faults (map disk_of trees)
  trees_later [] [] [] all = omega arith
  trees_later (o ∷ os) (d ∷ ds) (h ∷ hs) all =
      let one = all.0.log.counts.later in
      let rest = trees_later os ds hs all.1 in
      let a = sum_by-cons disks.faults d ds in
      let b = sum_by-cons disks.faults h.disk (map disk_of hs) in
      omega (arith, one, rest, a, b)
  trees_later [] [] (h ∷ hs) all = absurd all
  trees_later [] (d ∷ ds) [] all = absurd all
  trees_later [] (d ∷ ds) (h ∷ hs) all = absurd all
  trees_later (o ∷ os) [] [] all = absurd all
  trees_later (o ∷ os) [] (h ∷ hs) all = absurd all
  trees_later (o ∷ os) (d ∷ ds) [] all = absurd all

  -- the counts of all disks where all logs were opened
  pub opens_later : (owners : List UserName) (given : List D) (trees : List (tree.State D)) (store : LogState D BlockRecord) → OpensLogs disks limits owners given trees store → sum_by disks.faults given ≤ sum_by disks.faults (disks_of trees store)
  opens_later owners given trees store logs =
      let all = trees_later owners logs.of_trees trees logs.trees_are in
      let last = logs.store_is.counts.later in
      let whole = ap (sum_by disks.faults) logs.given_is ∙ sum_by-append disks.faults logs.of_trees (logs.of_store ∷ []) in
      let one = sum_by-cons disks.faults logs.of_store [] in
      let now = sum_by-append disks.faults (map disk_of trees) (store.disk ∷ []) in
      let one_now = sum_by-cons disks.faults store.disk [] in
      omega (arith, all, last, whole, one, now, one_now)

  was_later : (log : LogKind) (disk after : D) → WasOpenedAs disks limits log disk after → disks.faults disk ≤ disks.faults after
  was_later (LogKind.OfTree owner) disk after was = subst (λ d. disks.faults disk ≤ disks.faults d) was.disk_is was.opened.counts.later
  was_later LogKind.OfStore disk after was = subst (λ d. disks.faults disk ≤ disks.faults d) was.disk_is was.opened.counts.later

  were_later : (logs : List LogKind) (used opened : List D) → WereOpened disks limits logs used opened → sum_by disks.faults used ≤ sum_by disks.faults opened
  were_later [] [] [] all = omega arith
  were_later (l ∷ ls) (d ∷ ds) (o ∷ os) all =
      let one = was_later l d o all.0 in
      let rest = were_later ls ds os all.1 in
      let a = sum_by-cons disks.faults d ds in
      let b = sum_by-cons disks.faults o os in
      omega (arith, one, rest, a, b)
  were_later [] [] (o ∷ os) all = absurd all
  were_later [] (d ∷ ds) [] all = absurd all
  were_later [] (d ∷ ds) (o ∷ os) all = absurd all
  were_later (l ∷ ls) [] [] all = absurd all
  were_later (l ∷ ls) [] (o ∷ os) all = absurd all
  were_later (l ∷ ls) (d ∷ ds) [] all = absurd all

  refused_counts : (log : LogKind) (disk : D) (fault : OpenFault D) → IsRefusedAs disks limits log disk fault → HasCause (disks.faults disk) (disks.faults fault.disk) (fault.why ≡ reason.Fault)
  refused_counts (LogKind.OfTree owner) disk fault refused = refused.counts
  refused_counts LogKind.OfStore disk fault refused = refused.counts

  -- disks that are put back: the sum never falls, and rose for a fault
  pub refuses_later : (logs : List LogKind) (given now : List D) (refused : Refused) → RefusesLogs disks limits logs given now refused → sum_by disks.faults given ≤ sum_by disks.faults now
  refuses_later logs given now refused (inl none) = let same = ap (sum_by disks.faults) none.back_is in omega (arith, same)
  refuses_later logs given now refused (inr one) =
      let later = (refused_counts one.log one.disk one.fault one.was_refused).later in
      let were = were_later one.before one.used one.opened one.were_opened in
      let a = ap (sum_by disks.faults) one.given_is ∙ sum_by-append disks.faults one.used (one.disk ∷ one.rest) in
      let b = sum_by-cons disks.faults one.disk one.rest in
      let c = ap (sum_by disks.faults) one.back_is ∙ sum_by-append disks.faults one.opened (one.fault.disk ∷ one.rest) in
      let d = sum_by-cons disks.faults one.fault.disk one.rest in
      omega (arith, later, were, a, b, c, d)

  pub refuses_rose : (logs : List LogKind) (given now : List D) (refused : Refused) → RefusesLogs disks limits logs given now refused → refused.why ≡ reason.Fault → Rose (sum_by disks.faults given) (sum_by disks.faults now)
  refuses_rose logs given now refused (inl none) is below = absurd (let e : reason.OutOfMemory ≡ reason.Fault = sym (ap (λ (r : Refused). r.why) none.refused_is) ∙ is in cc)
  refuses_rose logs given now refused (inr one) is below =
      let counts = refused_counts one.log one.disk one.fault one.was_refused in
      let were = were_later one.before one.used one.opened one.were_opened in
      let a = ap (sum_by disks.faults) one.given_is ∙ sum_by-append disks.faults one.used (one.disk ∷ one.rest) in
      let b = sum_by-cons disks.faults one.disk one.rest in
      let c = ap (sum_by disks.faults) one.back_is ∙ sum_by-append disks.faults one.opened (one.fault.disk ∷ one.rest) in
      let d = sum_by-cons disks.faults one.fault.disk one.rest in
      let rose = counts.rose (sym (ap (λ (r : Refused). r.why) one.refused_is) ∙ is) (omega (arith, a, b, below)) in
      omega (arith, rose, were, a, b, c, d)

  -- ---- logs that are good are not refused for their content

  reads_at : (before behind : List LogKind) (log : LogKind) (used opened rest : List D) (disk : D) → WereOpened disks limits before used opened → AreLogs disks limits (before ++ log ∷ behind) (used ++ disk ∷ rest) → ReadsAs disks limits log disk
  reads_at [] behind log [] [] rest disk were all = all.0
  reads_at (l ∷ ls) behind log (d ∷ ds) (o ∷ os) rest disk were all = reads_at ls behind log ds os rest disk were.1 all.1
  reads_at [] behind log [] (o ∷ os) rest disk were all = absurd were
  reads_at [] behind log (d ∷ ds) [] rest disk were all = absurd were
  reads_at [] behind log (d ∷ ds) (o ∷ os) rest disk were all = absurd were
  reads_at (l ∷ ls) behind log [] [] rest disk were all = absurd were
  reads_at (l ∷ ls) behind log [] (o ∷ os) rest disk were all = absurd were
  reads_at (l ∷ ls) behind log (d ∷ ds) [] rest disk were all = absurd were

  not_damaged : {R : Type 0} (read : List ℕ → Result (List R) Damage) (disk : D) (why : OpenWhy) → Reads disks read disk → IsDamageOf read (disks.content disk) why → (damaged : Damage) → why ≡ why_of damaged → ⊥
  not_damaged read disk why reads is damaged same =
      let told : read reads.bytes ≡ Err damaged = subst (λ content. IfSome content (λ seen. read seen ≡ Err damaged)) reads.told (is damaged same) in
      let bad : Ok reads.log ≡ Err damaged = sym reads.reads ∙ told in
      absurd (cc)

  refused_well : (log : LogKind) (disk : D) (fault : OpenFault D) → ReadsAs disks limits log disk → IsRefusedAs disks limits log disk fault → (damaged : Damage) → fault.why ≡ why_of damaged → ⊥
  refused_well (LogKind.OfTree owner) disk fault reads refuses = not_damaged (tree.records_in owner limits.largest) disk fault.why reads refuses.refuses.damaged
  refused_well LogKind.OfStore disk fault reads refuses = not_damaged _ disk fault.why reads refuses.refuses.damaged

  pub refuses_well : (logs : List LogKind) (given now : List D) (refused : Refused) → AreLogs disks limits logs given → RefusesLogs disks limits logs given now refused → (damaged : Damage) → refused.why ≡ why_of damaged → ⊥
  refuses_well logs given now refused all (inl none) damaged is = wanting damaged (sym (ap (λ (r : Refused). r.why) none.refused_is) ∙ is)
    where
      wanting : (d : Damage) → reason.OutOfMemory ≡ why_of d → ⊥
      wanting (damage.Damaged gate) bad = absurd (cc)
      wanting (damage.Chain gate wanted got) bad = absurd (cc)
      wanting damage.OldFormat bad = absurd (cc)
  refuses_well logs given now refused all (inr one) damaged is =
      let here : AreLogs disks limits (one.before ++ one.log ∷ one.behind) (one.used ++ one.disk ∷ one.rest) = subst (λ ls. AreLogs disks limits ls (one.used ++ one.disk ∷ one.rest)) one.logs_are (subst (AreLogs disks limits logs) one.given_is all) in
      refused_well one.log one.disk one.fault (reads_at one.before one.behind one.log one.used one.opened one.rest one.disk one.were_opened here) one.was_refused damaged (sym (ap (λ (r : Refused). r.why) one.refused_is) ∙ is)
