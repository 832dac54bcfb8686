-- What comes of a report on one log, case by case.
use Rattle.std.proofs.Common.{◌≡◌, ◌≢◌, ◌≤◌, ℕ, suc, false, List, [], ◌∷◌, ◌++◌, length, map, Option, Some, None, refl, sym, ap, subst, ◌∙◌, ◌⊎◌, inl, inr, arith, slice_get, append-nil, option_map, IfSome}
use Rattle.std.specs.List.{sum_by}
use Rattle.std.proofs.lemmas.List.{length-append}
use Rattle.std.proofs.lemmas.List.Sums.{sum_by-cons}
use Rattle.up_command.specs.Statuses.{Answer, IsOneOf}
use Rattle.up_disk.specs.declared.disk.Disk.{Ghosts}
use Rattle.up_ends.specs.Writing.{WritesPart}
use Rattle.up_ends.proofs.Going.{WritesPart-none}
use Rattle.up_journal.specs.declared.limits.Limits.{Limits}
use Rattle.up_lists.specs.Counts.{Rose}
use Rattle.up_names.specs.Texts.{Text, UserName}
use Rattle.up_reports.specs.declared.refused.Refused.{Refused}
use Rattle.up_policy.specs.Trees.{owns_snapshots}
use Rattle.up_log_tree.proofs.Paths.{some_none, some_same}
use Rattle.up_reports.specs.Opens.{AreLogs, OpensTree, OpensTrees, RefusesLogs, TakesTrees, disk_of, report_limits, trees_of}
use Rattle.up_reports.specs.Telling.{AnswersOne, Stays, told_of}
use Rattle.up_reports.proofs.CountLemmas.{refuses_later, refuses_rose, refuses_well}
use Rattle.up_reports.proofs.TellLemmas.{refused_codes, refused_complete, refused_six, told_wanting}
use Rattle.up_share.specs.declared.plan.SharePlan.{SharePlan}
use Rattle.up_log_tree.specs.Trees.{tree_of}
use Rattle.up_share.specs.Plans.{plan_of}
use Rattle.up_share.specs.Report.{report}
use Rattle.up_share.specs.Sharing.{FitsNot, HasCauses, IsComplete, Refuses, Shares, Tells, Wants, whole_report}
use Rattle.up_tree.specs.States as tree

-- statuses, one by one
told_codes : (n : ℕ) → IsOneOf (3 ∷ 4 ∷ 0 ∷ []) n → IsOneOf (0 ∷ 3 ∷ 4 ∷ 6 ∷ 8 ∷ []) n
told_codes n is = grind (arith)

told_never_6 : (n : ℕ) → IsOneOf (3 ∷ 4 ∷ 0 ∷ []) n → n ≡ 6 → ⊥
told_never_6 n is six = grind (arith)

told_complete : (n : ℕ) → IsOneOf (3 ∷ 4 ∷ 0 ∷ []) n → (n ≡ 3 → ⊥) → IsOneOf (0 ∷ 4 ∷ []) n
told_complete n is not = grind (arith)

more_codes : (n : ℕ) → IsOneOf (3 ∷ 4 ∷ 6 ∷ 8 ∷ []) n → IsOneOf (0 ∷ 3 ∷ 4 ∷ 6 ∷ 8 ∷ []) n
more_codes n is = grind (arith)

four_code : (n : ℕ) → n ≡ 4 → IsOneOf (0 ∷ 3 ∷ 4 ∷ 6 ∷ 8 ∷ []) n
four_code n is = grind (arith)

four_complete : (n : ℕ) → n ≡ 4 → IsOneOf (0 ∷ 4 ∷ []) n
four_complete n is = grind (arith)

module _ {D : Type 0} (disks : Ghosts D) (limits : Limits) (owner : UserName) where
  -- the one disk, and the tree that was opened over it
  pub record Opened (given mid : List D) (trees : List (tree.State D)) : Type 0 where
    pub disk : D
    pub state : tree.State D
    pub given_is : given ≡ disk ∷ []
    pub left : mid ≡ []
    pub trees_are : trees ≡ state ∷ []
    pub opened : OpensTree disks limits owner disk state

  one_tree : (given mid used : List D) (trees : List (tree.State D)) → length given ≡ 1 → given ≡ used ++ mid → OpensTrees disks limits (owner ∷ []) used trees → Opened given mid trees
  one_tree given mid (disk ∷ []) (state ∷ []) one is all = record {
    disk = disk;
    state = state;
    given_is = is ∙ ap (λ rest. disk ∷ rest) (none mid (let e : length (disk ∷ mid) ≡ length given = ap length (sym is) in omega (arith, e, one)));
    left = none mid (let e : length (disk ∷ mid) ≡ length given = ap length (sym is) in omega (arith, e, one));
    trees_are = refl;
    opened = all.0;
  }
    where
      none : (xs : List D) → length xs ≡ 0 → xs ≡ []
      none [] h = refl
      none (x ∷ xs) h = absurd (omega (arith, h))
  one_tree given mid [] trees one is all = absurd all
  one_tree given mid (disk ∷ used) [] one is all = absurd all
  one_tree given mid (disk ∷ []) (state ∷ other ∷ trees) one is all = absurd all.1
  one_tree given mid (disk ∷ second ∷ used) (state ∷ []) one is all = absurd all.1
  one_tree given mid (disk ∷ second ∷ used) (state ∷ other ∷ trees) one is all = absurd all.1

  pub opened_one : (given mid : List D) (trees : List (tree.State D)) → length given ≡ 1 → TakesTrees disks limits (owner ∷ []) given mid trees → Opened given mid trees
  opened_one given mid trees one takes = one_tree given mid takes.used trees one takes.given_is takes.opened

  pub one_long : (given mid : List D) (trees : List (tree.State D)) → length given ≡ 1 → TakesTrees disks limits (owner ∷ []) given mid trees → length trees ≡ 1
  one_long given mid trees one takes = ap length (opened_one given mid trees one takes).trees_are

  -- the report was printed, and the disk is back
  pub tells : (given mid now : List D) (trees : List (tree.State D)) (held held_now : Option Text) (status : ℕ) → length given ≡ 1 → TakesTrees disks limits (owner ∷ []) given mid trees → now ≡ mid ++ map disk_of trees →
      ((state : tree.State D) → slice_get trees 0 ≡ Some state → AnswersOne held held_now (whole_report state) status) → Shares disks limits owner given now held held_now status
  tells given mid now trees held held_now status one takes back answers =
      let there = opened_one given mid trees one takes in
      inl (record {
        disk = there.disk;
        state = there.state;
        given_is = there.given_is;
        opened = there.opened;
        back_is = back ∙ (ap (λ front. front ++ map disk_of trees) there.left ∙ ap (map disk_of) there.trees_are);
        answers = answers there.state (ap (λ all. slice_get all 0) there.trees_are);
      })

  pub refusing : (given now : List D) (refused : Refused) (held held_now : Option Text) (status : ℕ) → RefusesLogs disks limits (trees_of (owner ∷ [])) given now refused → AnswersOne held held_now (told_of refused) status → Shares disks limits owner given now held held_now status
  refusing given now refused held held_now status refuses answers = inr (inl (record { refused = refused; refuses = refuses; answers = answers }))

  -- nothing was done
  pub wanting : (given : List D) (held : Option Text) → Shares disks limits owner given given held held 4
  wanting given held = inr (inr (record { status_is = refl; back_is = refl; held_is = refl }))

  -- ---- what follows from what came of it

  module _ (given now : List D) (held held_now : Option Text) (status : ℕ) where
    pub shared_codes : Shares disks limits owner given now held held_now status → IsOneOf (0 ∷ 3 ∷ 4 ∷ 6 ∷ 8 ∷ []) status
    shared_codes (inl tells) = told_codes status tells.answers.one
    shared_codes (inr (inl refuses)) = more_codes status (refused_codes held held_now refuses.refused status refuses.answers)
    shared_codes (inr (inr wants)) = four_code status wants.status_is

    disk_fault : Shares disks limits owner given now held held_now status → status ≡ 6 → Rose (sum_by disks.faults given) (sum_by disks.faults now)
    disk_fault (inl tells) six = absurd (told_never_6 status tells.answers.one six)
    disk_fault (inr (inl refuses)) six = refuses_rose disks limits (trees_of (owner ∷ [])) given now refuses.refused refuses.refuses (refused_six held held_now refuses.refused status refuses.answers six)
    disk_fault (inr (inr wants)) six = absurd (let four = wants.status_is in omega (arith, six, four))

    disk_counts : Shares disks limits owner given now held held_now status → sum_by disks.faults given ≤ sum_by disks.faults now
    disk_counts (inl tells) =
        let a = ap (sum_by disks.faults) tells.given_is ∙ sum_by-cons disks.faults tells.disk [] in
        let b = ap (sum_by disks.faults) tells.back_is ∙ sum_by-cons disks.faults tells.state.disk [] in
        let c = tells.opened.log.counts.later in
        omega (arith, a, b, c)
    disk_counts (inr (inl refuses)) = refuses_later disks limits (trees_of (owner ∷ [])) given now refuses.refused refuses.refuses
    disk_counts (inr (inr wants)) = let same = ap (sum_by disks.faults) wants.back_is in omega (arith, same)

    module _ (sink sink_now : ℕ) (cause : status ≡ 3 → Rose sink sink_now) where
      pub shared_causes : Shares disks limits owner given now held held_now status → sink ≤ sink_now → HasCauses disks given now sink sink_now status
      shared_causes shares later = record { write_fault = cause; disk_fault = disk_fault shares; sink_counts = later; disk_counts = disk_counts shares }

      pub shared_complete : Shares disks limits owner given now held held_now status → IsComplete disks limits owner given now sink sink_now status
      shared_complete (inl tells) reads stays disk_stays = told_complete status tells.answers.one (λ three. stays (cause three))
      shared_complete (inr (inl refuses)) reads stays disk_stays =
          refused_complete held held_now refuses.refused status refuses.answers (refuses_well disks limits (trees_of (owner ∷ [])) given now refuses.refused reads refuses.refuses) (λ three. stays (cause three))
          (λ six. disk_stays (disk_fault (inr (inl refuses)) six))
      shared_complete (inr (inr wants)) reads stays disk_stays = four_complete status wants.status_is

pub ruleset sharings = (one_long, tells, refusing, wanting)

-- ---- what is printed

-- there was no memory: nothing was
pub wanting_one : (held : Option Text) (answer : Answer) → AnswersOne held held answer 4
wanting_one held answer = told_wanting held held answer.text answer.status (WritesPart-none held answer.text)

-- it is the text of the report
pub text_told : {D : Type 0} (state : tree.State D) (text : Text) (held held_now : Option Text) (status : ℕ) → text ≡ report state.owner (tree_of state.log) → AnswersOne held held_now (record { text = text; status = 0 }) status → AnswersOne held held_now (whole_report state) status
text_told state text held held_now status is told = subst (λ (all : Text). AnswersOne held held_now (record { text = all; status = 0 }) status) is told

-- the one tree is the first
pub first_told : {D : Type 0} (trees : List (tree.State D)) (one : tree.State D) (held held_now : Option Text) (status : ℕ) → Some one ≡ slice_get trees 0 → AnswersOne held held_now (whole_report one) status →
    (state : tree.State D) → slice_get trees 0 ≡ Some state → AnswersOne held held_now (whole_report state) status
first_told trees one held held_now status at told state is = subst (λ s. AnswersOne held held_now (whole_report s) status) (some_same one state (at ∙ is)) told

-- ---- by the words

module _ {D : Type 0} (disks : Ghosts D) (words : List Text) (given : List D) where
  -- the words fit, there is one disk, and this is whose tree it is
  abbrev pub Fits : UserName → Type 0
  Fits owner = (length given ≡ 1) × (owns_snapshots owner ≡ false) × (option_map (λ (plan : SharePlan). plan.owner) (plan_of words) ≡ Some owner)

  by_plan : (P : UserName → Type 0) (owner : UserName) (found : Option SharePlan) → option_map (λ (plan : SharePlan). plan.owner) found ≡ Some owner → P owner → IfSome found (λ plan. P plan.owner)
  by_plan P owner None is h = tt
  by_plan P owner (Some plan) is h = subst P (sym (some_same plan.owner owner is)) h

  fits_both : (owner : UserName) → Fits owner → FitsNot words given → ⊥
  fits_both owner fits (inl none) = some_none owner (sym (sym (ap (option_map (λ (plan : SharePlan). plan.owner)) none) ∙ fits.2))
  fits_both owner fits (inr many) = many fits.0

  no_plan : (P : SharePlan → Type 0) → FitsNot words given → IfSome (plan_of words) (λ plan. length given ≡ 1 → P plan)
  no_plan P not = by (plan_of words) refl
    where
      by : (found : Option SharePlan) → plan_of words ≡ found → IfSome found (λ plan. length given ≡ 1 → P plan)
      by None is = tt
      by (Some plan) is = λ one. absurd (elim not [ inl none ↦ some_none plan (sym is ∙ none) | inr many ↦ many one ])

  -- what came of it, where the words fit
  abbrev pub Came : List D → Option Text → Option Text → ℕ → Type 0
  Came now held held_now status = IfSome (plan_of words) (λ plan. length given ≡ 1 → Shares disks report_limits plan.owner given now held held_now status)

  abbrev pub Completes : List D → ℕ → ℕ → ℕ → Type 0
  Completes now sink sink_now status = IfSome (plan_of words) (λ plan. length given ≡ 1 → IsComplete disks report_limits plan.owner given now sink sink_now status)

  pub fits_came : (owner : UserName) (now : List D) (held held_now : Option Text) (status : ℕ) → Fits owner → Shares disks report_limits owner given now held held_now status → Came now held held_now status
  fits_came owner now held held_now status fits shares = by_plan (λ o. length given ≡ 1 → Shares disks report_limits o given now held held_now status) owner (plan_of words) fits.2 (λ one. shares)

  pub fits_completes : (owner : UserName) (now : List D) (sink sink_now status : ℕ) → Fits owner → IsComplete disks report_limits owner given now sink sink_now status → Completes now sink sink_now status
  fits_completes owner now sink sink_now status fits complete = by_plan (λ o. length given ≡ 1 → IsComplete disks report_limits o given now sink sink_now status) owner (plan_of words) fits.2 (λ one. complete)

  pub fits_usage : (X : Type 0) (owner : UserName) → Fits owner → FitsNot words given → X
  fits_usage X owner fits not = absurd (fits_both owner fits not)

  pub not_came : (now : List D) (held held_now : Option Text) (status : ℕ) → FitsNot words given → Came now held held_now status
  not_came now held held_now status not = no_plan (λ plan. Shares disks report_limits plan.owner given now held held_now status) not

  pub not_completes : (now : List D) (sink sink_now status : ℕ) → FitsNot words given → Completes now sink sink_now status
  not_completes now sink sink_now status not = no_plan (λ plan. IsComplete disks report_limits plan.owner given now sink sink_now status) not

  pub want_came : (held : Option Text) → Came given held held 4
  want_came held = by (plan_of words)
    where
      by : (found : Option SharePlan) → IfSome found (λ plan. length given ≡ 1 → Shares disks report_limits plan.owner given given held held 4)
      by None = tt
      by (Some plan) = λ one. wanting disks report_limits plan.owner given held

  pub want_completes : (sink : ℕ) → Completes given sink sink 4
  want_completes sink = by (plan_of words)
    where
      by : (found : Option SharePlan) → IfSome found (λ plan. length given ≡ 1 → IsComplete disks report_limits plan.owner given given sink sink 4)
      by None = tt
      by (Some plan) = λ one reads stays disk_stays. four_complete 4 refl

module _ {D : Type 0} (disks : Ghosts D) (given : List D) where
  pub want_causes : (sink : ℕ) → HasCauses disks given given sink sink 4
  want_causes sink = record { write_fault = λ three. absurd (omega (arith, three)); disk_fault = λ six. absurd (omega (arith, six)); sink_counts = omega arith; disk_counts = omega arith }

  not_6 : (n : ℕ) → IsOneOf (3 ∷ 64 ∷ []) n → n ≡ 6 → ⊥
  not_6 n is six = grind (arith)

  -- the usage line, or a front of it
  pub usage_causes : (sink sink_now status : ℕ) → IsOneOf (3 ∷ 64 ∷ []) status → (status ≡ 3 → Rose sink sink_now) → sink ≤ sink_now → HasCauses disks given given sink sink_now status
  usage_causes sink sink_now status is cause later = record { write_fault = cause; disk_fault = λ six. absurd (not_6 status is six); sink_counts = later; disk_counts = omega arith }

pub want_code : (n : ℕ) → n ≡ 4 → IsOneOf (3 ∷ 4 ∷ 64 ∷ []) n
want_code n is = grind (arith)

pub usage_codes : (n : ℕ) → IsOneOf (3 ∷ 64 ∷ []) n → IsOneOf (0 ∷ 3 ∷ 4 ∷ 6 ∷ 8 ∷ 64 ∷ []) n
usage_codes n is = grind (arith)

pub usage_codes_with : (n : ℕ) → IsOneOf (3 ∷ 64 ∷ []) n → IsOneOf (3 ∷ 4 ∷ 64 ∷ []) n
usage_codes_with n is = grind (arith)

pub tree_codes : (n : ℕ) → IsOneOf (0 ∷ 3 ∷ 4 ∷ 6 ∷ 8 ∷ []) n → IsOneOf (0 ∷ 3 ∷ 4 ∷ 6 ∷ 8 ∷ 64 ∷ []) n
tree_codes n is = grind (arith)

pub tree_never : (X : Type 0) (n : ℕ) → IsOneOf (0 ∷ 3 ∷ 4 ∷ 6 ∷ 8 ∷ []) n → n ≡ 64 → X
tree_never X n is usage = absurd (no n is usage)
  where
    no : (n : ℕ) → IsOneOf (0 ∷ 3 ∷ 4 ∷ 6 ∷ 8 ∷ []) n → n ≡ 64 → ⊥
    no n is usage = grind (arith)

pub ruleset by_words = (fits_came, fits_completes, fits_usage, not_came, not_completes, want_came, want_completes, usage_causes, usage_codes, usage_codes_with, tree_codes, tree_never, want_causes)
