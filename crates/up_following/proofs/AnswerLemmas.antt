-- What is left behind once an input was read, or was not.
use Rattle.std.proofs.Common.{◌≡◌, ◌+◌, ◌++◌, ◌∷◌, [], inl, inr, ℕ, List, length, Option, Some, None, IfSome, Result, Ok, Err, refl, ap, subst, ◌∙◌, option_to_list, sum_by, arith}
use Rattle.std.proofs.lemmas.List.Sums.{sum_by-cons}
use Rattle.up_command.specs.Statuses.{IsOneOf}
use Rattle.up_disk.specs.Leaving.{LeavesNow}
use Rattle.up_disk.specs.declared.disk.Disk as disk
use Rattle.up_follow.specs.declared.feed.Feed as feed
use Rattle.up_journal.specs.Crashes.{IsOpened}
use Rattle.up_journal.specs.Logs.{RefusesLog, StandsForLog}
use Rattle.up_journal.specs.Opened.{IsRefusedFor}
use Rattle.up_journal.specs.declared.fault.OpenFault.{OpenFault}
use Rattle.up_journal.specs.declared.fault.OpenWhy.TheVariants as why
use Rattle.up_journal.specs.declared.limits.Limits.{Limits}
use Rattle.up_lists.specs.Counts.{HasCause, Rose}
use Rattle.up_names.specs.Texts.{Text, UserName}
use Rattle.up_reports.proofs.TellLemmas.{refused_six}
use Rattle.up_reports.specs.Telling.{AnswersOne, refused_by}
use Rattle.up_text.specs.Lines.{script_lines}
use Rattle.up_tree.specs.States.{Opens, State, disk_after, fixed_of, records_in}
use Rattle.up_following.specs.FollowAnswers.{FollowsInput, Means}
use Rattle.up_following.specs.FollowRuns.{Followed}
use Rattle.up_following.specs.FollowTurns.{world}

-- the one disk was taken, and none is left
one_taken : {D : Type 0} (given rest : List D) (found : Option D) (one : D) → given ≡ option_to_list found ++ rest → found ≡ Some one → length given ≡ 1 → (given ≡ one ∷ []) × (rest ≡ [])
one_taken given rest None one taken is single = absurd (let e : None ≡ Some one = is in cc)
one_taken given [] (Some found) one taken is single = let same : found ≡ one = cc in (taken ∙ ap (λ d. d ∷ []) same, refl)
one_taken given (other ∷ rest) (Some found) one taken is single = absurd (omega (arith, single, ap length taken))

sum_one : {D : Type 0} (f : D → ℕ) (one : D) (all : List D) → all ≡ one ∷ [] → sum_by f all ≡ f one
sum_one f one all is = omega (arith, ap (sum_by f) is, sum_by-cons f one [])

module _ {D F : Type 0} (disks : disk.Ghosts D) (feeds : feed.Ghosts F) (limits : Limits) (owner : UserName) (input : Text) (old new : Option Text) (given back : List D) (before after : F) (status : ℕ) where
  fixed_safe : (opened last : State D) (now : D) → fixed_of last ≡ fixed_of opened → opened.owner ≡ owner → opened.limits ≡ limits → now ≡ last.disk
      → LeavesNow disks now (StandsForLog (records_in last.owner last.limits.largest) last.log last.further) → LeavesNow disks last.disk (StandsForLog (records_in owner limits.largest) last.log last.further)
  fixed_safe opened last now fixed owned limited same safe =
      let by : last.owner ≡ owner = ap (λ f. f.0) fixed ∙ owned in
      let within : last.limits ≡ limits = ap (λ f. f.1) fixed ∙ limited in
      subst (λ (d : D). LeavesNow disks d (StandsForLog (records_in owner limits.largest) last.log last.further)) same
      (subst (λ (o : UserName). LeavesNow disks now (StandsForLog (records_in o limits.largest) last.log last.further)) by
      (subst (λ (m : Limits). LeavesNow disks now (StandsForLog (records_in last.owner m.largest) last.log last.further)) within safe))

  -- the lines were done
  pub runs_lines : (one now : D) (rest : List D) (found : Option D) (opened last : State D) (result : Result (State D) (OpenFault D)) → given ≡ option_to_list found ++ rest → found ≡ Some one → length given ≡ 1
      → result ≡ Ok opened → Opens disks owner limits one opened → HasCause (disks.faults one) (disks.faults (disk_after result)) (IsRefusedFor result why.Fault)
      → IsOneOf (0 ∷ 1 ∷ 3 ∷ 4 ∷ []) status → Followed disks feeds old new (world opened before) (script_lines input) status (world last after) → back ≡ rest ++ now ∷ [] → now ≡ last.disk
      → LeavesNow disks now (StandsForLog (records_in last.owner last.limits.largest) last.log last.further) → FollowsInput disks feeds limits owner input old new given back before after status
  runs_lines one now rest found opened last result taken is single was opens counts code followed put same safe =
      let had = one_taken given rest found one taken is single in
      inl (record {
        disk = one;
        opened = opened;
        last = last;
        given_is = had.0;
        opens = opens;
        counts = subst (λ (r : Result (State D) (OpenFault D)). HasCause (disks.faults one) (disks.faults (disk_after r)) (IsRefusedFor r why.Fault)) was counts;
        code = code;
        followed = followed;
        back_is = put ∙ ap (λ (l : List D). l ++ now ∷ []) had.1 ∙ ap (λ d. d ∷ []) same;
        safe = fixed_safe opened last now followed.stays.grows.stays opens.owner_is opens.opens.limits_are same safe;
      })

  -- the disk was refused
  pub refuses_disk : (one : D) (rest : List D) (found : Option D) (fault : OpenFault D) (result : Result (State D) (OpenFault D)) → given ≡ option_to_list found ++ rest → found ≡ Some one → length given ≡ 1
      → result ≡ Err fault → RefusesLog disks (records_in owner) limits one fault → IsOpened disks limits.largest one (disk_after result) (IsRefusedFor result why.Fault)
      → HasCause (disks.faults one) (disks.faults (disk_after result)) (IsRefusedFor result why.Fault) → AnswersOne old new (refused_by 0 fault.why) status → back ≡ rest ++ fault.disk ∷ [] → after ≡ before
      → FollowsInput disks feeds limits owner input old new given back before after status
  refuses_disk one rest found fault result taken is single was refuses opened counts answers put stays =
      let had = one_taken given rest found one taken is single in
      inr (record {
        disk = one;
        fault = fault;
        given_is = had.0;
        refuses = refuses;
        opened = subst (λ (r : Result (State D) (OpenFault D)). IsOpened disks limits.largest one (disk_after r) (IsRefusedFor r why.Fault)) was opened;
        counts = subst (λ (r : Result (State D) (OpenFault D)). HasCause (disks.faults one) (disks.faults (disk_after r)) (IsRefusedFor r why.Fault)) was counts;
        answers = answers;
        back_is = put ∙ ap (λ (l : List D). l ++ fault.disk ∷ []) had.1;
        feed_is = stays;
      })

  -- 6 is that of a disk that failed at opening
  pub input_six : FollowsInput disks feeds limits owner input old new given back before after status → status ≡ 6 → Rose (sum_by disks.faults given) (sum_by disks.faults back)
  input_six (inl runs) six below = absurd (not_six status runs.code six)
    where
      not_six : (n : ℕ) → IsOneOf (0 ∷ 1 ∷ 3 ∷ 4 ∷ []) n → n ≡ 6 → ⊥
      not_six n is six = grind (arith)
  input_six (inr refused) six below =
      let reason = refused_six old new (record { which = 0; why = refused.fault.why }) status refused.answers six in
      let was = sum_one disks.faults refused.disk given refused.given_is in
      let now = sum_one disks.faults refused.fault.disk back refused.back_is in
      let rose = refused.counts.rose reason (omega (arith, was, below)) in
      omega (arith, was, now, rose)

  pub input_back : FollowsInput disks feeds limits owner input old new given back before after status → length back ≡ 1
  input_back (inl runs) = ap length runs.back_is
  input_back (inr refused) = ap length refused.back_is

pub run_codes : (n : ℕ) → IsOneOf (0 ∷ 1 ∷ 3 ∷ 4 ∷ []) n → IsOneOf (0 ∷ 1 ∷ 3 ∷ 4 ∷ 6 ∷ 8 ∷ []) n
run_codes n is = grind (arith)

pub refusal_codes : (n : ℕ) → IsOneOf (3 ∷ 4 ∷ 6 ∷ 8 ∷ []) n → IsOneOf (0 ∷ 1 ∷ 3 ∷ 4 ∷ 6 ∷ 8 ∷ []) n
refusal_codes n is = grind (arith)

-- ---- where the input came from

-- what was run is what the source told
told_by : (kept read : Text) (left : Option Text) → kept ≡ read → IfSome left (λ bytes. read ≡ bytes) → IfSome left (λ bytes. kept ≡ bytes)
told_by kept read None same told = tt
told_by kept read (Some bytes) same told = same ∙ told

module _ {D F : Type 0} (disks : disk.Ghosts D) (feeds : feed.Ghosts F) (limits : Limits) (owner : UserName) (left old new : Option Text) (given back : List D) (before after : F) (status : ℕ) where
  pub means_read : (kept read : Text) → kept ≡ read → IfSome left (λ bytes. read ≡ bytes) → FollowsInput disks feeds limits owner kept old new given back before after status
      → Means disks feeds limits owner left old new given back before after status
  means_read kept read same told follows = inl (record { input = kept; told = told_by kept read left same told; follows = follows })

-- of the statuses with which an input is not read, that which a run may end with as well is want of memory
pub unread_is_4 : (status : ℕ) → IsOneOf (2 ∷ 4 ∷ 7 ∷ []) status → IsOneOf (0 ∷ 1 ∷ 3 ∷ 4 ∷ 6 ∷ 8 ∷ []) status → status ≡ 4
unread_is_4 status unread run = grind (arith)

module _ {D F : Type 0} (disks : disk.Ghosts D) (feeds : feed.Ghosts F) (limits : Limits) (owner : UserName) (left held : Option Text) (given : List D) (before : F) (status : ℕ) where
  pub means_nothing : status ≡ 4 → Means disks feeds limits owner left held held given given before before status
  means_nothing is = inr (record { wanting = is; sink = refl; disks = refl; feed = refl })

-- there was no memory to read the words
pub four_or_usage : (n : ℕ) → n ≡ 4 → IsOneOf (3 ∷ 4 ∷ 64 ∷ []) n
four_or_usage n is = grind (arith)
