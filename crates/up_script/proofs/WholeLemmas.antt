-- A script is run whole where nothing is wrong with it and nothing fails.
use Rattle.std.proofs.Common.{◌≡◌, ◌⊎◌, ◌+◌, ℕ, zero, suc, false, List, [], ◌∷◌, ◌++◌, length, inl, inr, IfSome, Option, Some, None, refl, sym, ap, subst, ◌∙◌, append-nil, arith}
use Rattle.std.specs.List.{sum_by}
use Rattle.std.specs.Prelude.{◌<◌}
use Rattle.std.specs.Io.KnownBytes.{Appends}
use Rattle.up_command.specs.Statuses.{IsOneOf, input_limit, is_cut}
use Rattle.up_journal.specs.declared.limits.Limits.{Limits}
use Rattle.up_lists.specs.Counts.{Rose}
use Rattle.up_lists.specs.Runs.{Run}
use Rattle.up_names.specs.Texts.{Text}
use Rattle.up_sessions.specs.Worlds.{Around, Parties, World}
use Rattle.up_text.specs.Lines.{script_lines}
use Rattle.up_script.specs.ScriptAnswers.{Means, among}
use Rattle.up_script.specs.ScriptEnds.{EndsAtFirst}
use Rattle.up_script.specs.ScriptRuns.{Ends, LineDoes, printed}
use Rattle.up_script.specs.Standing.{at_first}
use Rattle.up_script.specs.WholeRuns.{EndsWhole, IsGoodScript, NoFault, RunsWhole}
use Rattle.up_script.specs.declared.stop.LineStop.TheVariants as stop
use Rattle.up_script.proofs.ScriptRunLemmas.{means_disk}
use Rattle.up_script.proofs.TieLemmas.{ends_at_first}

-- ---- statuses

not_risen : (old new : ℕ) → NoFault old new → Rose old new → ⊥
not_risen old new none rose =
    let more = rose none.below in
    let same = none.same in
    omega (arith, more, same)

-- of the statuses of a run, two are left
run_status : (status : ℕ) → IsOneOf (0 ∷ 1 ∷ 3 ∷ 4 ∷ 5 ∷ 6 ∷ []) status → (status ≡ 1 → ⊥) → (status ≡ 3 → ⊥) → (status ≡ 5 → ⊥) → (status ≡ 6 → ⊥) → (status ≡ 0) ⊎ (status ≡ 4)
run_status zero among one three five six = inl refl
run_status (suc n) among one three five six = inr (grind (arith))

-- of those of an input that was not read, one is left
unread_status : (status : ℕ) → IsOneOf (2 ∷ 4 ∷ 7 ∷ []) status → (status ≡ 2 → ⊥) → (status ≡ 7 → ⊥) → status ≡ 4
unread_status status among two seven = grind (arith)

module _ {D P V C N : Type 0} (who : Parties D P V C N) (limits : Limits) where
  -- where a run ends with 0, no line is left
  at_last : (last b : World D P V C N) (number : ℕ) (left : List Text) (tail : Text) (code : ℕ) → Ends who limits last number left tail code b → code ≡ 0 → (left ≡ []) × ((tail ≡ []) × (b ≡ last))
  at_last last b number left tail code Ends.at_end is = (refl, (refl, refl))
  at_last last b number left tail code (Ends.stopped stop.Malformed came) is = absurd (cc)
  at_last last b number left tail code (Ends.stopped stop.HelperFault came) is = absurd (cc)
  at_last last b number left tail code (Ends.stopped stop.DiskFault came) is = absurd (cc)
  at_last last b number left tail code (Ends.stopped stop.OutOfMemory came) is = absurd (cc)
  at_last last b number left tail code Ends.unwritten is = absurd (cc)

  runs_whole : (input : Text) (old new : Option Text) (given back : List D) (before after : Around P V C N) (status : ℕ)
      → Means who limits (Some input) old new given back before after status → status ≡ 0 → RunsWhole who limits input old new given back before after
  runs_whole input old new given back before after status means nothing =
      let s = means.scripted in
      let first = among (at_first given) before in
      let last = among means.state after in
      let uncut : is_cut status ≡ false = ap is_cut nothing in
      let end = at_last s.last last (length s.done + 1) s.left s.tail s.code s.ends (sym (s.status_is uncut) ∙ nothing) in
      let lines : s.done ≡ script_lines input = sym (append-nil s.done) ∙ (ap (λ xs. s.done ++ xs) (sym end.0) ∙ (s.cut ∙ ap script_lines means.told)) in
      record {
        dids = s.dids;
        state = means.state;
        run = subst (λ xs. Run (LineDoes who limits) first xs s.dids last) lines (subst (Run (LineDoes who limits) first s.done s.dids) (sym end.1.1) s.run);
        written = subst (Appends old new) (ap (λ xs. printed s.dids ++ xs) end.1.0 ∙ append-nil (printed s.dids)) (s.whole uncut);
        disks = means.disks;
        few = s.few;
      }

  -- of a script that was read
  pub read_whole : (left old new : Option Text) (given back : List D) (before after : Around P V C N) (status sink_old sink_new : ℕ)
      → Means who limits left old new given back before after status → IsOneOf (0 ∷ 1 ∷ 3 ∷ 4 ∷ 5 ∷ 6 ∷ []) status → (status ≡ 3 → Rose sink_old sink_new)
      → NoFault sink_old sink_new → NoFault (who.verifiers.faults before.verifier) (who.verifiers.faults after.verifier) → NoFault (sum_by who.disks.faults given) (sum_by who.disks.faults back)
      → IfSome left (λ input. IsGoodScript input → EndsWhole who limits input old new given back before after status)
  read_whole None old new given back before after status sink_old sink_new means run cause sink helper disk = tt
  read_whole (Some input) old new given back before after status sink_old sink_new means run cause sink helper disk = λ good.
      let first = ends_at_first who limits input old new given back before after status means in
      by (run_status status run (subst (λ numbers. EndsAtFirst numbers old new status) good.well_formed first) (λ three. not_risen sink_old sink_new sink (cause three))
      (λ five. not_risen (who.verifiers.faults before.verifier) (who.verifiers.faults after.verifier) helper (means.scripted.helper five))
      (λ six. not_risen (sum_by who.disks.faults given) (sum_by who.disks.faults back) disk (means_disk who limits (Some input) old new given back before after status (λ same. means) six)))
    where
      by : (status ≡ 0) ⊎ (status ≡ 4) → EndsWhole who limits input old new given back before after status
      by (inl nothing) = inl (nothing, runs_whole input old new given back before after status means nothing)
      by (inr wanting) = inr wanting

  -- of one that was not read
  pub unread_whole : (left old new : Option Text) (given back : List D) (before after : Around P V C N) (status source_old source_new : ℕ) → IsOneOf (2 ∷ 4 ∷ 7 ∷ []) status
      → (status ≡ 2 → Rose source_old source_new) → (status ≡ 7 → IfSome left (λ bytes. input_limit < length bytes)) → NoFault source_old source_new
      → IfSome left (λ input. IsGoodScript input → EndsWhole who limits input old new given back before after status)
  unread_whole None old new given back before after status source_old source_new unread cause long source = tt
  unread_whole (Some input) old new given back before after status source_old source_new unread cause long source = λ good.
      inr (unread_status status unread (λ two. not_risen source_old source_new source (cause two))
      (λ seven. let over = long seven in let within = good.within in omega (arith, over, within)))
