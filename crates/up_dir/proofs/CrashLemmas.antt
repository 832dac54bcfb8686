-- What a crash leaves after a step.
use Rattle.std.proofs.Common.{◌≡◌, ℕ, List, [], ◌∷◌, ◌++◌, length, Result, Ok, Err, inl, inr, ⊎_elim, sym, ap, subst, ◌∙◌, arith}
use Rattle.std.proofs.lemmas.List.{length-append}
use Rattle.up_disk.proofs.Moments.{started, weaker}
use Rattle.up_disk.specs.declared.disk.Disk.{Ghosts}
use Rattle.up_entry.specs.declared.records.Rec.{Rec}
use Rattle.up_disk.specs.Leaving.{LeavesNow}
use Rattle.up_journal.specs.Logs.{MayHaveLog, StandsForLog}
use Rattle.up_journal.specs.declared.fault.AppendWhy.{AppendWhy}
use Rattle.up_tree.specs.States.{Applies, State, records_in}
use Rattle.up_wire.specs.declared.replies.Reply.{Reply}
use Rattle.up_commit.specs.Steps.{IsApplied, Steps}
use Rattle.up_dir.specs.Crashes.{MayHave, Survives, image_log}

-- no list is one longer than itself
one_more : {X : Type 0} (xs : List X) (x : X) → xs ≡ xs ++ x ∷ [] → ⊥
one_more xs x same = omega (arith, ap length same, length-append xs (x ∷ []))

module _ {D : Type 0} (disks : Ghosts D) where
  -- a crash now leaves the log, or the log with the doubtful record
  abbrev pub IsSafe : State D → Type 0
  IsSafe state = LeavesNow disks state.disk (StandsForLog (image_log state) state.log state.further)

  acknowledged : (rec : Rec) (old new : State D) (result : Result ℕ AppendWhy) → Applies disks rec old new result → (more : Rec) → new.log ≡ old.log ++ more ∷ []
      → LeavesNow disks new.disk (λ image. image_log new image ≡ Ok new.log)
  acknowledged rec old new (Ok position) applies more grew =
      subst (λ owner. LeavesNow disks new.disk (λ image. records_in owner new.limits.largest image ≡ Ok new.log)) (sym applies.owner) applies.added.acknowledged
  acknowledged rec old new (Err why) applies more grew = absurd (one_more old.log more (sym applies.added.log ∙ grew))

  module _ (only_now : (disk : D) (image : List ℕ) → disks.left_since disk (disks.moment disk) image → disks.may_leave disk image) where
    untouched : (added : List Rec) (state : State D) → IsSafe state → Survives disks added state state
    untouched added state safe = record {
      safe = safe;
      acknowledged = λ rec grew. absurd (one_more state.log rec grew);
      any_moment = started disks.moment disks.left_since state.disk (MayHave state added) (λ image left. inl (safe.each image (only_now state.disk image left)));
    }

    applied : (added : List Rec) (old new : State D) (answered : Reply) → IsApplied disks added old new answered → IsSafe new → Survives disks added old new
    applied added old new answered is safe = record {
      safe = safe;
      acknowledged = acknowledged is.rec old new is.result is.applies;
      any_moment = weaker disks.moment disks.left_since old.disk new.disk (MayHaveLog (image_log old) old.log old.further is.rec) (MayHave old added)
          is.applies.added.crash.any_moment
          (λ image may. ⊎_elim (λ stands. inl stands) (λ grew. inr (grew ∙ ap (λ (more : List Rec). Ok (old.log ++ more)) (sym is.one))) may);
    }

    pub survives : (answer : Reply) (added : List Rec) (old new : State D) (answered : Reply) → Steps disks answer added old new answered → IsSafe new → Survives disks added old new
    survives answer added old new answered steps safe = ⊎_elim
        (λ (same : new ≡ old). subst (λ (state : State D). Survives disks added old state) (sym same) (untouched added old (subst (λ (state : State D). IsSafe state) same safe)))
        (λ is. applied added old new answered is safe)
        steps.stands
