-- What a verifier is asked, and how the one in memory is seen. This project's own.
use Rattle.std.specs.Prelude.{◌≡◌, ℕ, List, [], ◌∷◌, ◌++◌, Option, is_some, Result, Ok, Err, if◌then◌else◌}
use Rattle.up_lists.specs.Counts.{count_after}
use Rattle.up_ends.specs.Telling.{Coming, Grew, after_next, next_of}
use Rattle.up_ends.specs.declared.verifier.Judged.{Judged}
use Rattle.up_ends.specs.declared.verifier.Verdict.{Verdict}

-- what was judged grew by exactly this one, or stayed where the call failed
abbrev pub Judges : {E : Type 0} → Option (List Judged) → Option (List Judged) → (Verdict → Judged) → Result Verdict E → Type 0
Judges old new judged (Ok verdict) = Grew old new (judged verdict ∷ [])
Judges old new judged (Err e) = new ≡ old

-- a verifier in memory: its answers, None being a failure, what it has judged, and how often it has failed
pub record FixedVerdicts : Type 0 where
  pub coming : Coming (Option Verdict)
  pub judged : List Judged
  pub faults : ℕ

-- after an answer
abbrev pub after_verdict : FixedVerdicts → Judged → FixedVerdicts
after_verdict old judged = record old { coming = after_next old.coming; judged = old.judged ++ judged ∷ [] }

-- after a failure: one that was listed has used up its place, want of memory has not
abbrev pub after_failure : FixedVerdicts → FixedVerdicts
after_failure old = record old {
  coming = if is_some (next_of old.coming) then old.coming else after_next old.coming;
  faults = count_after old.faults 1;
}
