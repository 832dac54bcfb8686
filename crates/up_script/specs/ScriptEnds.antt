-- Where a run of `upspin script` ends whose lines are explained. This project's own.
use Rattle.std.specs.Prelude.{◌≡◌, ◌≢◌, ℕ, List, [], ◌∷◌, ◌++◌, Option, Some}
use Rattle.std.specs.Io.KnownBytes.{Appends}
use Rattle.up_command.specs.Printed.{bad_line}
use Rattle.up_journal.specs.declared.limits.Limits.{Limits}
use Rattle.up_names.specs.Texts.{Text}
use Rattle.up_script.specs.ScriptAnswers.{Means}
use Rattle.up_sessions.specs.Worlds.{Around, Parties}
use Rattle.up_explain_script.specs.ScriptNumbers.{bad_in_script}

-- What a run answered and wrote, where lines with these numbers are malformed: where it ends with 1, `bad line N` is the last that it
-- wrote, N being the first number; and where there is none it does not end with 1. It may end otherwise before it comes to that line.
abbrev pub EndsAtFirst : List ℕ → Option Text → Option Text → ℕ → Type 0
EndsAtFirst [] old new status = status ≢ 1
EndsAtFirst (number ∷ more) old new status = status ≡ 1 → (printed : Text) × Appends old new (printed ++ bad_line number)

-- The law of `upspin script`: a run that ends with 1 names the first malformed line of its input last, and no run ends with 1 where no line
-- is malformed.
abbrev pub ScriptEndsAtTheFirst : {D P V C N : Type 0} → Parties D P V C N → Type 0
ScriptEndsAtTheFirst {D} {P} {V} {C} {N} who =
    (limits : Limits) (input : Text) (old new : Option Text) (given back : List D) (before after : Around P V C N) (status : ℕ)
    → Means who limits (Some input) old new given back before after status → EndsAtFirst (bad_in_script input) old new status
