-- That a script is run whole where nothing is wrong with it and nothing fails. This project's own.
use Rattle.std.specs.Prelude.{◌≡◌, ◌⊎◌, ◌<◌, ◌≤◌, ◌+◌, ◌-◌, ◌^◌, ℕ, List, [], length, Option}
use Rattle.std.specs.Io.KnownBytes.{Appends}
use Rattle.up_command.specs.Statuses.{input_limit}
use Rattle.up_explain_script.specs.ScriptNumbers.{bad_in_script}
use Rattle.up_journal.specs.declared.limits.Limits.{Limits}
use Rattle.up_lists.specs.Runs.{Run}
use Rattle.up_names.specs.Texts.{Text}
use Rattle.up_sessions.specs.Handing.{all_disks}
use Rattle.up_sessions.specs.Worlds.{Around, Hosts, Parties, World, faults_of}
use Rattle.up_text.specs.Lines.{script_lines}
use Rattle.up_script.specs.ScriptAnswers.{among}
use Rattle.up_script.specs.ScriptRuns.{LineDoes, io_lines, printed}
use Rattle.up_script.specs.Scripts.{LineDid}
use Rattle.up_script.specs.Standing.{at_first}

-- A count of faults that does not stand at its end did not rise: nothing failed.
pub record NoFault (old new : ℕ) : Type 0 where
  pub below : old < 2 ^ 64 - 1
  pub same : new ≡ old

-- an input that is not too long, and of which no line is malformed
pub record IsGoodScript (input : Text) : Type 0 where
  pub within : length input ≤ input_limit
  pub well_formed : bad_in_script input ≡ []

-- The input was run whole, with hosts over these disks: each of its lines was done, all that they print was written, and all disks are back
-- in their places. Lines `io` are at most as many as disks and peers failed together, unless their counts stand at their end.
pub record RunsWhole {D P V C N : Type 0} (who : Parties D P V C N) (limits : Limits) (input : Text) (old new : Option Text)
    (given back : List D) (before after : Around P V C N) : Type 0 where
  pub dids : List LineDid
  pub state : Hosts D
  pub run : Run (LineDoes who limits) (among (at_first given) before) (script_lines input) dids (among state after)
  pub written : Appends old new (printed dids)
  pub disks : back ≡ all_disks state
  pub few : faults_of who (among state after) < 2 ^ 64 - 1
      → faults_of who (among (at_first given) before) + io_lines dids ≤ faults_of who (among state after)

-- the status is 0, and the input was run whole; or it is 4, for want of memory
abbrev pub EndsWhole : {D P V C N : Type 0} → Parties D P V C N → Limits → Text → Option Text → Option Text
    → List D → List D → Around P V C N → Around P V C N → ℕ → Type 0
EndsWhole who limits input old new given back before after status =
    ((status ≡ 0) × RunsWhole who limits input old new given back before after) ⊎ (status ≡ 4)
