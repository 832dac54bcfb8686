-- What `upspin script` leaves behind, and answers. This project's own.
use Rattle.std.specs.Prelude.{◌≡◌, ◌+◌, ℕ, Bool, false, List, [], ◌∷◌, length, codes, Option, Some, IfSome}
use Rattle.std.specs.Str.{bytes_eq}
use Rattle.up_journal.specs.declared.limits.Limits.{Limits}
use Rattle.up_names.specs.Texts.{Text}
use Rattle.up_script_lines.specs.ScriptLines.{line_of}
use Rattle.up_script_lines.specs.declared.script_lines.ScriptLine.{ScriptLine}
use Rattle.up_script_lines.specs.declared.script_lines.ScriptLine.TheVariants as lines
use Rattle.up_sessions.specs.Handing.{AreFree, LeavesAll, all_disks}
use Rattle.up_sessions.specs.Worlds.{Around, Hosts, Parties, World}
use Rattle.up_text.specs.Lines.{script_lines}
use Rattle.up_script.specs.ScriptRuns.{Scripted}
use Rattle.up_script.specs.Standing.{at_first}

-- whether the words are those of `upspin script`: the word `script`, and that of a helper
abbrev pub is_script : List Text → Bool
is_script (command ∷ helper ∷ []) = bytes_eq command (codes "script")
is_script _ = false

-- these hosts, with what stands around them
abbrev pub among : {D P V C N : Type 0} → Hosts D → Around P V C N → World D P V C N
among state around = record { state = state; around = around }

-- how many disks a line takes: a `host` line one for each tree, one for the store and one for the keys, and any other line none
abbrev pub disks_for : Option ScriptLine → ℕ
disks_for (Some (lines.Host host)) = length host.owners + 2
disks_for other = 0

-- how many disks the first of these lines takes
abbrev pub disks_next : List Text → ℕ
disks_next [] = 0
disks_next (line ∷ more) = disks_for (line_of line)

-- Of the input, which is what the source had left where it tells that: its lines were run from the beginning, with hosts over these
-- disks. All disks are back in their places, and a crash now leaves of each log of each host that log, or it with its doubtful record.
-- Those that no host has are blank, but for those that a `host` line took at which the run ended: these have no record.
pub record Means {D P V C N : Type 0} (who : Parties D P V C N) (limits : Limits) (left old new : Option Text)
    (given back : List D) (before after : Around P V C N) (status : ℕ) : Type 0 where
  pub input : Text
  pub told : IfSome left (λ bytes. input ≡ bytes)
  pub state : Hosts D
  pub scripted : Scripted who limits old new (among (at_first given) before) (script_lines input) status (among state after)
  pub disks : back ≡ all_disks state
  pub safe : LeavesAll who.disks state
  pub rest : AreFree who.disks (disks_next scripted.left) state.free
