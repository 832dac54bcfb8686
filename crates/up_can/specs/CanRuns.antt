-- What a whole `can` script means: the text that it prints, its status, and the tree at its end. This project's own.
use Rattle.std.specs.Prelude.{ℕ, ◌+◌, List, [], ◌∷◌, ◌++◌, Some, None}
use Rattle.up_names.specs.Texts.{Text}
use Rattle.up_text.specs.Lines.{script_lines}
use Rattle.up_command.specs.Printed.{bad_line}
use Rattle.up_can.specs.CanLines.{Tree, effect_of}

-- what a run prints, its status, and the tree that it leaves
pub record Run : Type 0 where
  pub text : Text
  pub status : ℕ
  pub tree : Tree

-- a run ends at a malformed line
abbrev pub ends_badly : ℕ → Tree → Run
ends_badly number tree = record { text = bad_line number; status = 1; tree = tree }

-- a reply, and then what the later lines print
abbrev pub says : Text → Run → Run
says reply later = record { text = reply ++ later.text; status = later.status; tree = later.tree }

-- the run of lines, the first of which has this number
abbrev pub run_from : ℕ → Tree → List Text → Run
run_from number tree [] = record { text = []; status = 0; tree = tree }
run_from number tree (line ∷ lines) = elim (effect_of tree line) [
  | None ↦ ends_badly number tree
  | Some effect ↦ says effect.reply (run_from (number + 1) effect.tree lines)
]

-- the run of a whole input, whose lines are numbered from 1
unfoldable pub run_of : Text → Run
run_of input = run_from 1 None (script_lines input)
