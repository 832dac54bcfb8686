-- Which lines of a script of `upspin can` are malformed, and where its run ends. This project's own.
use Rattle.std.specs.Prelude.{◌≡◌, ℕ, List, [], ◌∷◌, ◌++◌, Option, Some, None, option_map}
use Rattle.up_can.specs.CanFiles.{bare_tree}
use Rattle.up_can.specs.CanLines.{Effect, Tree, effect_of}
use Rattle.up_can.specs.CanRuns.{Run, run_of}
use Rattle.up_command.specs.Printed.{bad_line}
use Rattle.up_names.specs.Texts.{Text, UserName}
use Rattle.up_text.specs.Lines.{script_lines}
use Rattle.up_explain_can.specs.Explaining.{bad_from}

-- what stands behind a line: the tree after it; none where the line is malformed
abbrev pub tree_behind : Tree → Text → Option Tree
tree_behind tree line = option_map (λ e. e.tree) (effect_of tree line)

-- the numbers of the malformed lines of a whole script
abbrev pub bad_in_can : Text → List ℕ
bad_in_can input = bad_from tree_behind 1 None (script_lines input)

-- a text ends with another
abbrev pub EndsWith : Text → Text → Type 0
EndsWith text tail = (front : Text) × (front ++ tail ≡ text)

-- a run ends with 1 at the first of the malformed lines, and with 0 where there is none
abbrev pub EndsAtFirst : List ℕ → Run → Type 0
EndsAtFirst [] run = run.status ≡ 0
EndsAtFirst (number ∷ more) run = (run.status ≡ 1) × EndsWith run.text (bad_line number)

-- the law of `upspin can`: each run ends with 1 at the first malformed line of its input, and with 0 where there is none
abbrev pub CanEndsAtTheFirst : Type 0
CanEndsAtTheFirst = (input : Text) → EndsAtFirst (bad_in_can input) (run_of input)

-- ---- by the tree's owner alone

-- whose tree is named
abbrev pub owner_in : Tree → Option UserName
owner_in tree = option_map (λ files. files.tree.owner) tree

-- a tree of this owner, if one is named, in which no file is
abbrev pub tree_of : Option UserName → Tree
tree_of owner = option_map bare_tree owner

-- whose tree is named behind a line; none where the line is malformed
abbrev pub owner_behind : Option UserName → Text → Option (Option UserName)
owner_behind owner line = option_map (λ e. owner_in e.tree) (effect_of (tree_of owner) line)

-- what a line does that names this owner's tree
abbrev pub names_tree : UserName → Effect
names_tree owner = record { tree = Some (bare_tree owner); reply = [] }
