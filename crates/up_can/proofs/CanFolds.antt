-- How the loop over the lines of a script keeps its meaning.
use Rattle.std.proofs.Common.{◌≡◌, ℕ, ◌+◌, List, [], ◌∷◌, ◌++◌, refl, sym, ap, subst, ◌∙◌, append_assoc, append-nil, Option, Some, None}
use Rattle.std.specs.Io.KnownBytes.{Appends}
use Rattle.up_ends.specs.Writing.{Going, WritesPart}
use Rattle.up_ends.proofs.Going.{Going-more, Going-all, WritesPart-step}
use Rattle.up_text.specs.Lines.{script_lines}
use Rattle.up_can.specs.declared.can_files.CanFiles.{CanFiles}
use Rattle.up_can.specs.CanLines.{Tree, Effect, effect_of, reply_of, tree_after, asked}
use Rattle.up_can.specs.CanRuns.{Run, run_from, ends_badly, says}

-- a line that asks prints its reply
pub asked_says : (files : CanFiles) (reply : Option (List ℕ)) → reply_of (asked files reply) ≡ reply
asked_says files None = refl
asked_says files (Some text) = refl

-- and leaves the files as they are
pub asked_keeps : (files : CanFiles) (reply : Option (List ℕ)) → tree_after (Some files) (asked files reply) ≡ Some files
asked_keeps files None = refl
asked_keeps files (Some text) = refl

-- what the sink was given so far, what is gathered, and what the lines that are left say, are what all lines say
pub record Runs (old now : Option (List ℕ)) (gathered : List ℕ) (more all : Run) : Type 0 where
  pub text : Going old now (gathered ++ more.text) all.text
  pub status : more.status ≡ all.status

-- the empty text has no lines
pub script_lines-nil : script_lines [] ≡ []
unfolding script_lines
script_lines-nil = refl

-- the run of a first line and those behind it, by what the first line does
abbrev on_effect : ℕ → Tree → List (List ℕ) → Option Effect → Run
on_effect number tree lines turn = elim turn [
  | None ↦ ends_badly number tree
  | Some t ↦ says t.reply (run_from (number + 1) t.tree lines)
]

on_reply : (number : ℕ) (tree after : Tree) (lines : List (List ℕ)) (turn : Option Effect) (reply : List ℕ) → Some reply ≡ reply_of turn → after ≡ tree_after tree turn → on_effect number tree lines turn ≡ says reply (run_from (number + 1) after lines)
on_reply number tree after lines None reply said same = absurd (cc)
on_reply number tree after lines (Some turn) reply said same =
    let e : reply ≡ turn.reply = cc in
    ap (λ r. says r (run_from (number + 1) turn.tree lines)) (sym e) ∙ ap (λ t. says reply (run_from (number + 1) t lines)) (sym same)

on_none : (number : ℕ) (tree : Tree) (lines : List (List ℕ)) (turn : Option Effect) → None ≡ reply_of turn → on_effect number tree lines turn ≡ ends_badly number tree
on_none number tree lines None said = refl
on_none number tree lines (Some turn) said = absurd (cc)

-- a line that says something
pub run_from-says : (number : ℕ) (tree after : Tree) (line : List ℕ) (lines : List (List ℕ)) (reply : List ℕ) → Some reply ≡ reply_of (effect_of tree line) → after ≡ tree_after tree (effect_of tree line) → run_from number tree (line ∷ lines) ≡ says reply (run_from (number + 1) after lines)
run_from-says number tree after line lines reply said same = on_reply number tree after lines (effect_of tree line) reply said same

-- a malformed line
pub run_from-bad : (number : ℕ) (tree : Tree) (line : List ℕ) (lines : List (List ℕ)) → None ≡ reply_of (effect_of tree line) → run_from number tree (line ∷ lines) ≡ ends_badly number tree
run_from-bad number tree line lines said = on_none number tree lines (effect_of tree line) said

-- a reply was gathered, and perhaps all that is gathered was written
pub Runs-more : (old mid now : Option (List ℕ)) (gathered kept reply : List ℕ) (more later all : Run) → Runs old mid gathered more all → more ≡ says reply later → Going mid now kept (gathered ++ reply) → Runs old now kept later all
Runs-more old mid now gathered kept reply more later all before same printed =
    let regroup : gathered ++ more.text ≡ printed.front ++ (kept ++ later.text) =
    ap (λ run. gathered ++ run.text) same ∙ (sym (append_assoc gathered reply later.text) ∙ (ap (λ xs. xs ++ later.text) (sym printed.whole) ∙ append_assoc printed.front kept later.text)) in
    record {
      text = Going-more printed.front (kept ++ later.text) (subst (λ xs. Going old mid xs all.text) regroup before.text) printed.written;
      status = sym (ap (λ run. run.status) same) ∙ before.status;
    }

-- a front of what is gathered and of a reply was written, as after a fault
pub Runs-part : (old mid now : Option (List ℕ)) (gathered reply : List ℕ) (more later all : Run) → Runs old mid gathered more all → more ≡ says reply later → WritesPart mid now (gathered ++ reply) → WritesPart old now all.text
Runs-part old mid now gathered reply more later all before same part =
    let regroup : gathered ++ more.text ≡ (gathered ++ reply) ++ later.text =
    ap (λ run. gathered ++ run.text) same ∙ sym (append_assoc gathered reply later.text) in
    WritesPart-step (gathered ++ reply) later.text (subst (λ xs. Going old mid xs all.text) regroup before.text) part

-- the last text was written behind what is gathered
pub Runs-all : (old mid now : Option (List ℕ)) (gathered last : List ℕ) (more all : Run) → Runs old mid gathered more all → more.text ≡ last → Appends mid now (gathered ++ last) → Appends old now all.text
Runs-all old mid now gathered last more all before same written =
    let regroup : gathered ++ more.text ≡ (gathered ++ last) ++ [] =
    ap (λ xs. gathered ++ xs) same ∙ sym (append-nil (gathered ++ last)) in
    Going-all (Going-more (gathered ++ last) [] (subst (λ xs. Going old mid xs all.text) regroup before.text) written)

-- a front of it was written
pub Runs-last : (old mid now : Option (List ℕ)) (gathered last : List ℕ) (more all : Run) → Runs old mid gathered more all → more.text ≡ last → WritesPart mid now (gathered ++ last) → WritesPart old now all.text
Runs-last old mid now gathered last more all before same part =
    let regroup : gathered ++ more.text ≡ (gathered ++ last) ++ [] =
    ap (λ xs. gathered ++ xs) same ∙ sym (append-nil (gathered ++ last)) in
    WritesPart-step (gathered ++ last) [] (subst (λ xs. Going old mid xs all.text) regroup before.text) part
