-- Which lines of a script are malformed, by their numbers, and what is printed of them. This project's own.
use Rattle.std.specs.Prelude.{◌≡◌, ℕ, ◌+◌, nat_lt, Bool, true, false, List, [], ◌∷◌, ◌++◌, length, codes, decimal, Option, Some, None}
use Rattle.std.specs.List.{list_any}
use Rattle.up_command.specs.Printed.{ended}
use Rattle.up_command.specs.Statuses.{Answer, AnswersWith, input_limit}
use Rattle.up_names.specs.Texts.{Text}
use Rattle.up_text.specs.Lines.{is_line_end, script_lines}

-- ---- which lines

-- what stands behind a line; a malformed one counts for nothing
abbrev pub stands : {S : Type 0} → S → Option S → S
stands here None = here
stands here (Some next) = next

-- the number of a line where it is malformed
abbrev pub number_if : {S : Type 0} → ℕ → Option S → List ℕ
number_if number None = number ∷ []
number_if number (Some next) = []

-- The numbers of the malformed lines, the first line having this number. `step` has, by what stands there, what stands behind a line,
-- or none where the line is malformed.
unfoldable pub bad_from : {S : Type 0} → (S → Text → Option S) → ℕ → S → List Text → List ℕ
bad_from step number here [] = []
bad_from step number here (line ∷ lines) =
    number_if number (step here line) ++ bad_from step (number + 1) (stands here (step here line)) lines

-- ---- what is printed

-- a text is one line: no LF stands in it
abbrev pub IsOneLine : Text → Type 0
IsOneLine text = list_any is_line_end text ≡ false

-- `line N: WHY`
abbrev pub explained : ℕ → Text → Text
explained number why = codes "line " ++ decimal number ++ codes ": " ++ ended why

-- A text explains the lines with these numbers, in order, and no others: for each it has its number and one line of words, which are free.
pub data Explains : List ℕ → Text → Type 0 where
  nothing : Explains [] []
  further : {number : ℕ} {numbers : List ℕ} {later : Text} (why : Text) → IsOneLine why
      → Explains numbers later → Explains (number ∷ numbers) (explained number why ++ later)

-- the status where lines with these numbers are malformed
abbrev pub status_for : List ℕ → ℕ
status_for [] = 0
status_for (number ∷ more) = 1

-- What was written explains these lines and no others, and the status says whether there are any; a write fault or want of memory cuts
-- the text short, and a front of it is written.
pub record Explanation (numbers : List ℕ) (old new : Option Text) (status : ℕ) : Type 0 where
  pub text : Text
  pub explains : Explains numbers text
  pub answers : AnswersWith old new (record { text = text; status = status_for numbers }) status

-- what the explanation of an input means, by whether the input is too long, and then is not read
abbrev pub InputMeans : {S : Type 0} → Bool → (S → Text → Option S) → S → Text → Option Text → Option Text → ℕ → Type 0
InputMeans true step first input old new status = AnswersWith old new (record { text = []; status = 7 }) status
InputMeans false step first input old new status = Explanation (bad_from step 1 first (script_lines input)) old new status

-- what the explanation of an input means: it is too long above the limit of inputs
abbrev pub ExplainsInput : {S : Type 0} → (S → Text → Option S) → S → Text → Option Text → Option Text → ℕ → Type 0
ExplainsInput step first input old new status = InputMeans (nat_lt input_limit (length input)) step first input old new status

-- ---- a line of it

-- the status behind a line that is good or not
abbrev pub code_behind : ℕ → Bool → ℕ
code_behind code true = code
code_behind code false = 1

-- the line that tells why another is malformed, whose number this is, was added
pub record TellsWhy (number : ℕ) (old new : Text) : Type 0 where
  pub why : Text
  pub one_line : IsOneLine why
  pub added : new ≡ old ++ explained number why

-- One line was judged: it is good, and nothing is added; or it is malformed and counts for nothing, and that is told.
abbrev pub Told : {S : Type 0} → (S → Text → Option S) → ℕ → S → Text → S → Bool → Text → Text → Type 0
Told step number here line next true old new = (step here line ≡ Some next) × (new ≡ old)
Told step number here line next false old new = (step here line ≡ None) × (next ≡ here) × TellsWhy number old new
