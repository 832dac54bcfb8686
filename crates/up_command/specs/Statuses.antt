-- What a command leaves in its sink and answers. The statuses are this project's own.
use Rattle.std.specs.Prelude.{◌≡◌, ℕ, Bool, ◌==◌, ◌||◌, List, [], ◌∷◌, codes, Option, Result, Ok, Err, IsTrue, false}
use Rattle.std.specs.List.{list_any}
use Rattle.std.specs.Io.KnownBytes.{Appends}
use Rattle.up_names.specs.Texts.{Text}
use Rattle.up_ends.specs.Writing.{WritesPart}
use Rattle.up_command.specs.declared.output.Stop.{Stop}
use Rattle.up_command.specs.declared.output.Stop.TheVariants as output
use Rattle.up_command.specs.declared.status.Status.{Status}
use Rattle.up_command.specs.declared.status.Status.TheVariants.{Done, BadLine, ReadFault, WriteFault, OutOfMemory, HelperFault, DiskFault}
use Rattle.up_command.specs.declared.status.Status.TheVariants.{TooLong, Damaged, ListenFault, BadUser, AskFault, Full, Usage}

-- the number of a status
abbrev pub code_of : Status → ℕ
code_of Done = 0
code_of BadLine = 1
code_of ReadFault = 2
code_of WriteFault = 3
code_of OutOfMemory = 4
code_of HelperFault = 5
code_of DiskFault = 6
code_of TooLong = 7
code_of Damaged = 8
code_of ListenFault = 9
code_of BadUser = 10
code_of AskFault = 11
code_of Full = 12
code_of Usage = 64

-- the status of lines that were run to an end, or not
abbrev pub code_by : Result Status Stop → ℕ
code_by (Ok status) = code_of status
code_by (Err output.WriteFault) = 3
code_by (Err output.OutOfMemory) = 4

-- the most bytes that a script may have
abbrev pub input_limit : ℕ
input_limit = 67108864

-- the line that says how the program is called
abbrev pub usage_line : Text
usage_line = codes "usage: upspin can | script HELPER | storm SEED SESSIONS REQUESTS [--full] | serve OPTIONS\n"

-- a text to print, and the status that goes with it
pub record Answer : Type 0 where
  pub text : Text
  pub status : ℕ

-- the number is among these
abbrev pub IsOneOf : List ℕ → ℕ → Type 0
IsOneOf numbers n = IsTrue (list_any (λ s. s == n) numbers)

-- a read fault, a write fault or want of memory cut the answer short
abbrev pub is_cut_short : ℕ → Bool
is_cut_short status = list_any (λ s. s == status) (2 ∷ 3 ∷ 4 ∷ [])

-- a write fault or want of memory cut the text short
abbrev pub is_cut : ℕ → Bool
is_cut status = (status == 3) || (status == 4)

-- what a call answered and wrote, for what it should: all of it, and after a fault or want of memory a front of it
pub record AnswersWith (old new : Option Text) (answer : Answer) (status : ℕ) : Type 0 where
  pub whole : is_cut_short status ≡ false → Appends old new answer.text × (status ≡ answer.status)
  pub part : WritesPart old new answer.text
