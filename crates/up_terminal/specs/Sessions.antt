-- What calls within a session leave behind. This project's own.
use Rattle.std.specs.Prelude.{◌≡◌, ◌<◌, ◌+◌, ◌⊎◌, ℕ, false, true, List, [], ◌∷◌, ◌++◌, length, codes, Option, None, Result, Ok, Err}
use Rattle.std.specs.Prelude.{MatchResult}
use Rattle.std.specs.Io.KnownBytes.{Appends}
use Rattle.std.specs.List.{AllByRecursion}
use Rattle.up_ends.specs.Writing.{WritesPart}
use Rattle.up_lists.specs.Runs.{Run}
use Rattle.up_names.specs.Texts.{Text, UserName}
use Rattle.up_wire.specs.declared.replies.Reply.{Reply}
use Rattle.up_wire.specs.declared.requests.Request.{Request}
use Rattle.up_command.specs.Printed.{bad_line}
use Rattle.up_command.specs.Statuses.{input_limit}
use Rattle.up_terminal.specs.Answers.{LineDid, LineCame, SaysCame, did_text}
use Rattle.up_terminal.specs.Lines.{IsLine, line_of, lines_text}
use Rattle.up_terminal.specs.Runs.{LineDoes, Ran, printed}
use Rattle.up_terminal.specs.declared.terminal_line.TerminalLine.{TerminalLine}
use Rattle.up_terminal.specs.declared.stop.LineStop.TheVariants as stops
use Rattle.up_terminal.specs.declared.stop.Stop.{Stop}
use Rattle.up_terminal.specs.declared.stop.Stop.TheVariants as stop

-- the line that is read, as far as it was, and its number
pub record Reading : Type 0 where
  pub line : Text
  pub number : ℕ

-- the number of the status with which a session ends
abbrev pub stopped_code : Stop → ℕ
stopped_code stop.BadLine = 1
stopped_code stop.ReadFault = 2
stopped_code stop.WriteFault = 3
stopped_code stop.OutOfMemory = 4
stopped_code stop.TooLong = 7
stopped_code stop.AskFault = 11

-- the status of a run that went to its end, or stopped for this reason
abbrev pub code_by : Result (Unit {0}) Stop → ℕ
code_by (Ok done) = 0
code_by (Err why) = stopped_code why

-- a malformed line with this number was named; or not, and this is why
abbrev pub Named : ℕ → Option Text → Option Text → Result (Unit {0}) Stop → Type 0
Named number old new (Err stop.BadLine) = Appends old new (bad_line number)
Named number old new (Err stop.WriteFault) = WritesPart old new (bad_line number)
Named number old new (Err stop.OutOfMemory) = new ≡ old
Named number old new result = ⊥

-- the LF that a last line lacks, if it lacks one
abbrev pub behind : Text → Text
behind [] = []
behind (b ∷ line) = codes "\n"

module _ {S : Type 0} (answers : S → Request → Option Reply → S → Type 0) (user : UserName) where
  -- What a line says was done, and what it prints was written; or not, and this is why.
  abbrev pub DoneAndPrinted : Option Text → Option Text → S → TerminalLine → Result (Unit {0}) Stop → S → Type 0
  DoneAndPrinted old new a says (Ok done) b = (did : LineDid) × (SaysCame answers user a says (Ok did) b × Appends old new (did_text did))
  DoneAndPrinted old new a says (Err stop.AskFault) b = SaysCame answers user a says (Err stops.AskFault) b × (new ≡ old)
  DoneAndPrinted old new a says (Err stop.WriteFault) b =
      (did : LineDid) × (SaysCame answers user a says (Ok did) b × WritesPart old new (did_text did))
  DoneAndPrinted old new a says (Err stop.OutOfMemory) b =
      (SaysCame answers user a says (Err stops.OutOfMemory) b ⊎ ((did : LineDid) × SaysCame answers user a says (Ok did) b)) × (new ≡ old)
  DoneAndPrinted old new a says result b = ⊥

  -- A line with a number was run: it was done, and what it prints was written; or it was not, and this is why.
  abbrev pub LineRan : ℕ → Option Text → Option Text → S → Text → Result (Unit {0}) Stop → S → Type 0
  LineRan number old new a line (Ok done) b = (did : LineDid) × (LineCame answers user a line (Ok did) b × Appends old new (did_text did))
  LineRan number old new a line (Err stop.BadLine) b = (line_of user line ≡ None) × ((b ≡ a) × Appends old new (bad_line number))
  LineRan number old new a line (Err stop.AskFault) b = LineCame answers user a line (Err stops.AskFault) b × (new ≡ old)
  LineRan number old new a line (Err stop.WriteFault) b =
      ((did : LineDid) × (LineCame answers user a line (Ok did) b × WritesPart old new (did_text did)))
      ⊎ ((line_of user line ≡ None) × ((b ≡ a) × WritesPart old new (bad_line number)))
  LineRan number old new a line (Err stop.OutOfMemory) b =
      (LineCame answers user a line (Err stops.OutOfMemory) b ⊎ ((did : LineDid) × LineCame answers user a line (Ok did) b)) × (new ≡ old)
  LineRan number old new a line (Err stop.ReadFault) b = ⊥
  LineRan number old new a line (Err stop.TooLong) b = (input_limit < length line) × ((b ≡ a) × (new ≡ old))

  -- Of a text some first lines were done, and what they print was written; this is left of it, and this is the number of its first line.
  pub record Running (old now : Option Text) (a b : S) (text rest : Text) (number : ℕ) : Type 0 where
    pub done : List Text
    pub cut : lines_text done ++ rest ≡ text
    pub each : AllByRecursion IsLine done
    pub dids : List LineDid
    pub run : Run (LineDoes answers user) a done dids b
    pub written : Appends old now (printed dids)
    pub count : number ≡ length done + 1

  -- Where the call begins while a session runs, whatever it did before, it runs on from there, or it ended.
  abbrev pub Goes : (held held_now : Option Text) (a : S) (rest : Text) (number : ℕ)
      (result : Result (Unit {0}) Stop) (b : S) (rest_now : Text) (number_now : ℕ) → Type 0
  Goes held held_now a rest number result b rest_now number_now =
      (start : Option Text) (first : S) (text : Text) (bytes : ℕ) → Running start held first a text rest number
      → MatchResult result (λ done. Running start held_now first b text rest_now number_now)
      (λ why. Ran answers user start held_now first text bytes false (stopped_code why) b)

  -- Where the call begins while a session runs and the input has ended, the session ends: an LF is put behind the bytes that are left.
  abbrev pub Closes : (held held_now : Option Text) (a : S) (rest : Text) (number : ℕ) (result : Result (Unit {0}) Stop) (b : S) → Type 0
  Closes held held_now a rest number result b =
      (start : Option Text) (first : S) (text : Text) (bytes : ℕ) → Running start held first a text rest number
      → Ran answers user start held_now first (text ++ behind rest) bytes true (code_by result) b
