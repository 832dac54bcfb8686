-- What a session at the terminal means: what each line did, what is printed, and how it ends. This project's own.
use Rattle.std.specs.Prelude.{◌≡◌, ◌≤◌, ◌<◌, ◌+◌, ◌^◌, ℕ, Bool, true, false, List, [], ◌∷◌, ◌++◌, length, Option, None, Ok, Err}
use Rattle.std.specs.List.{AllByRecursion, before_first, flat_map}
use Rattle.std.specs.Io.KnownBytes.{Appends, Consumes, IsAtEnd}
use Rattle.up_ends.specs.Writing.{WritesPart}
use Rattle.up_lists.specs.Counts.{count_after}
use Rattle.up_lists.specs.Runs.{Run}
use Rattle.up_command.specs.Printed.{bad_line}
use Rattle.up_command.specs.Statuses.{input_limit, is_cut}
use Rattle.up_names.specs.Texts.{Text, UserName}
use Rattle.up_text.specs.Lines.{is_line_end}
use Rattle.up_wire.specs.declared.replies.Reply.{Reply}
use Rattle.up_wire.specs.declared.requests.Request.{Request}
use Rattle.up_terminal.specs.Answers.{LineDid, LineCame, did_text}
use Rattle.up_terminal.specs.Lines.{IsLine, cut_text, line_of, lines_text}
use Rattle.up_terminal.specs.declared.stop.LineStop.{LineStop}
use Rattle.up_terminal.specs.declared.stop.LineStop.TheVariants as stop

-- what is printed of all that lines did, in order
abbrev pub printed : List LineDid → Text
printed dids = flat_map did_text dids

-- the status of a run that ends at a line that was not done
abbrev pub stop_code : LineStop → ℕ
stop_code stop.AskFault = 11
stop_code stop.OutOfMemory = 4

-- how many bytes a run reads at the least that was read for as often as a run may
abbrev pub read_limit : ℕ
read_limit = 2 ^ 40

module _ {S : Type 0} (answers : S → Request → Option Reply → S → Type 0) (user : UserName) where
  -- a line did something, and did not end the run
  abbrev pub LineDoes : S → Text → LineDid → S → Type 0
  LineDoes a line did b = LineCame answers user a line (Ok did) b

  -- How a run ends behind the lines that it did, by the number of the next line, how many bytes were read, whether the input has ended
  -- and the bytes behind these lines, with the text that is written last, and the status.
  pub data Ends (last : S) (number bytes : ℕ) (over : Bool) (rest : Text) : Text → ℕ → S → Type 0 where
    at_end : over ≡ true → rest ≡ [] → Ends last number bytes over rest [] 0 last
    bad : (line more : Text) → rest ≡ line ++ 10 ∷ more → IsLine line
        → line_of user line ≡ None → Ends last number bytes over rest (bad_line number) 1 last
    stopped : (line more : Text) {b : S} (why : LineStop) → rest ≡ line ++ 10 ∷ more → IsLine line
        → LineCame answers user last line (Err why) b → Ends last number bytes over rest [] (stop_code why) b
    unread : over ≡ false → IsLine rest → Ends last number bytes over rest [] 2 last
    unwritten : Ends last number bytes over rest [] 3 last
    too_long : input_limit < length (before_first is_line_end rest) → Ends last number bytes over rest [] 7 last
    spent : read_limit ≤ bytes → Ends last number bytes over rest [] 7 last

  -- From one state of who is asked to another: of a text the lines that were done, each with what it did, how that ended, and what was
  -- written. What is printed is written whole, and the status is that of the end; but where a write fault or want of memory cut it
  -- short, a front of it is written.
  pub record Ran (old new : Option Text) (a : S) (text : Text) (bytes : ℕ) (over : Bool) (status : ℕ) (b : S) : Type 0 where
    pub done : List Text
    pub rest : Text
    pub cut : lines_text done ++ rest ≡ text
    pub each : AllByRecursion IsLine done
    pub dids : List LineDid
    pub last : S
    pub run : Run LineDoes a done dids last
    pub tail : Text
    pub code : ℕ
    pub ends : Ends last (length done + 1) bytes over rest tail code b
    pub status_is : is_cut status ≡ false → status ≡ code
    pub whole : is_cut status ≡ false → Appends old new (printed dids ++ tail)
    pub part : WritesPart old new (printed dids ++ tail)

  -- What a run did with what it read, which the source lost and counted: its lines were run; where the input has ended, no byte is left.
  pub record Means (left left_now : Option Text) (given given_now : ℕ) (old new : Option Text) (a : S) (status : ℕ) (b : S) : Type 0 where
    pub read : Text
    pub over : Bool
    pub consumed : Consumes left left_now read
    pub counted : given_now ≡ count_after given (length read)
    pub at_end : over ≡ true → IsAtEnd left_now
    pub ran : Ran old new a (cut_text over read) (length read) over status b
