-- What comes of a line at the terminal, over whoever is asked, and what it prints. This project's own.
use Rattle.std.specs.Prelude.{◌≡◌, ◌⊎◌, ℕ, ℤ, List, [], ◌++◌, codes, Option, Some, None, Result, Ok, Err}
use Rattle.up_client.specs.Getting.{get_talk}
use Rattle.up_client.specs.Putting.{put_talk}
use Rattle.up_client.specs.Talks.{Held}
use Rattle.up_client.specs.declared.fault.ClientFault.{ClientFault}
use Rattle.up_client.specs.declared.fault.ClientFault.TheVariants as client
use Rattle.up_command.specs.Printed.{ended, got_lines, put_lines}
use Rattle.up_command.specs.Words.{call_path}
use Rattle.up_names.specs.PathNames.{PathName}
use Rattle.up_names.specs.Texts.{Text, UserName}
use Rattle.up_text.specs.Replies.{reply_lines}
use Rattle.up_text.specs.declared.requests.ClientLine.{ClientLine}
use Rattle.up_text.specs.declared.requests.ClientLine.TheVariants as calls
use Rattle.up_wire.specs.declared.replies.Reply.{Reply}
use Rattle.up_wire.specs.declared.replies.Reply.TheVariants as reply
use Rattle.up_wire.specs.declared.requests.Request.{Request}
use Rattle.up_terminal.specs.Lines.{line_of, lines_text}
use Rattle.up_terminal.specs.declared.terminal_line.TerminalLine.{TerminalLine}
use Rattle.up_terminal.specs.declared.terminal_line.TerminalLine.TheVariants as lines
use Rattle.up_terminal.specs.declared.stop.LineStop.{LineStop}
use Rattle.up_terminal.specs.declared.stop.LineStop.TheVariants as stop

-- what a line did: nothing; it named no path; a request got this reply; this came of a put or get
pub data LineDid : Type 0 where
  Nothing : LineDid
  BadPath : LineDid
  Replied : Reply → LineDid
  Put : Result ℕ ClientFault → LineDid
  Got : Result (List ℕ) ClientFault → LineDid

-- the text that is printed of what a line did
abbrev pub did_text : LineDid → Text
did_text LineDid.Nothing = []
did_text LineDid.BadPath = ended (codes "invalid name")
did_text (LineDid.Replied given) = lines_text (reply_lines given)
did_text (LineDid.Put result) = lines_text (put_lines result)
did_text (LineDid.Got result) = lines_text (got_lines result)

-- what came of a line: what it did, or why it was not done
abbrev pub LineResult : Type 0
LineResult = Result LineDid LineStop

-- the result of a line that asks; where no answer came, and for want of memory, the run ends
abbrev pub result_of_answer : Option Reply → LineResult
result_of_answer None = Err stop.AskFault
result_of_answer (Some reply.OutOfMemory) = Err stop.OutOfMemory
result_of_answer (Some given) = Ok (LineDid.Replied given)

-- the result of a line that puts a file; where no answer came, and for want of memory, the run ends
abbrev pub result_of_put : Result ℕ ClientFault → LineResult
result_of_put (Err client.Failed) = Err stop.AskFault
result_of_put (Err client.OutOfMemory) = Err stop.OutOfMemory
result_of_put result = Ok (LineDid.Put result)

-- the result of a line that gets a file; where no answer came, and for want of memory, the run ends
abbrev pub result_of_get : Result (List ℕ) ClientFault → LineResult
result_of_get (Err client.Failed) = Err stop.AskFault
result_of_get (Err client.OutOfMemory) = Err stop.OutOfMemory
result_of_get result = Ok (LineDid.Got result)

-- who is asked answers by a relation: a request with its reply, or with none, leads from one state to another
module _ {S : Type 0} (answers : S → Request → Option Reply → S → Type 0) where
  -- a request is asked
  pub record AskCame (request : Request) (a : S) (came : LineResult) (b : S) : Type 0 where
    pub given : Option Reply
    pub answered : answers a request given b
    pub came_is : came ≡ result_of_answer given

module _ {S : Type 0} (answers : S → Request → Option Reply → S → Type 0) (user : UserName) where
  -- what the client does: nothing where the path does not parse; else it holds its conversation
  pub data CallCame (a : S) : ClientLine → LineResult → S → Type 0 where
    bad_path : {call : ClientLine} → call_path call ≡ None → CallCame a call (Ok LineDid.BadPath) a
    put : {name bytes : Text} {time sequence : ℤ} {path : PathName} {result : Result ℕ ClientFault} {b : S}
        → call_path (calls.Put name time sequence bytes) ≡ Some path → Held answers (put_talk user path time sequence bytes) a result b
        → CallCame a (calls.Put name time sequence bytes) (result_of_put result) b
    got : {name : Text} {path : PathName} {result : Result (List ℕ) ClientFault} {b : S}
        → call_path (calls.Get name) ≡ Some path → Held answers (get_talk path) a result b
        → CallCame a (calls.Get name) (result_of_get result) b
    wanting : {call : ClientLine} → CallCame a call (Err stop.OutOfMemory) a

  -- what came of what a line says
  abbrev pub SaysCame : S → TerminalLine → LineResult → S → Type 0
  SaysCame a lines.Silent came b = (came ≡ Ok LineDid.Nothing) × (b ≡ a)
  SaysCame a (lines.Request request) came b = AskCame answers request a came b
  SaysCame a (lines.Client call) came b = CallCame a call came b

  -- What came of a line that is not malformed: it says something, of which this came; or there was no memory to read it.
  pub data LineCame (a : S) (line : Text) : LineResult → S → Type 0 where
    says : {what : TerminalLine} {came : LineResult} {b : S}
        → line_of user line ≡ Some what → SaysCame a what came b → LineCame a line came b
    unread : LineCame a line (Err stop.OutOfMemory) a

-- A call did something, and its text stands behind what was gathered; or it stopped, and gathered nothing; or there was no memory, also
-- for the text of what it did.
abbrev pub LineGathered : (LineResult → Type 0) → Text → Result (Unit {0}) LineStop → Text → Type 0
LineGathered came old (Ok done) new = (did : LineDid) × (came (Ok did) × (new ≡ old ++ did_text did))
LineGathered came old (Err stop.OutOfMemory) new = came (Err stop.OutOfMemory) ⊎ ((did : LineDid) × came (Ok did))
LineGathered came old (Err stop.AskFault) new = came (Err stop.AskFault) × (new ≡ old)
