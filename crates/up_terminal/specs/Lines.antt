-- What a line at the terminal says: what a line of a script does, without the number of a session. This project's own.
use Rattle.std.specs.Prelude.{◌≡◌, ◌≤◌, Bool, true, false, List, [], ◌∷◌, length, codes, bytes_eq, Option, Some, None, option_map, is_some}
use Rattle.std.specs.Prelude.{if◌then◌else◌}
use Rattle.std.specs.List.{flat_map, list_any}
use Rattle.std.specs.Result.{result_ok}
use Rattle.up_names.specs.Texts.{Text, UserName}
use Rattle.up_names.specs.UserNames.{user_of}
use Rattle.up_text.specs.Lines.{is_line_end, is_silent, line_words, script_lines}
use Rattle.up_text.specs.Requests.{client_line_of, request_of}
use Rattle.up_text.specs.declared.requests.ClientLine.{ClientLine}
use Rattle.up_command.specs.Printed.{ended}
use Rattle.up_command.specs.Statuses.{input_limit}
use Rattle.up_terminal.specs.declared.terminal_line.TerminalLine.{TerminalLine}
use Rattle.up_terminal.specs.declared.terminal_line.TerminalLine.TheVariants as lines

-- the user of the words `client ADDR HELPER USER`; none where the words are others, or the last one is no user
abbrev pub client_user : List Text → Option UserName
client_user (command ∷ address ∷ helper ∷ user ∷ []) =
    if bytes_eq command (codes "client") then result_ok (user_of user) else None
client_user _ = None

-- what words ask for a user: words that the client reads, or those of a request
abbrev pub asked_by : UserName → List Text → Option ClientLine → Option TerminalLine
asked_by user words (Some call) = Some (lines.Client call)
asked_by user words None = option_map (λ request. lines.Request request) (request_of user words)

-- what a line says, at the terminal of a user; none where it is malformed
unfoldable pub line_of : UserName → Text → Option TerminalLine
line_of user line =
    if is_silent line then Some lines.Silent
    else asked_by user (line_words line) (client_line_of (line_words line))

-- no LF stands in a line, and it has at most 67,108,864 bytes
pub record IsLine (line : Text) : Type 0 where
  pub unbroken : list_any is_line_end line ≡ false
  pub short : length line ≤ input_limit

-- a line says something at the terminal of a user, and has at most 67,108,864 bytes
pub record IsGoodLine (user : UserName) (line : Text) : Type 0 where
  pub good : is_some (line_of user line) ≡ true
  pub short : length line ≤ input_limit

-- lines, each with its LF
abbrev pub lines_text : List Text → Text
lines_text lines = flat_map ended lines

-- what was read, as it is cut into lines; once the input has ended, its last line has an LF too
abbrev pub cut_text : Bool → Text → Text
cut_text over read = if over then lines_text (script_lines read) else read
