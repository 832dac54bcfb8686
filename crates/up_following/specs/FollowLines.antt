-- What the words of `upspin follow` and each line of its input say. This project's own. The word `pull` is read as it stands; the user of
-- a line stands coded in its word, as the words of a request do, and the owner among the command's words stands for itself.
use Rattle.std.specs.Prelude.{List, [], ◌∷◌, codes, Option, Some, None, if◌then◌else◌}
use Rattle.std.specs.Str.{bytes_eq}
use Rattle.up_command.specs.Words.{◌>>=◌, user_named}
use Rattle.up_names.specs.Texts.{Text, UserName}
use Rattle.up_reports.specs.Owners.{owner_in}
use Rattle.up_text.specs.Lines.{is_silent, line_words}
use Rattle.up_text.specs.Requests.{request_of}
use Rattle.up_following.specs.declared.line.FollowLine.{FollowLine}
use Rattle.up_following.specs.declared.line.FollowLine.TheVariants as lines

-- the owner of the words `follow ADDR HELPER USER FILE`; none where the words are others, or USER is no user or a snapshot user
abbrev pub follow_owner : List Text → Option UserName
follow_owner (command ∷ address ∷ helper ∷ user ∷ file ∷ []) = if bytes_eq command (codes "follow") then owner_in user else None
follow_owner _ = None

-- `pull`, with no word behind it
abbrev pub pull_line : List Text → Option FollowLine
pull_line [] = Some lines.Pull
pull_line _ = None

-- `USER` and the words of a request, which is asked as that user; there is none for the client's `put` and `get`
unfoldable pub asked_line : Text → List Text → Option FollowLine
asked_line first words = do
  user ← user_named first
  request ← request_of user words
  Some (lines.Ask user request)

-- the line whose words these are
unfoldable pub words_line : List Text → Option FollowLine
words_line [] = None
words_line (first ∷ words) = if bytes_eq first (codes "pull") then pull_line words else asked_line first words

-- what a line says; none where it is malformed
unfoldable pub line_of : Text → Option FollowLine
line_of line = if is_silent line then Some lines.Silent else words_line (line_words line)
