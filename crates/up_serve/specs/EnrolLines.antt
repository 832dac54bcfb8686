-- What a line of the text of users to be enrolled says. This project's own. A line is words parted by single spaces, as in a script; an
-- empty one and a comment say nothing.
use Rattle.std.specs.Prelude.{◌≡◌, true, if◌then◌else◌, List, [], ◌∷◌, Option, Some, None}
use Rattle.up_command.specs.Words.{◌>>=◌, key_named, user_named}
use Rattle.up_keys.specs.Records.{has_bounds}
use Rattle.up_names.specs.Texts.{Text, UserName}
use Rattle.up_serve.specs.declared.enrol_line.EnrolLine.{EnrolLine}
use Rattle.up_serve.specs.declared.enrol_line.EnrolLine.TheVariants as lines
use Rattle.up_text.specs.Lines.{is_silent, line_words}
use Rattle.up_wire.specs.declared.keys.KeyRecord.{KeyRecord}

-- a user's key record that names no endpoints
abbrev pub plain_card : UserName → Text → KeyRecord
plain_card user key = record { user = user; dirs = []; stores = []; key = key }

-- `USER KEY`: the record of a user, whose key has 1 to 1,024 bytes
unfoldable pub user_line : List Text → Option EnrolLine
user_line (user ∷ key ∷ []) = do
  known ← user_named user
  public ← key_named key
  Some (lines.User (plain_card known public))
user_line _ = None

-- what a line says; none where it is bad
unfoldable pub enrol_line : Text → Option EnrolLine
enrol_line line = if is_silent line then Some lines.Silent else user_line (line_words line)

-- a record that a line gives keeps the bounds of a key server's
abbrev pub IsGood : EnrolLine → Type 0
IsGood lines.Silent = Unit {0}
IsGood (lines.User card) = has_bounds card ≡ true
