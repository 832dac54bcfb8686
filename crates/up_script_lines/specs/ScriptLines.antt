-- What each line of a script says by itself, whatever came before it. The script language is this project's own. Keywords, numbers
-- and names of hosts are read as they stand; users, keys and proofs stand coded in their words.
use Rattle.std.specs.Prelude.{ℕ, Bool, ◌&&◌, not, nat_le, if◌then◌else◌, List, [], ◌∷◌, length, codes, Option, Some, None, is_some}
use Rattle.std.specs.List.{list_all, slice_split}
use Rattle.std.specs.Str.{bytes_eq}
use Rattle.up_names.specs.Texts.{Text, UserName}
use Rattle.up_policy.specs.Trees.{owns_snapshots}
use Rattle.up_text.specs.Lines.{is_silent, line_words}
use Rattle.up_text.specs.Lists.{is_comma, is_no_list}
use Rattle.up_text.specs.Numbers.{num_of}
use Rattle.up_text.specs.Requests.{client_line_of, request_of}
use Rattle.up_text.specs.Words.{decoded}
use Rattle.up_text.specs.declared.requests.ClientLine.{ClientLine}
use Rattle.up_command.specs.Users.{are_different}
use Rattle.up_command.specs.Words.{◌>>=◌, key_named, user_named}
use Rattle.up_sign.specs.HostNames.{host_named}
use Rattle.up_script_lines.specs.declared.script_lines.ScriptLine.{ScriptLine}
use Rattle.up_script_lines.specs.declared.script_lines.ScriptLine.TheVariants as lines

-- ---- words

-- the number of a session: 0 to 99
unfoldable pub session_named : Text → Option ℕ
session_named word = do
  number ← num_of word
  if nat_le number 99 then Some number else None

-- ---- the trees of a host

-- the users that some words name
unfoldable pub users_named : List Text → Option (List UserName)
users_named [] = Some []
users_named (word ∷ more) = do
  user ← user_named word
  others ← users_named more
  Some (user ∷ others)

-- the trees of one host: at most 8, of different users, none of whom is a snapshot user
abbrev pub are_owners : List UserName → Bool
are_owners owners = nat_le (length owners) 8 && list_all (λ owner. not (owns_snapshots owner)) owners && are_different owners

-- these users, where they may be the trees of one host
abbrev pub if_owners : List UserName → Option (List UserName)
if_owners owners = if are_owners owners then Some owners else None

-- TREES: `-`, or users joined by commas; the list is cut before anything in it is decoded
unfoldable pub trees_named : Text → Option (List UserName)
trees_named word = if is_no_list word then Some [] else users_named (slice_split is_comma word) >>= if_owners

-- ---- lines

-- `host NAME OPERATOR TREES`
unfoldable pub host_line : List Text → Option ScriptLine
host_line (name ∷ operator ∷ trees ∷ []) = do
  called ← host_named name
  by ← user_named operator
  owners ← trees_named trees
  Some (lines.Host (record { name = called; operator = by; owners = owners }))
host_line _ = None

-- `enrol NAME USER KEY`
unfoldable pub enrol_line : List Text → Option ScriptLine
enrol_line (name ∷ user ∷ key ∷ []) = do
  host ← host_named name
  known ← user_named user
  public ← key_named key
  Some (lines.Enrol (record { host = host; user = known; key = public }))
enrol_line _ = None

-- `open N NAME USER PROOF`
unfoldable pub open_line : List Text → Option ScriptLine
open_line (number ∷ name ∷ user ∷ proof ∷ []) = do
  session ← session_named number
  host ← host_named name
  signer ← user_named user
  signature ← decoded proof
  Some (lines.Open (record { number = session; host = host; user = signer; proof = signature }))
open_line _ = None

-- what words ask in a session, whoever signed on there: words that the client reads, or those of a request
abbrev pub asked_line : ℕ → List Text → Option ClientLine → Option ScriptLine
asked_line session words (Some call) = Some (lines.Client session call)
asked_line session words None = if is_some (request_of [] words) then Some (lines.Request session words) else None

-- `N` and the words of a request, or of a put or get of the client
unfoldable pub session_line : Text → List Text → Option ScriptLine
session_line number words = do
  session ← session_named number
  asked_line session words (client_line_of words)

-- the line whose first word this is
unfoldable pub words_line : List Text → Option ScriptLine
words_line [] = None
words_line (first ∷ words) =
    if bytes_eq first (codes "host") then host_line words
    else if bytes_eq first (codes "enrol") then enrol_line words
    else if bytes_eq first (codes "open") then open_line words
    else session_line first words

-- what a line says; none where it is malformed
unfoldable pub line_of : Text → Option ScriptLine
line_of line = if is_silent line then Some lines.Silent else words_line (line_words line)
