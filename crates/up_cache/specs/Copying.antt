-- What `upspin copy` does and prints. This project's own.
use Rattle.std.specs.Prelude.{◌≡◌, ◌≢◌, ℕ, ◌&&◌, nat_le, false, true, List, [], ◌∷◌, ◌++◌, drop, length, codes, bytes_eq}
use Rattle.std.specs.Prelude.{decimal, if◌then◌else◌, Option, Some, None, Result, Ok, Err}
use Rattle.std.specs.List.{AllZip, flat_map}
use Rattle.std.specs.Result.{result_ok}
use Rattle.std.specs.Io.KnownBytes.{Appends}
use Rattle.up_ends.specs.Writing.{WritesPart}
use Rattle.up_lists.specs.Runs.{Run}
use Rattle.up_client.specs.Getting.{get_talk}
use Rattle.up_client.specs.Talks.{Held}
use Rattle.up_client.specs.declared.fault.ClientFault.{ClientFault}
use Rattle.up_client.specs.declared.fault.ClientFault.TheVariants as client
use Rattle.up_command.specs.Printed.{ended, got_lines}
use Rattle.up_command.specs.Statuses.{is_cut}
use Rattle.up_names.specs.PathNames.{PathName, path_of}
use Rattle.up_names.specs.Texts.{Text, UserName}
use Rattle.up_names.specs.UserNames.{user_of}
use Rattle.up_wire.specs.declared.replies.Reply.{Reply}
use Rattle.up_wire.specs.declared.requests.Request.{Request}
use Rattle.up_cache.specs.Caching.{CachedAnswers, Caching, caching}
use Rattle.up_cache.specs.Steady.{Plain}
use Rattle.up_cache.specs.declared.stop.Stop.{Stop}
use Rattle.up_cache.specs.declared.stop.Stop.TheVariants as stop

-- ---- the words

-- the user of the words `copy ADDR HELPER USER PATH..`, of which 1 to 1,000 are for paths; none where the words are others, or the fourth
-- is no user
abbrev pub copy_user : List Text → Option UserName
copy_user (command ∷ address ∷ helper ∷ user ∷ path ∷ more) =
    if bytes_eq command (codes "copy") && nat_le (length more) 999 then result_ok (user_of user) else None
copy_user words = None

-- the words for paths
abbrev pub copy_paths : List Text → List Text
copy_paths words = drop 4 words

-- how many blocks are held
abbrev pub copy_capacity : ℕ
copy_capacity = 64

-- ---- what is done at a path, and what is printed of it

-- the word names no path; or this came of getting the file
pub data PathDid : Type 0 where
  BadPath : PathDid
  Got : Result (List ℕ) ClientFault → PathDid

-- lines, each with its LF
abbrev pub lines_text : List Text → Text
lines_text lines = flat_map ended lines

-- what is printed of a word: that it names no path, or what came of getting the file
abbrev pub did_text : PathDid → Text
did_text PathDid.BadPath = ended (codes "invalid name")
did_text (PathDid.Got result) = lines_text (got_lines result)

-- what is printed of words that were done one after the other
abbrev pub printed : List PathDid → Text
printed dids = flat_map did_text dids

-- the last line: how many requests for blocks were passed on, and how many were answered from the cache
abbrev pub counts_line : ℕ → ℕ → Text
counts_line asked kept = ended ((codes "asked " ++ decimal asked ++ codes " kept ") ++ decimal kept)

-- what came of a word: what was done, or why the run ends
abbrev pub PathResult : Type 0
PathResult = Result PathDid Stop

-- what came of getting a file; where no answer came, and for want of memory, the run ends
abbrev pub result_of_get : Result (List ℕ) ClientFault → PathResult
result_of_get (Err client.Failed) = Err stop.AskFault
result_of_get (Err client.OutOfMemory) = Err stop.OutOfMemory
result_of_get result = Ok (PathDid.Got result)

-- What comes of a word, over somebody who answers by a relation: nothing is asked where it names no path; else the client holds its
-- conversation to get the file. There may be no memory to read the word.
pub data PathCame {S : Type 0} (answers : S → Request → Option Reply → S → Type 0) (a : S) (word : Text) : PathResult → S → Type 0 where
  bad_path : result_ok (path_of word) ≡ None → PathCame answers a word (Ok PathDid.BadPath) a
  got : {path : PathName} {result : Result (List ℕ) ClientFault} {b : S} → result_ok (path_of word) ≡ Some path
      → Held answers (get_talk path) a result b → PathCame answers a word (result_of_get result) b
  unread : PathCame answers a word (Err stop.OutOfMemory) a

-- a word did this, so the run goes on
abbrev pub PathDoes : {S : Type 0} → (S → Request → Option Reply → S → Type 0) → S → Text → PathDid → S → Type 0
PathDoes answers a word did b = PathCame answers a word (Ok did) b

-- ---- the run

-- How a run ends behind the words that were done, by those that are left: its status, what is written last, and the state it leaves.
pub data Ends {S : Type 0} (answers : S → Request → Option Reply → S → Type 0)
    (last : Caching S) (rest : List Text) : ℕ → Text → Caching S → Type 0 where
  at_end : rest ≡ [] → Ends answers last rest 0 (counts_line last.asked last.kept) last
  unanswered : {word : Text} {more : List Text} {b : Caching S} → rest ≡ word ∷ more
      → PathCame (CachedAnswers answers) last word (Err stop.AskFault) b → Ends answers last rest 11 [] b
  wanting : {word : Text} {more : List Text} {b : Caching S} → rest ≡ word ∷ more
      → PathCame (CachedAnswers answers) last word (Err stop.OutOfMemory) b → Ends answers last rest 4 [] b
  cut : {status : ℕ} → is_cut status ≡ true → Ends answers last rest status [] last
  cut_at_end : {status : ℕ} → is_cut status ≡ true → rest ≡ [] → Ends answers last rest status (counts_line last.asked last.kept) last

-- Of words the first ones were done over a cache, one after the other, and the run ended. What they print is written, and the last line
-- behind it; but where a write fault or want of memory cut it short, a front of it is.
pub record Copied {S : Type 0} (answers : S → Request → Option Reply → S → Type 0) (old new : Option Text)
    (a : Caching S) (words : List Text) (status : ℕ) (b : Caching S) : Type 0 where
  pub done : List Text
  pub rest : List Text
  pub cut : done ++ rest ≡ words
  pub dids : List PathDid
  pub last : Caching S
  pub run : Run (PathDoes (CachedAnswers answers)) a done dids last
  pub tail : Text
  pub ends : Ends answers last rest status tail b
  pub whole : is_cut status ≡ false → Appends old new (printed dids ++ tail)
  pub part : WritesPart old new (printed dids ++ tail)

-- Words were copied over a new cache, and whoever is asked was left so.
pub record CopiedOver {S : Type 0} (answers : S → Request → Option Reply → S → Type 0)
    (old new : Option Text) (a : S) (words : List Text) (status : ℕ) (b : S) : Type 0 where
  pub end : Caching S
  pub copied : Copied answers old new (caching a copy_capacity) words status end
  pub left : end.ask ≡ b

-- ---- over a table

-- what is done where each request has its reply of a table
pub data PlainDid (rows : List (Request × Reply)) (word : Text) : PathDid → Type 0 where
  plain_none : result_ok (path_of word) ≡ None → PlainDid rows word PathDid.BadPath
  plain_got : {path : PathName} {result : Result (List ℕ) ClientFault} → result_ok (path_of word) ≡ Some path
      → Plain rows (get_talk path) result → PlainDid rows word (PathDid.Got result)

-- each word was done so, and what they print was written, with the last line behind it
pub record PlainlyCopied (rows : List (Request × Reply)) (old new : Option Text) (words : List Text) : Type 0 where
  pub dids : List PathDid
  pub each : AllZip (PlainDid rows) words dids
  pub asked : ℕ
  pub kept : ℕ
  pub written : Appends old new (printed dids ++ counts_line asked kept)
