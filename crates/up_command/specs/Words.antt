-- Words that several commands have. This project's own.
use Rattle.std.specs.Prelude.{Bool, ◌&&◌, nat_le, if◌then◌else◌, length, Option, Some, None}
use Rattle.std.specs.Option.{option_and_then}
use Rattle.std.specs.Result.{result_ok}
use Rattle.up_names.specs.Texts.{Text, UserName}
use Rattle.up_names.specs.PathNames.{PathName, path_of}
use Rattle.up_names.specs.UserNames.{user_of}
use Rattle.up_text.specs.Words.{decoded}
use Rattle.up_text.specs.declared.requests.ClientLine.{ClientLine}
use Rattle.up_text.specs.declared.requests.ClientLine.TheVariants as calls

infixl 10 ◌>>=◌
-- the next step, where there was a first one
abbrev pub ◌>>=◌ : {A B : Type 0} → Option A → (A → Option B) → Option B
found >>= next = option_and_then next found

-- the user that a word names
unfoldable pub user_named : Text → Option UserName
user_named word = do
  text ← decoded word
  result_ok (user_of text)

-- a public key has 1 to 1,024 bytes
abbrev pub is_key : Text → Bool
is_key key = nat_le 1 (length key) && nat_le (length key) 1024

-- the public key that a word stands for
unfoldable pub key_named : Text → Option Text
key_named word = do
  key ← decoded word
  if is_key key then Some key else None

-- the path that a put or get of the client names
abbrev pub call_path : ClientLine → Option PathName
call_path (calls.Put name time sequence bytes) = result_ok (path_of name)
call_path (calls.Get name) = result_ok (path_of name)
