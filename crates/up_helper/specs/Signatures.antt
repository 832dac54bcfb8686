-- What `upspin verify` and `upspin sign` answer. They stand in for a helper in tests, and protect nothing. This project's own.
use Rattle.std.specs.Prelude.{ℕ, Bool, true, false, ◌==◌, if◌then◌else◌, List, [], ◌∷◌, ◌++◌, codes}
use Rattle.std.specs.Prelude.{Option, Some, None, option_and_then, IsTrue}
use Rattle.std.specs.List.{list_any}
use Rattle.std.specs.Result.{result_ok}
use Rattle.std.specs.Str.{bytes_eq}
use Rattle.sha2.specs.Sha256.{sha256}
use Rattle.up_refs.specs.References.{text_of}
use Rattle.up_names.specs.UserNames.{user_of}
use Rattle.up_helper.specs.HelperWords.{bytes_in}

-- the signature of a message by a key: the SHA-256 of the key and the message, one after the other
abbrev pub signature_of : List ℕ → List ℕ → List ℕ
signature_of key message = sha256 (key ++ message)

-- whether a signature is that of the message by the key
abbrev pub verdict_of : List ℕ → List ℕ → List ℕ → Bool
verdict_of key message signature = bytes_eq signature (signature_of key message)

infixl 10 ◌>>=◌
-- what comes next, where there is an answer
abbrev pub ◌>>=◌ : {A B : Type 0} → Option A → (A → Option B) → Option B
found >>= next = option_and_then next found

-- the verdict on the words of a key, a message and a signature; none where one of them is no word of bytes
unfoldable pub verdict_on : List ℕ → List ℕ → List ℕ → Option Bool
verdict_on key_word message_word signature_word = do
  key ← bytes_in key_word
  message ← bytes_in message_word
  signature ← bytes_in signature_word
  Some (verdict_of key message signature)

-- the verdict on the words of `upspin verify KEY MESSAGE SIGNATURE`; none where the words are not so
unfoldable pub verdict_in : List (List ℕ) → Option Bool
verdict_in (command ∷ key ∷ message ∷ signature ∷ []) = if bytes_eq command (codes "verify") then verdict_on key message signature else None
verdict_in words = None

-- the status of a verdict
abbrev pub verify_status : Option Bool → ℕ
verify_status (Some true) = 0
verify_status (Some false) = 1
verify_status None = 2

-- the line of a signature: 64 upper-case hexadecimal digits and LF
abbrev pub signature_line : List ℕ → List ℕ
signature_line signature = text_of signature ++ codes "\n"

-- the line for the words of a user, whose key is its canonical name, and a message; none where one of them is not so
unfoldable pub signed_for : List ℕ → List ℕ → Option (List ℕ)
signed_for user_word message_word = do
  user ← result_ok (user_of user_word)
  message ← bytes_in message_word
  Some (signature_line (signature_of user message))

-- the line for the words of `upspin sign USER MESSAGE`; none where the words are not so
unfoldable pub signed_in : List (List ℕ) → Option (List ℕ)
signed_in (command ∷ user ∷ message ∷ []) = if bytes_eq command (codes "sign") then signed_for user message else None
signed_in words = None

-- the number is among these
abbrev pub IsOneOf : List ℕ → ℕ → Type 0
IsOneOf numbers n = IsTrue (list_any (λ s. s == n) numbers)
