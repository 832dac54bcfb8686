-- What fails first where a message is read, or a record of a key server's log: its tag, or the first field after it. This project's
-- own.
use Rattle.std.specs.Prelude.{ℕ, List, [], ◌∷◌}
use Rattle.up_bytes.specs.declared.fault.FieldFault.{FieldFault}
use Rattle.up_bytes.specs.First.{fails_at, list_fails, never, tagged_fails}
use Rattle.up_bytes.specs.Input.{Input}
use Rattle.up_bytes.specs.Reading.{byte_at, bytes_at, num_at, text_at}
use Rattle.up_wire.specs.Reading.{right_at, what_at}

-- ---- what a client sends: each message but Bye begins with a text

-- of each tag of a request the first field, a text
abbrev pub request_firsts : List (ℕ × (Input → FieldFault → Type 0))
request_firsts =
    (0x10, fails_at text_at)
    ∷ (0x11, fails_at text_at)
    ∷ (0x12, fails_at text_at)
    ∷ (0x13, fails_at text_at)
    ∷ (0x14, fails_at text_at)
    ∷ (0x15, fails_at text_at)
    ∷ (0x16, fails_at text_at)
    ∷ (0x20, fails_at text_at)
    ∷ (0x21, fails_at text_at)
    ∷ (0x22, fails_at text_at)
    ∷ (0x30, fails_at text_at)
    ∷ (0x31, fails_at text_at)
    ∷ []

-- of each tag of what a client sends the first field, if it has one
abbrev pub client_firsts : List (ℕ × (Input → FieldFault → Type 0))
client_firsts = (0x01, fails_at text_at) ∷ (0x02, fails_at text_at) ∷ (0x03, never) ∷ request_firsts

-- what fails first where a client's message is read
abbrev pub client_fails : Input → FieldFault → Type 0
client_fails = tagged_fails client_firsts

-- ---- what a server sends

-- what was done: a position, an entry, rows, whether there is an entry, events, a text, a reference, bytes, a key record
abbrev pub done_firsts : List (ℕ × (Input → FieldFault → Type 0))
done_firsts =
    (0x01, fails_at num_at)
    ∷ (0x02, fails_at text_at)
    ∷ (0x03, list_fails (fails_at num_at))
    ∷ (0x04, fails_at byte_at)
    ∷ (0x05, list_fails (fails_at num_at))
    ∷ (0x06, fails_at text_at)
    ∷ (0x07, fails_at (bytes_at 32))
    ∷ (0x08, fails_at text_at)
    ∷ (0x09, fails_at text_at)
    ∷ []

-- what fails first where what was done is read
abbrev pub done_fails : Input → FieldFault → Type 0
done_fails = tagged_fails done_firsts

-- the replies from NotExist on
abbrev pub later_reply_firsts : List (ℕ × (Input → FieldFault → Type 0))
later_reply_firsts =
    (0x0A, fails_at num_at)
    ∷ (0x0C, fails_at (bytes_at 32))
    ∷ (0x0D, fails_at num_at)
    ∷ (0x0E, fails_at num_at)
    ∷ (0x0F, fails_at num_at)
    ∷ []

-- the replies: what was done, what is malformed, the link to follow, the missing right, and those from NotExist on
abbrev pub reply_firsts : List (ℕ × (Input → FieldFault → Type 0))
reply_firsts = (0x00, done_fails) ∷ (0x01, fails_at what_at) ∷ (0x03, fails_at text_at) ∷ (0x05, fails_at right_at) ∷ later_reply_firsts

-- of each tag of what a server sends the first field, if it has one that can fail
abbrev pub server_firsts : List (ℕ × (Input → FieldFault → Type 0))
server_firsts = (0x81, fails_at (bytes_at 32)) ∷ reply_firsts

-- what fails first where a server's message is read
abbrev pub server_fails : Input → FieldFault → Type 0
server_fails = tagged_fails server_firsts

-- ---- a record of a key server's log, which begins with a text

-- of the one tag of a record of a key server's log the first field
abbrev pub logged_firsts : List (ℕ × (Input → FieldFault → Type 0))
logged_firsts = (1, fails_at text_at) ∷ []

-- what fails first where such a record is read
abbrev pub logged_fails : Input → FieldFault → Type 0
logged_fails = tagged_fails logged_firsts
