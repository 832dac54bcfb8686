-- The fields of a user's record with a key server, in a request, in a reply and in the key server's log. This project's own
-- format.
use Rattle.std.specs.Prelude.{◌≡◌, ℕ, List, [], ◌∷◌, ◌++◌, Result, Ok}
use Rattle.std.specs.List.{AllByRecursion}
use Rattle.up_bytes.specs.declared.fault.FieldFault.{FieldFault}
use Rattle.up_bytes.specs.Input.{Input}
use Rattle.up_bytes.specs.Spelling.{byte, text, list, IsText, IsList}
use Rattle.up_bytes.specs.Reading.{◌>>=◌, text_at, list_at, tagged_at, whole_of}
use Rattle.up_names.specs.UserNames.{user_of}
use Rattle.up_entry.specs.declared.entries.Endpoint.{Endpoint}
use Rattle.up_entry.specs.Reading.{endpoint_at, user_at}
use Rattle.up_entry.specs.Spelling.{endpoint_text, HasAddress}
use Rattle.up_wire.specs.declared.keys.KeyCard.{KeyCard}
use Rattle.up_wire.specs.declared.keys.KeyRecord.{KeyRecord}

-- ---- how they are spelled

-- endpoints: their number, and each as the text of its address, which is empty for the host's own store
abbrev pub endpoints : List Endpoint → List ℕ
endpoints = list (λ endpoint. text (endpoint_text endpoint))

-- the user, directories, stores, the key
abbrev pub key_fields : List ℕ → List Endpoint → List Endpoint → List ℕ → List ℕ
key_fields user dirs stores key = text user ++ endpoints dirs ++ endpoints stores ++ text key

-- the bytes of a key record as a request hands it in
unfoldable pub key_card : KeyCard → List ℕ
key_card card = key_fields card.user card.dirs card.stores card.key

-- the bytes of a key record
unfoldable pub key_record : KeyRecord → List ℕ
key_record known = key_fields known.user known.dirs known.stores known.key

-- a record of a key server's log: 01 and the fields
abbrev pub logged : KeyRecord → List ℕ
logged known = byte 1 ++ key_record known

-- ---- how they are read

-- a key record as a request hands it in, field by field
unfoldable pub key_card_at : Input → Result (KeyCard × Input) FieldFault
key_card_at input = do
  user ← text_at input
  dirs ← list_at endpoint_at user.1
  stores ← list_at endpoint_at dirs.1
  key ← text_at stores.1
  Ok (record { user = user.0; dirs = dirs.0; stores = stores.0; key = key.0 }, key.1)

-- a key record, field by field; its user is a canonical name
unfoldable pub key_record_at : Input → Result (KeyRecord × Input) FieldFault
key_record_at input = do
  user ← user_at input
  dirs ← list_at endpoint_at user.1
  stores ← list_at endpoint_at dirs.1
  key ← text_at stores.1
  Ok (record { user = user.0; dirs = dirs.0; stores = stores.0; key = key.0 }, key.1)

-- the one tag of a record of a key server's log, and what follows it
abbrev pub logged_table : List (ℕ × (Input → Result (KeyRecord × Input) FieldFault))
logged_table = (1, key_record_at) ∷ []

-- a record of a key server's log is read by its tag
abbrev pub logged_at : Input → Result (KeyRecord × Input) FieldFault
logged_at = tagged_at logged_table

-- the record that is the whole of these bytes
abbrev pub logged_of : List ℕ → Result KeyRecord FieldFault
logged_of = whole_of logged_at

-- ---- what each of the program is, by its type, and which of them have a spelling: those without an empty address

-- an endpoint as the program can hold it
abbrev pub IsEndpoint : Endpoint → Type 0
IsEndpoint endpoint = IsText (endpoint_text endpoint)

-- a key record as a request hands it in, as the program can hold it
pub record IsKeyCard (card : KeyCard) : Type 0 where
  pub user : IsText card.user
  pub dirs : IsList IsEndpoint card.dirs
  pub stores : IsList IsEndpoint card.stores
  pub key : IsText card.key

-- a key record as the program can hold it
pub record IsKeyRecord (known : KeyRecord) : Type 0 where
  pub user : user_of known.user ≡ Ok known.user
  pub dirs : IsList IsEndpoint known.dirs
  pub stores : IsList IsEndpoint known.stores
  pub key : IsText known.key

-- no address of these endpoints is empty
abbrev pub HaveAddresses : List Endpoint → List Endpoint → Type 0
HaveAddresses dirs stores = AllByRecursion HasAddress dirs × AllByRecursion HasAddress stores

-- a key record as a request hands it in has a spelling
abbrev pub IsSpelledKeyCard : KeyCard → Type 0
IsSpelledKeyCard card = HaveAddresses card.dirs card.stores

-- a key record has a spelling
abbrev pub IsSpelledKeyRecord : KeyRecord → Type 0
IsSpelledKeyRecord known = HaveAddresses known.dirs known.stores

-- a key record as a request hands it in, which the program can hold and which has a spelling
abbrev pub FitsKeyCard : KeyCard → Type 0
FitsKeyCard card = IsKeyCard card × IsSpelledKeyCard card

-- a key record that the program can hold and that has a spelling
abbrev pub FitsKeyRecord : KeyRecord → Type 0
FitsKeyRecord known = IsKeyRecord known × IsSpelledKeyRecord known
