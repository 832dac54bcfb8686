-- The records of a key server: which of them it takes, and what a log of them gives for each user. This project's own.
use Rattle.std.specs.Prelude.{ℕ, Bool, ◌&&◌, nat_le, List, [], length, Option, Result}
use Rattle.std.specs.FinMap.Entries.{find, put}
use Rattle.std.specs.Cmp.Lexicographic.{slice_cmp}
use Rattle.std.specs.List.{fold, list_all}
use Rattle.std.specs.Ordering.{nat_cmp}
use Rattle.std.specs.Result.{result_ok}
use Rattle.std.specs.declared.cmp.Ordering.{Ordering}
use Rattle.up_entry.specs.Rules.{endpoint_fits}
use Rattle.up_entry.specs.declared.entries.Endpoint.{Endpoint}
use Rattle.up_journal.specs.Damages.{Damage}
use Rattle.up_journal.specs.Logs.{log_in}
use Rattle.up_names.specs.Texts.{UserName}
use Rattle.up_wire.specs.Keys.{logged_of}
use Rattle.up_wire.specs.declared.keys.KeyRecord.{KeyRecord}

-- at most 8 endpoints, each the host's own or at a good address
unfoldable pub endpoints_fit : List Endpoint → Bool
endpoints_fit endpoints = nat_le (length endpoints) 8 && list_all endpoint_fits endpoints

-- the bounds of a record: at most 8 directories, at most 8 stores, and a public key of 1 to 1,024 bytes
unfoldable pub keeps_bounds : List Endpoint → List Endpoint → List ℕ → Bool
keeps_bounds dirs stores key = endpoints_fit dirs && endpoints_fit stores && (nat_le 1 (length key) && nat_le (length key) 1024)

-- a record keeps the bounds of a key server's
abbrev pub has_bounds : KeyRecord → Bool
has_bounds known = keeps_bounds known.dirs known.stores known.key

-- what the limits have to leave for one record
abbrev pub largest_room : ℕ
largest_room = 8192

-- ---- the log

-- the record that a payload is
abbrev pub decoded : List ℕ → Option KeyRecord
decoded payload = result_ok (logged_of payload)

-- a record fits after any others where it keeps its bounds
abbrev pub fits : List KeyRecord → KeyRecord → Bool
fits log known = has_bounds known

-- The records of an image; or its damage; or, where all gates are good, damage at the gate of the first record that does not
-- decode or does not keep its bounds.
abbrev pub records_in : ℕ → List ℕ → Result (List KeyRecord) Damage
records_in largest image = log_in decoded fits largest image

-- ---- the key map

-- the order of users is that of their bytes
abbrev pub user_cmp : UserName → UserName → Ordering
user_cmp = slice_cmp nat_cmp

-- with a record more, which is its user's from then on
abbrev pub with_record : List (UserName × KeyRecord) → KeyRecord → List (UserName × KeyRecord)
with_record keys known = put user_cmp known.user known keys

-- the key map of a log: each user with its last record
abbrev pub keys_of : List KeyRecord → List (UserName × KeyRecord)
keys_of log = fold with_record [] log

-- the record that a log has for a user, if it has one
abbrev pub record_in : List KeyRecord → UserName → Option KeyRecord
record_in log user = find user_cmp user (keys_of log)
