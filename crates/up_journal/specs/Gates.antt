-- What stands on a device after its name, in both formats: records after open gates, and a closed gate. This project's own.
use Rattle.std.specs.Prelude.{◌≡◌, ◌==◌, ◌&&◌, ◌+◌, ℕ, zero, suc, Bool, false, nat_le, nat_lt, List, [], ◌∷◌, ◌++◌, length, take, drop}
use Rattle.std.specs.Prelude.{Result, Ok, Err, if◌then◌else◌}
use Rattle.std.specs.Int.{w32, from_be_bytes, to_be_bytes}
use Rattle.std.specs.Str.{bytes_eq}
use Rattle.up_disk.specs.Disk.{part}
use Rattle.up_journal.specs.Damages.{Damage, Damaged, Chain}

-- What tells the formats apart: the name with which a device begins; how long the link is that each record carries; the link of
-- the first record; and the link of any other, by the bytes of the record before it.
pub record Format : Type 0 where
  pub name : List ℕ
  pub link_size : ℕ
  pub first_link : List ℕ
  pub next_link : List ℕ → List ℕ

-- the name has 8 bytes, and each link has as many as the format says
pub record IsFormat (format : Format) : Type 0 where
  pub named : length format.name ≡ 8
  pub first : length format.first_link ≡ format.link_size
  pub next : (bytes : List ℕ) → length (format.next_link bytes) ≡ format.link_size

-- the place of the first gate: after the 8 bytes of the name
abbrev pub first_gate : ℕ
first_gate = 8

-- the bytes of a new device: the name and a closed gate
abbrev pub new_size : ℕ
new_size = 9

-- a length in 4 bytes, high byte first
unfoldable pub length_bytes : ℕ → List ℕ
length_bytes size = to_be_bytes w32 size

-- the number that 4 bytes stand for
unfoldable pub number_of : List ℕ → ℕ
number_of bytes = from_be_bytes w32 bytes

-- ---- as it is written

-- a record: the length of the payload, the link, the payload
abbrev pub record_bytes : List ℕ → List ℕ → List ℕ
record_bytes link payload = length_bytes (length payload) ++ link ++ payload

-- what is written after a closed gate: the record and the next gate, closed
abbrev pub behind_gate : List ℕ → List ℕ → List ℕ
behind_gate link payload = record_bytes link payload ++ 0 ∷ []

-- the records of these payloads, the first of which carries that link
abbrev pub record_list : Format → List ℕ → List (List ℕ) → List (List ℕ)
record_list format link [] = []
record_list format link (payload ∷ log) = record_bytes link payload ∷ record_list format (format.next_link (record_bytes link payload)) log

-- these records, each after an open gate
abbrev pub behind_gates : List (List ℕ) → List ℕ
behind_gates [] = []
behind_gates (bytes ∷ records) = 1 ∷ bytes ++ behind_gates records

-- the link that the next record carries
abbrev pub link_behind : Format → List ℕ → List (List ℕ) → List ℕ
link_behind format link [] = link
link_behind format link (payload ∷ log) = link_behind format (format.next_link (record_bytes link payload)) log

-- the name, and the records of these payloads after open gates
abbrev pub front_of : Format → List (List ℕ) → List ℕ
front_of format log = format.name ++ behind_gates (record_list format format.first_link log)

-- ---- as it is read, from a gate on

-- whether these bytes begin with an open gate: any byte but 01 is a closed one
abbrev pub is_open : List ℕ → Bool
is_open (gate ∷ bytes) = gate == 1
is_open [] = false

-- a gate, the length after it, and the link
abbrev pub head_size_of : Format → ℕ
head_size_of format = 5 + format.link_size

-- the length of the payload
abbrev pub size_at : List ℕ → ℕ
size_at bytes = number_of (part 1 4 bytes)

-- the link
abbrev pub link_at : Format → List ℕ → List ℕ
link_at format bytes = part 5 format.link_size bytes

-- the payload, after so many bytes from the gate on
abbrev pub payload_at : ℕ → List ℕ → List ℕ
payload_at head bytes = part head (size_at bytes) bytes

-- the record as its bytes stand
abbrev pub record_at : Format → List ℕ → List ℕ
record_at format bytes = part 1 (4 + format.link_size + size_at bytes) bytes

-- the bytes from the next gate on
abbrev pub next_gate : ℕ → List ℕ → List ℕ
next_gate head bytes = drop (head + size_at bytes) bytes

-- whether the length keeps the limit, and the payload and the next gate lie within the device
abbrev pub is_whole : ℕ → ℕ → List ℕ → Bool
is_whole head largest bytes = nat_le (size_at bytes) largest && nat_lt (head + size_at bytes) (length bytes)

-- the payloads with others in front, or the same damage
abbrev pub after_payloads : List (List ℕ) → Result (List (List ℕ)) Damage → Result (List (List ℕ)) Damage
after_payloads front (Ok payloads) = Ok (front ++ payloads)
after_payloads front (Err damage) = Err damage

-- The payloads after open gates, up to the first closed one, where these bytes begin with the gate at that place, whose record
-- has to carry that link; or the first damage: of one gate, that it has no whole record comes before that it carries another
-- link. At most so many gates are looked at.
unfoldable pub log_from : Format → ℕ → ℕ → ℕ → List ℕ → List ℕ → Result (List (List ℕ)) Damage
log_from format zero largest gate link bytes = Err (Damaged gate)
log_from format (suc most) largest gate link bytes =
    if is_open bytes
    then (if is_whole (head_size_of format) largest bytes
    then (if bytes_eq (link_at format bytes) link
    then after_payloads (payload_at (head_size_of format) bytes ∷ [])
    (log_from format most largest (gate + head_size_of format + size_at bytes) (format.next_link (record_at format bytes))
    (next_gate (head_size_of format) bytes))
    else Err (Chain gate link (link_at format bytes)))
    else Err (Damaged gate))
    else Ok []

-- whether an image begins with the format's name
abbrev pub has_name : Format → List ℕ → Bool
has_name format image = bytes_eq (take first_gate image) format.name

-- what the gates of an image with that name say
abbrev pub log_behind_name : Format → ℕ → List ℕ → Result (List (List ℕ)) Damage
log_behind_name format largest image = log_from format (length image) largest first_gate format.first_link (drop first_gate image)
