-- The second format of a journal's image. This project's own; links are SHA-256 digests (FIPS 180-4).
use Rattle.std.specs.Prelude.{ℕ, nat_le, List, [], ◌∷◌, length, replicate, Result, Ok, Err, if◌then◌else◌}
use Rattle.up_refs.specs.Sha256.{sha256}
use Rattle.up_journal.specs.Damages.{Damage, Damaged, OldFormat}
use Rattle.up_journal.specs.Format1.{format1}
use Rattle.up_journal.specs.Gates.{Format, has_name, link_behind, log_behind_name, new_size}

-- The name is `UPSLOG2` and LF. The link of the first record is 32 bytes 00, and that of any other the digest of the length, link
-- and payload of the record before it.
abbrev pub format2 : Format
format2 = record { name = 85 ∷ 80 ∷ 83 ∷ 76 ∷ 79 ∷ 71 ∷ 50 ∷ 10 ∷ []; link_size = 32; first_link = replicate 32 0; next_link = sha256 }

-- a gate, the length after it, and the link
abbrev pub head_size : ℕ
head_size = 37

-- the link that the next record of a log carries
abbrev pub head_of : List (List ℕ) → List ℕ
head_of log = link_behind format2 format2.first_link log

-- The log of an image, or its damage. An image no longer than a new device is one.
unfoldable pub log_of : ℕ → List ℕ → Result (List (List ℕ)) Damage
log_of largest image =
    if nat_le (length image) new_size then Ok []
    else (if has_name format2 image then log_behind_name format2 largest image
    else (if has_name format1 image then Err OldFormat
    else Err (Damaged 0)))
