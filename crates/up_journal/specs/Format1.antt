-- The first format of a journal's image, which is read to be moved to the second. This project's own.
use Rattle.std.specs.Prelude.{ℕ, nat_le, List, [], ◌∷◌, length, Result, Ok, Err, if◌then◌else◌}
use Rattle.up_journal.specs.Damages.{Damage, Damaged}
use Rattle.up_journal.specs.Gates.{Format, has_name, log_behind_name, new_size}

-- the name is `UPSLOG1` and LF; a record carries no link
abbrev pub format1 : Format
format1 = record { name = 85 ∷ 80 ∷ 83 ∷ 76 ∷ 79 ∷ 71 ∷ 49 ∷ 10 ∷ []; link_size = 0; first_link = []; next_link = λ bytes. [] }

-- The log of an image of this format, or its damage. An image no longer than a new device is one.
unfoldable pub old_log_of : ℕ → List ℕ → Result (List (List ℕ)) Damage
old_log_of largest image =
    if nat_le (length image) new_size then Ok []
    else (if has_name format1 image then log_behind_name format1 largest image
    else Err (Damaged 0))
