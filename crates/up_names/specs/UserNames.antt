-- User names: a local part, perhaps `+` and a suffix, then `@` and a domain (Upspin overview). Which characters and
-- lengths are allowed, and the final period, are this project's own.
use Rattle.std.specs.Prelude.{ℕ, Bool, ◌-◌, ◌==◌, ◌&&◌, ◌||◌, not, nat_eq, nat_lt, nat_le}
use Rattle.std.specs.Prelude.{if◌then◌else◌, [], ◌∷◌, ◌++◌, length, take, count_by, Option, Some, None, Result, Ok, Err}
use Rattle.std.specs.List.{list_all, list_any, before_first, after_first, after_last, slice_split, starts_with, ends_with}
use Rattle.std.specs.Char.{is_ascii_alphanumeric, is_ascii_digit, is_ascii_lowercase}
use Rattle.std.specs.Str.{byte, str_to_ascii_lowercase}
use Rattle.up_names.specs.Texts.{Text, UserName}
use Rattle.up_names.specs.declared.fault.NameFault.{NameFault}
use Rattle.up_names.specs.declared.fault.NameFault.TheVariants.{TooLong, AtSigns, Local, Suffix, Domain}

-- the byte `@`
abbrev pub is_at : ℕ → Bool
is_at b = b == byte "@"

-- the byte `+`
abbrev pub is_plus : ℕ → Bool
is_plus b = b == byte "+"

-- the byte `.`
abbrev pub is_period : ℕ → Bool
is_period b = b == byte "."

-- A-Z a-z 0-9 _ -
abbrev pub is_name_byte : ℕ → Bool
is_name_byte b = is_ascii_alphanumeric b || b == byte "_" || b == byte "-"

-- a-z 0-9 -
abbrev pub is_label_byte : ℕ → Bool
is_label_byte b = is_ascii_lowercase b || is_ascii_digit b || b == byte "-"

-- from `low` to `high` bytes, each of which passes the test (this project's own lengths)
abbrev pub has_bytes : ℕ → ℕ → (ℕ → Bool) → Text → Bool
has_bytes low high test part = nat_le low (length part) && nat_le (length part) high && list_all test part

-- a local part: 1 to 64 of A-Z a-z 0-9 . _ -
unfoldable pub is_local_part : Text → Bool
is_local_part part = has_bytes 1 64 (λ b. is_name_byte b || is_period b) part

-- a suffix: 1 to 32 of A-Z a-z 0-9 _ -
unfoldable pub is_suffix : Text → Bool
is_suffix part = has_bytes 1 32 is_name_byte part

-- a label of a domain: 1 to 63 of a-z 0-9 -, with no - at either end
unfoldable pub is_label : Text → Bool
is_label label =
    has_bytes 1 63 is_label_byte label && not (starts_with nat_eq label (byte "-" ∷ [])) && not (ends_with nat_eq label (byte "-" ∷ []))

-- a domain in lower case: at least two labels between periods, the last of at least 2 characters
unfoldable pub is_domain : Text → Bool
is_domain text =
    let labels = slice_split is_period text in
    nat_le 2 (length labels) && list_all is_label labels && nat_le 2 (length (after_last is_period text))

-- the domain that a text names in any case
unfoldable pub domain_of : Text → Option Text
domain_of text = if is_domain (str_to_ascii_lowercase text) then Some (str_to_ascii_lowercase text) else None

-- a text without its final period, where it ends in one
unfoldable pub without_final_period : Text → Text
without_final_period text = if ends_with nat_eq text (byte "." ∷ []) then take (length text - 1) text else text

-- the part before the `@`: the local part, and with a `+` the suffix
abbrev pub name_part : UserName → Text
name_part user = before_first is_at user

-- the part after the `@`
abbrev pub domain_part : UserName → Text
domain_part user = after_first is_at user

-- the suffix after the first `+` of a name part, if there is a `+`
abbrev pub suffix_in : Text → Option Text
suffix_in name = if list_any is_plus name then Some (after_first is_plus name) else None

-- the canonical name of the user that a text names, or the first fault that fits: too long without its final period
-- (how long), a number of `@` other than one (how many), then the local part, the suffix and the domain
unfoldable pub user_of : Text → Result UserName NameFault
user_of text =
    let user = without_final_period text in
    let domain = str_to_ascii_lowercase (domain_part user) in
    if nat_lt 254 (length user) then Err (TooLong (length user))
    else if not (count_by is_at user == 1) then Err (AtSigns (count_by is_at user))
    else if not (is_local_part (before_first is_plus (name_part user))) then Err Local
    else if list_any is_plus (name_part user) && not (is_suffix (after_first is_plus (name_part user))) then Err Suffix
    else if not (is_domain domain) then Err Domain
    else Ok (name_part user ++ byte "@" ∷ domain)

-- a user's suffix, where it has one: a suffixed user is a user of its own
abbrev pub suffix_of : UserName → Option Text
suffix_of user = suffix_in (name_part user)

-- the user without its suffix
abbrev pub base_of : UserName → UserName
base_of user = before_first is_plus (name_part user) ++ byte "@" ∷ domain_part user
