-- Names of hosts. This project's own.
use Rattle.std.specs.Prelude.{ℕ, Bool, ◌&&◌, ◌||◌, nat_le, if◌then◌else◌, length, Option, Some, None}
use Rattle.std.specs.Char.{is_ascii_digit}
use Rattle.std.specs.List.{list_all}
use Rattle.up_names.specs.Texts.{Text}

-- a byte of the name of a host: `a-z 0-9`
abbrev pub is_name_byte : ℕ → Bool
is_name_byte b = (nat_le 97 b && nat_le b 122) || is_ascii_digit b

-- the name of a host: 1 to 32 of these bytes
abbrev pub is_host_name : Text → Bool
is_host_name word = nat_le 1 (length word) && nat_le (length word) 32 && list_all is_name_byte word

-- the name that a word is
abbrev pub host_named : Text → Option Text
host_named word = if is_host_name word then Some word else None
